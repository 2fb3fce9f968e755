-- What is known of processors that are about to do their next operations, in their nodes.
use Rattle.std.specs.Prelude.{◌≡◌, ◌≢◌, ℕ, ◌≤◌, List, [], ◌∷◌, length, slice_get, Bool, true}
use Rattle.std.specs.Prelude.{false, Some, map, ◌⊎◌}
use Rattle.fk_space.specs.Space.{Space}
use Rattle.fk_tree.specs.declared.node.Kind.TheVariants.{Asynchronous}
use Rattle.fk_tree.specs.Tree as trees
use Rattle.fk_tree.specs.Tree.{Tree, is_member}
use Rattle.fk_meaning_operation.specs.Kinds.{joint_of}
use Rattle.fk_meaning_operation.specs.declared.operation.Operation.{Operation}
use Rattle.fk_meaning_operation.specs.declared.operation.Operation.TheVariants.{Begin, End, Halt}
use Rattle.fk_meaning_operation.specs.declared.operation.Operation.TheVariants.{Split, Shrink}
use Rattle.fk_meaning.specs.Processor.{Setting}
use Rattle.fk_core.specs.declared.op.CoreOp.{CoreOp}
use Rattle.fk_core.specs.Next.{is_jump, landing}
use Rattle.fk_core.specs.WellFormed.{IsOperation}
use Rattle.fk_sim_block.specs.Owner.{Owner, number_of}
use Rattle.fk_sim_block.specs.Next.{OpAt}
use Rattle.fk_sim_block.specs.Ready.{is_alone, IsReady}
use Rattle.fk_sim_block.specs.Block.{gone_to}
use Rattle.fk_sim_block.specs.Node.{Nestings, first_word}
use Rattle.fk_sim_block.specs.Found.{FindsFrame}
use Rattle.fk_sim_block.specs.Parts.{AreToDivide, AreInPart}
use Rattle.fk_sim_block.specs.Joint.{is_meeting, word_of}
use Rattle.fk_sim_block.specs.Start.{IsInRoot}
use Rattle.fk_sim_block.specs.Law.{is_shared_step, IsAskedOf}
use Rattle.fk_sim_block.specs.Laws.{AllGo}
use Rattle.fk_sim_match.specs.Nodes.{first_of, meeters_at, is_lockstep}
use Rattle.fk_sim_match.specs.Behind.{IsAskedToMove}
use Rattle.fk_sim_match.specs.Rounds.{joint_at_word}

-- A jump leads to an operation.
abbrev pub JumpsLead : List CoreOp → Type 0
JumpsLead core = (i : ℕ) (op : CoreOp) → slice_get core i ≡ Some op → is_jump op ≡ true
    → IsOperation core op.target

-- A processor at the index of the operation to which jumps lead it. It is in the same run, because
-- jumps are no operations.
abbrev pub landed : List CoreOp → Owner → Owner
landed core p = gone_to (landing core p.runner.left.at) p

abbrev pub all_landed : List CoreOp → List Owner → List Owner
all_landed core ps = map (landed core) ps

-- ---- in its node

-- A space has the words of another one, whatever is taken of them.
abbrev pub HasRange : (whole s : Space) → Type 0
HasRange whole s = (s.low ≡ whole.low) × (s.high ≡ whole.high)

-- What a processor has of its group is what its node has.
pub record IsHome (tree : Tree) (spaces : ℕ → Space) (number : ℕ) (p : Owner) : Type 0 where
  pub number_is : number_of p ≡ number
  pub words : first_word p.runner.has.level p.runner.has.outer
      ≡ first_of spaces (tree.places number)
  pub size : p.runner.has.level.size ≡ length (trees.members tree (tree.places number))
  pub range : tree.places number ≢ 0
      → HasRange (spaces (tree.places number)) p.runner.has.level.space

-- A processor by itself may meet others at an arrival word of its node.
pub record MayMeet (tree : Tree) (g number : ℕ) (operation : Operation) : Type 0 where
  pub meeting : is_meeting operation ≡ true
  pub joint : joint_of operation ≡ joint_at_word g (trees.kind tree g) (word_of operation)
  pub member : is_member number (meeters_at tree g (word_of operation)) ≡ true

-- A processor by itself may meet all others in the root, to begin the group of `start`.
pub record MayStart (nestings : Nestings) (setting : Setting) (tree : Tree) (g number : ℕ)
    (operation : Operation) (p : Owner) : Type 0 where
  pub begins : operation ≡ Begin
  pub root : g ≡ 0
  pub kind : trees.kind tree 0 ≡ Some (Asynchronous false)
  pub member : is_member number (trees.members tree 0) ≡ true
  pub in_root : IsInRoot nestings setting p

-- A processor may do an operation alone, and finds the frame that it asks for.
pub record MayAlone (nestings : Nestings) (operation : Operation) (p : Owner) : Type 0 where
  pub alone : is_alone operation ≡ true
  pub frame : FindsFrame nestings operation p.runner

-- What a processor may do by itself: an operation alone, a halt, a meeting in its node, or the
-- beginning of the group of `start`.
abbrev pub MayByItself : Nestings → Setting → Tree → (g number : ℕ) → Operation → Owner → Type 0
MayByItself nestings setting tree g number operation p =
    MayAlone nestings operation p ⊎ ((operation ≡ Halt)
    ⊎ (MayMeet tree g number operation ⊎ MayStart nestings setting tree g number operation p))

-- A processor is about to do an operation. If its node isn't in lockstep, it may do that by itself.
pub record HasNext (core : List CoreOp) (nestings : Nestings) (setting : Setting) (tree : Tree)
    (number : ℕ) (p : Owner) : Type 0 where
  pub op : CoreOp
  pub operation : Operation
  pub stands : OpAt core p.runner.left.at op operation
  pub ready : IsReady op operation p.runner
  pub may : is_lockstep (trees.kind tree (tree.places number)) ≡ false
      → MayByItself nestings setting tree (tree.places number) number operation p

-- ---- in a group

-- All processors are at one index.
abbrev pub AllAt : (i : ℕ) → List Owner → Type 0
AllAt i [] = Unit {0}
AllAt i (p ∷ ps) = (p.runner.left.at ≡ i) × AllAt i ps

-- All processors are about to do the same operation.
abbrev pub AllAbout : (i : ℕ) → CoreOp → Operation → List Owner → Type 0
AllAbout i op operation [] = Unit {0}
AllAbout i op operation (p ∷ ps) = (p.runner.left.at ≡ i) × IsReady op operation p.runner
    × AllAbout i op operation ps

-- What a group in lockstep may do: a local operation or a request by which all take the same
-- branch, a step of the tree in which they keep their node, a split, a turn of a loop that some may
-- leave, or the end of the group.
pub record ActsAlike (nestings : Nestings) (operation : Operation) (ps : List Owner) : Type 0 where
  pub alone : is_alone operation ≡ true
  pub onward : Bool
  pub go : AllGo nestings operation onward ps

pub record StepsAlike (operation : Operation) (ps : List Owner) : Type 0 where
  pub shared : is_shared_step operation ≡ true
  pub lowest : ℕ
  pub size : ℕ
  pub asked : IsAskedOf operation lowest size ps

abbrev pub MayMove : Nestings → Operation → List Owner → Type 0
MayMove nestings (Split by) ps =
    (space : Space) × (count : ℕ) × AreToDivide nestings by space count ps
MayMove nestings Shrink ps = (length ps ≤ 1024) × AreInPart nestings ps
MayMove nestings End ps = IsAskedToMove nestings End 0 ps
MayMove nestings operation ps = ⊥

abbrev pub MayInGroup : Nestings → Operation → List Owner → Type 0
MayInGroup nestings operation ps = ActsAlike nestings operation ps
    ⊎ (StepsAlike operation ps ⊎ MayMove nestings operation ps)

-- The members of a group, all of which have come to one index, are about to do one operation.
pub record HaveNext (core : List CoreOp) (nestings : Nestings) (ps : List Owner) : Type 0 where
  pub at : ℕ
  pub all_at : AllAt at ps
  pub op : CoreOp
  pub operation : Operation
  pub stands : OpAt core (landing core at) op operation
  pub about : AllAbout (landing core at) op operation (all_landed core ps)
  pub may : MayInGroup nestings operation (all_landed core ps)
