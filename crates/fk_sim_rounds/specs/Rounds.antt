-- After each known round the plan binds all harts again.
use Rattle.std.specs.Prelude.{◌≡◌, ◌≢◌, ℕ, ◌^◌, ◌<◌, List, length, Bool, true, Option, Some}
use Rattle.fk_num.specs.Word.{Memory}
use Rattle.fk_space.specs.Space.{Space}
use Rattle.fk_tree.specs.declared.node.Kind.TheVariants.{Lockstep, Waiting, Asynchronous}
use Rattle.fk_tree.specs.Tree as trees
use Rattle.fk_tree.specs.Tree.{Tree, is_member}
use Rattle.fk_tree.specs.Sound.{IsSound}
use Rattle.fk_meaning_operation.specs.declared.operation.SplitKind.{SplitKind}
use Rattle.fk_meaning_operation.specs.declared.operation.Operation.{Operation}
use Rattle.fk_meaning_operation.specs.declared.operation.Operation.TheVariants.{Farm, Seq, End}
use Rattle.fk_meaning_operation.specs.declared.operation.Operation.TheVariants.{Meet, Resume, Split}
use Rattle.fk_meaning_operation.specs.declared.operation.Operation.TheVariants.{Shrink}
use Rattle.fk_meaning.specs.Processor.{Setting, values}
use Rattle.fk_meaning.specs.Group.{parts}
use Rattle.fk_meaning.specs.Round.{lowest, who}
use Rattle.fk_core.specs.declared.op.CoreOp.{CoreOp}
use Rattle.fk_image.specs.declared.Image.{Image}
use Rattle.fk_machine.specs.Hart.{Hart, Setting as MachineSetting}
use Rattle.fk_sim_nodes.specs.Node.{AreAsMany, Has}
use Rattle.fk_sim_match.specs.Stage.{Stage}
use Rattle.fk_sim_match.specs.Plan.{Plan, IsBound}
use Rattle.fk_sim_match.specs.Cycle.{IsLeft}
use Rattle.fk_sim_match.specs.Change.{TreeChanges, GoesOn}
use Rattle.fk_lockstep_nodes.specs.Steps.{StepsBy}
use Rattle.fk_sim_block.specs.Owner.{Owner, Doing, core_source}
use Rattle.fk_sim_block.specs.Stands.{Places}
use Rattle.fk_sim_block.specs.Block.{IsRunning}
use Rattle.fk_sim_block.specs.Node.{Nestings}
use Rattle.fk_sim_block.specs.Law.{Cycles, GroupLaw}
use Rattle.fk_sim_match.specs.Nodes.{first_of, HaveSpaces, plan_of}
use Rattle.fk_sim_match.specs.Behind.{blocks_of}
use Rattle.fk_sim_match.specs.Rounds.{AllDue}
use Rattle.fk_sim_rounds.specs.Next.{JumpsLead, all_landed}
use Rattle.fk_sim_rounds.specs.After.{actings, runners_of, tree_after, owners_after, ArePlaces}
use Rattle.fk_sim_rounds.specs.After.{AllLanded, AllGoOn, GroupsGoOn, AllSoon}

-- What holds before a cycle: the machine runs the image, the tree is sound, its nodes own words
-- apart, and each processor is at an operation and about to do what its stage tells.
pub record IsBefore (core : List CoreOp) (image : Image) (setting : Setting)
    (tree : Tree) (spaces : ℕ → Space) (nodes : List ℕ) (t : MachineSetting) (stages : List Stage)
    (hs : List Hart) (ps : List Owner) : Type 0 where
  pub running : IsRunning image setting t
  pub sound : IsSound setting.processors tree
  pub spaced : HaveSpaces tree spaces
  pub stand : ArePlaces tree 0 nodes
  pub many : length nodes ≡ setting.processors
  pub as_many : AreAsMany nodes hs ps
  pub landed : AllLanded core ps
  pub due : AllDue core tree spaces 0 stages (runners_of ps)

-- ---- the steps of the tree

-- A tree after a step is sound, and its nodes own words apart.
pub record IsTree (setting : Setting) (tree : Tree) (spaces : ℕ → Space) : Type 0 where
  pub sound : IsSound setting.processors tree
  pub spaced : HaveSpaces tree spaces

-- All members of a node are in that node itself, and none in a part of it.
abbrev pub AllStandIn : Tree → (g : ℕ) → Type 0
AllStandIn tree g = (h : ℕ) → is_member h (trees.members tree g) ≡ true → tree.places h ≡ g

-- What all who stand at a node may do together in a known round: those who have waited for their
-- parts go on, those of a body come to its end, and a group comes to a body, divides or ends. Some
-- may leave a part that isn't in the root. The beginning of the group of `start` (`RoundsStart`)
-- isn't among these steps.
abbrev pub StepIsKnown : Tree → (g : ℕ) → Operation → Type 0
StepIsKnown tree g Resume =
    ((first : ℕ) × (parts : ℕ) × (trees.kind tree g ≡ Some (Waiting first parts)))
    × AllStandIn tree g
StepIsKnown tree g (Meet true) =
    ((alone : Bool) × (trees.kind tree g ≡ Some (Asynchronous alone))) × AllStandIn tree g
StepIsKnown tree g Farm = trees.kind tree g ≡ Some Lockstep
StepIsKnown tree g Seq = trees.kind tree g ≡ Some Lockstep
StepIsKnown tree g End = trees.kind tree g ≡ Some Lockstep
StepIsKnown tree g (Split by) = trees.kind tree g ≡ Some Lockstep
StepIsKnown tree g Shrink =
    (trees.kind tree g ≡ Some Lockstep) × (trees.parent tree g ≢ 0)
StepIsKnown tree g operation = ⊥

-- A known round: at each node nobody changes the tree, or all who stand there do one known step.
-- The members of a group that divides make equally many parts.
pub record IsKnownRound (tree : Tree) (ds : List Doing) : Type 0 where
  pub does : ℕ → Option Operation
  pub steps : StepsBy tree does 0 (actings ds)
  pub known : (g : ℕ) (operation : Operation) → does g ≡ Some operation
      → StepIsKnown tree g operation
  pub divide : (g h : ℕ) (by : SplitKind) → does g ≡ Some (Split by)
      → is_member h (trees.members tree g) ≡ true
      → parts by (values (who (actings ds) h))
      ≡ parts by (values (who (actings ds) (lowest (trees.members tree g))))

-- A known round in which a group ends.
pub record EndsGroup (tree : Tree) (ds : List Doing) : Type 0 where
  pub round : IsKnownRound tree ds
  pub group : ℕ
  pub ends : round.does group ≡ Some End

-- After cycle t another plan binds all harts: the tree has changed no more than it may, a hart that
-- was at a distance is nearer, and those who go on meeting have moved.
pub record PlanGoesOn (core : List CoreOp) (image : Image) (places : Places) (nestings : Nestings)
    (setting : Setting) (spaces : ℕ → Space) (plan plan' : Plan) (t : MachineSetting)
    (stages stages' : List Stage) (hs : List Hart) (afters : List (Option Stage))
    (ps ps' : List Owner) (own : ℕ → Memory) (control : Memory) : Type 0 where
  pub changes : TreeChanges (core_source core setting) image plan
      (blocks_of core image places nestings setting plan (first_of spaces)) plan'
      (blocks_of core image places nestings setting plan' (first_of spaces)) t hs afters
      stages' ps ps' control
  pub goes : GoesOn (core_source core setting) image plan
      (blocks_of core image places nestings setting plan (first_of spaces)) plan'
      (blocks_of core image places nestings setting plan' (first_of spaces)) t stages stages'
      hs ps' own control

-- The plan of the next tree binds all harts. Each processor is about to do what its stage tells,
-- and one that has committed is near its next commit.
pub record AreBoundAgain (core : List CoreOp) (image : Image) (places : Places)
    (nestings : Nestings) (setting : Setting) (plan : Plan) (tree : Tree) (spaces : ℕ → Space)
    (nodes : List ℕ) (t : MachineSetting) (stages : List Stage) (hs : List Hart)
    (afters : List (Option Stage)) (ps ps' : List Owner) (own : ℕ → Memory)
    (control : Memory) : Type 0 where
  pub stages' : List Stage
  pub on : PlanGoesOn core image places nestings setting spaces plan
      (plan_of tree spaces nodes) t stages stages' hs afters ps ps' own control
  pub due : AllDue core tree spaces 0 stages' (runners_of ps')
  pub soon : AllSoon afters stages'

abbrev pub RoundsBindAgain : Type 0
RoundsBindAgain =
    (core : List CoreOp) (image : Image) (places : Places) (nestings : Nestings) (cycles : Cycles)
    (firsts : List ℕ) (main : ℕ) (setting : Setting) (tree : Tree)
    (spaces : ℕ → Space) (nodes nodes' : List ℕ) (t : MachineSetting) (stages : List Stage)
    (before hs : List Hart) (ps : List Owner) (ds : List Doing) (own own' : ℕ → Memory)
    (control : Memory)
    → let plan = plan_of tree spaces nodes in
    let blocks = blocks_of core image places nestings setting plan (first_of spaces) in
    let next = tree_after tree ds in
    let qs = owners_after tree next ds in
    GroupLaw core image places nestings cycles firsts main → JumpsLead core
    → IsBefore core image setting tree spaces nodes t stages hs ps
    → length before < 2 ^ 31
    → IsBound (core_source core setting) image plan blocks t stages before ps own
    → (left : IsLeft (core_source core setting) image plan blocks t stages hs ps ds own own')
    → ((k : ℕ) → Has (plan.words k) control (own' k))
    → IsKnownRound tree ds → IsTree setting next spaces → ArePlaces next 0 nodes'
    → length nodes' ≡ length nodes
    → AllGoOn core nestings setting next spaces 0 left.afters ds qs
    → GroupsGoOn core nestings next nodes' left.afters qs
    → AreBoundAgain core image places nestings setting plan next spaces nodes' t stages hs
    left.afters ps (all_landed core qs) own control
