-- The law of blocks of processors in groups.
use Rattle.std.specs.Prelude.{◌≡◌, ℕ, ◌<◌, ◌≤◌, List, length, Bool, true, false, Option, Some, None}
use Rattle.std.specs.Prelude.{slice_get, slice_index}
use Rattle.fk_meaning_operation.specs.Kinds.{class_of}
use Rattle.fk_meaning_operation.specs.declared.kinds.Class.{Class}
use Rattle.fk_meaning_operation.specs.declared.kinds.Class.TheVariants.{Local, Request, Tree}
use Rattle.fk_meaning_operation.specs.declared.operation.SplitKind.{SplitKind}
use Rattle.fk_meaning_operation.specs.declared.operation.Operation.{Operation}
use Rattle.fk_meaning_operation.specs.declared.operation.Operation.TheVariants.{Agree, Begin, Farm}
use Rattle.fk_meaning_operation.specs.declared.operation.Operation.TheVariants.{Seq, End, Halt}
use Rattle.fk_meaning_operation.specs.declared.operation.Operation.TheVariants.{Frame, Block, Split}
use Rattle.fk_meaning_operation.specs.declared.operation.Operation.TheVariants.{Shrink}
use Rattle.fk_meaning.specs.Processor.{Processor, Setting}
use Rattle.fk_meaning.specs.Local.{is_onward}
use Rattle.fk_core.specs.declared.op.CoreOp.{CoreOp}
use Rattle.fk_core.specs.Next.{is_jump}
use Rattle.fk_image.specs.declared.Image.{Image}
use Rattle.fk_machine.specs.Hart.{Hart, Setting as MachineSetting}
use Rattle.fk_sim_nodes.specs.Node.{Member}
use Rattle.fk_sim_nodes.specs.Alone.{Holds, IsPrivateIn}
use Rattle.fk_sim_nodes.specs.OneHart.{OneDoes}
use Rattle.fk_sim_block.specs.Owner.{Owner, Doing, owner_of, core_source}
use Rattle.fk_sim_block.specs.Stands.{Places, StandsAt}
use Rattle.fk_sim_block.specs.Next.{OpAt}
use Rattle.fk_sim_block.specs.Ready.{is_alone}
use Rattle.fk_sim_block.specs.Block.{most_before, most_behind, IsRunning, Enters, HasDone}
use Rattle.fk_sim_block.specs.Block.{BlockHalts, Begins, beginner, gone_to}
use Rattle.fk_sim_block.specs.Node.{Nestings, StandsInNode}
use Rattle.fk_sim_block.specs.Found.{FindsFrame}
use Rattle.fk_sim_block.specs.Lockstep.{IsMember, StepTogether, PartTogether, EndTogether}
use Rattle.fk_sim_block.specs.Lockstep.{AreInGroup, AreOfSize, IsLowest, one_runs}
use Rattle.fk_sim_block.specs.Joint.{most_to_meet, is_meeting, BlockMeets}
use Rattle.fk_sim_block.specs.Parts.{DividesTogether, FaultsTogether, ShrinksTogether, EndsPart}
use Rattle.fk_sim_block.specs.Start.{most_united, most_to_start, BlockStarts}

-- Which branch an operation takes, known before it is done. All but local operations go on.
abbrev pub way_by : Class → Operation → Processor → Bool
way_by Local operation p = is_onward operation p
way_by Request operation p = true
way_by Tree operation p = true

abbrev pub way_of : Operation → Processor → Bool
way_of operation p = way_by (class_of operation) operation p

-- The steps that take words of the group's space: a group frame, and a block of `shalloc`.
abbrev pub takes_words : Operation → Bool
takes_words (Frame number words) = true
takes_words Block = true
takes_words operation = false

-- The steps after which the members of a group are in lockstep still, in their node.
abbrev pub stays_in_step : Operation → Bool
stays_in_step Agree = true
stays_in_step operation = takes_words operation

-- The steps of the tree that the members of a group in lockstep do together, and in which they keep
-- their node.
abbrev pub is_shared_step : Operation → Bool
is_shared_step Farm = true
is_shared_step Seq = true
is_shared_step operation = stays_in_step operation

-- The steps after which each member goes on by itself.
abbrev pub sets_apart : Operation → Bool
sets_apart Farm = true
sets_apart Seq = true
sets_apart operation = false

-- What a step asks of its members.
abbrev pub IsAskedOf : Operation → (lowest size : ℕ) → List Owner → Type 0
IsAskedOf Farm lowest size ps = (size ≤ 1024) × AreOfSize size ps
IsAskedOf Seq lowest size ps = (length ps ≤ 1024) × IsLowest lowest ps
IsAskedOf (Frame number words) lowest size ps = AreInGroup ps
IsAskedOf Block lowest size ps = AreInGroup ps
IsAskedOf operation lowest size ps = Unit {0}

-- How many members run a body after a step, as a member sees it: after a `farm` all, after a `seq`
-- the lowest alone, and after other steps none.
abbrev pub runs_behind : Operation → (lowest size : ℕ) → Owner → Option ℕ
runs_behind Farm lowest size p = Some size
runs_behind Seq lowest size p = one_runs lowest p
runs_behind operation lowest size p = None

-- The number of cycles that a block runs before its commit, by the index of its operation, and
-- after it, by the index and the branch that is taken. So members who come to a block together
-- commit together, and are at the next block together.
pub record Cycles : Type 0 where
  pub before : (index : ℕ) → ℕ
  pub behind : (index : ℕ) → (onward : Bool) → ℕ

module _ (core : List CoreOp) (image : Image) (places : Places) (nestings : Nestings) where
  -- The processor has done its operation, and the hart is in its node where that processor goes on.
  pub record HasDoneInNode (setting : Setting) (runs : Option ℕ) (d : Doing)
      (h : Hart) : Type 0 where
    pub done : HasDone core image places d h
    pub node : StandsInNode places nestings setting runs (owner_of d) h

  -- The block of a jump, for a member of a node.
  pub record JumpsInNode (setting : Setting) (t : MachineSetting) (runs : Option ℕ) (m : Member)
      (p : Owner) (target : ℕ) : Type 0 where
    pub hart : Hart
    pub private : IsPrivateIn image t m.number m.hart hart
    pub at : StandsAt places (gone_to target p) hart
    pub node : StandsInNode places nestings setting runs (gone_to target p) hart

  abbrev pub BlockJumpsInNode : (i : ℕ) → CoreOp → Type 0
  BlockJumpsInNode i op =
      (setting : Setting) (t : MachineSetting) (runs : Option ℕ) (first : ℕ)
      (m : Member) (p : Owner)
      → Holds image t → p.runner.left.at ≡ i → IsMember places nestings setting runs first m p
      → JumpsInNode setting t runs m p op.target

  -- From its start each hart comes to the block where `main` begins, in the root, whose body all
  -- harts run.
  pub record BeginsInNode (setting : Setting) (t : MachineSetting) (p : Owner) : Type 0 where
    pub begins : Begins core image places t p
    pub node : StandsInNode places nestings setting (Some setting.processors) p begins.hart

  module _ (cycles : Cycles) where
    -- The block of a local operation or a request, for a member of a node. Where it gets the
    -- address of a word in the frame of a part, that frame has to be found.
    abbrev pub BlockDoesInNode : (count i : ℕ) → CoreOp → Operation → Type 0
    BlockDoesInNode count i op operation =
        (setting : Setting) (t : MachineSetting) (runs : Option ℕ) (first : ℕ)
        (m : Member) (p : Owner)
        → Enters core image places setting t i op operation p m.hart
        → IsMember places nestings setting runs first m p
        → FindsFrame nestings operation p.runner
        → OneDoes (core_source core setting) image t count (cycles.before i)
        (cycles.behind i (way_of operation p.runner.has)) m p
        (λ h d. HasDoneInNode setting runs d h)

    -- The law of blocks for groups.
    pub record GroupLaw (firsts : List ℕ) (main : ℕ) : Type 0 where
      pub few_before : (i : ℕ) → cycles.before i ≤ most_before
      pub few_behind : (i : ℕ) (onward : Bool) → cycles.behind i onward ≤ most_behind
      pub alone : (i : ℕ) (op : CoreOp) (operation : Operation) → OpAt core i op operation
          → is_alone operation ≡ true → BlockDoesInNode 1 i op operation
      pub jumps : (i : ℕ) (op : CoreOp) → slice_get core i ≡ Some op → is_jump op ≡ true
          → BlockJumpsInNode i op
      pub halts : (i : ℕ) (op : CoreOp) → OpAt core i op Halt
          → BlockHalts core image places 1 i op
      pub begins : (setting : Setting) (t : MachineSetting) (number : ℕ) → IsRunning image setting t
          → number < setting.processors
          → BeginsInNode setting t (beginner setting (slice_index firsts) main number)
      -- Members who come to a step in lockstep do it together. After it they are still in lockstep,
      -- or each goes on by itself. A frame without room is the fault of the lowest.
      pub steps : (i : ℕ) (op : CoreOp) (operation : Operation) (lowest size : ℕ)
          → OpAt core i op operation → stays_in_step operation ≡ true
          → StepTogether core image places nestings i op operation 1
          (IsAskedOf operation lowest size) (cycles.before i) (cycles.behind i true) None
          (λ p. None) lowest size
      pub parts : (i : ℕ) (op : CoreOp) (operation : Operation) (lowest size : ℕ)
          → OpAt core i op operation → sets_apart operation ≡ true
          → PartTogether core image places nestings i op operation 1
          (IsAskedOf operation lowest size) (cycles.before i) (cycles.behind i true) None
          (runs_behind operation lowest size) lowest size
      pub ends : (i : ℕ) (op : CoreOp) (lowest size : ℕ) → OpAt core i op End
          → EndTogether core image places nestings i op 1 (cycles.behind i true) lowest size
      -- Parts begin, shrink and end. A split without room is the fault of the lowest.
      pub divides : (i : ℕ) (op : CoreOp) (by : SplitKind) → OpAt core i op (Split by)
          → DividesTogether core image places nestings i op by (cycles.before i) (cycles.behind i)
      pub lacks : (i : ℕ) (op : CoreOp) (by : SplitKind) → OpAt core i op (Split by)
          → FaultsTogether core image places nestings i op by
      pub shrinks : (i : ℕ) (op : CoreOp) → OpAt core i op Shrink
          → ShrinksTogether core image places nestings i op (cycles.before i) (cycles.behind i)
      pub ends_part : (i : ℕ) (op : CoreOp) → OpAt core i op End
          → EndsPart core image places nestings i op (cycles.behind i)
      -- Members who meet at an arrival word do so by phases.
      pub meets : (i : ℕ) (op : CoreOp) (operation : Operation) → OpAt core i op operation
          → is_meeting operation ≡ true
          → BlockMeets core image places nestings i op operation most_to_meet
      -- At the beginning of `start` all processors meet in the root, and commit soon after.
      pub few_to_begin : (i : ℕ) (op : CoreOp) → OpAt core i op Begin
          → cycles.before i < most_united
      pub starts : (i : ℕ) (op : CoreOp) → OpAt core i op Begin
          → BlockStarts core image places nestings i op (nestings.start.there i)
          (nestings.start.coming i) most_to_start (cycles.before i) (cycles.behind i)
