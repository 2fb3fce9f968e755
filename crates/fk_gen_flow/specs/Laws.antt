-- What the blocks of control flow do in place.
use Rattle.std.specs.Prelude.{◌≡◌, ℕ, suc, ◌-◌, ◌^◌, ◌<◌, ◌≤◌, List, true, false, Some}
use Rattle.std.specs.Prelude.{slice_get, slice_index}
use Rattle.fk_meaning_operation.specs.declared.operation.Operation.{Operation}
use Rattle.fk_meaning_operation.specs.declared.operation.Operation.TheVariants.{Enter, Halt}
use Rattle.fk_meaning.specs.Processor.{Setting}
use Rattle.fk_core.specs.declared.op.CoreOp.{CoreOp}
use Rattle.fk_core.specs.Next.{is_jump, behind_jump}
use Rattle.fk_image.specs.declared.Image.{Image}
use Rattle.fk_machine.specs.Hart.{Setting as MachineSetting}
use Rattle.fk_sim_block.specs.Stands.{Places, Frames, ReturnPoint}
use Rattle.fk_sim_block.specs.Next.{OpAt}
use Rattle.fk_sim_block.specs.Ready.{is_alone}
use Rattle.fk_sim_block.specs.Suits.{Flows, Fits, nothing}
use Rattle.fk_sim_block.specs.Block.{IsRunning, BlockDoes, BlockJumps, BlockHalts, Begins, beginner}
use Rattle.fk_gen.specs.InPlace.{HasBlock, LinesAt}
use Rattle.fk_gen_flow.specs.Flow.{jump_block}
use Rattle.fk_gen_flow.specs.Calls.{HasShared, most_privates, past_return}
use Rattle.fk_gen_flow.specs.Opening.{AreFirsts, HasOpening}
use Rattle.fk_gen_flow.specs.Blocks.{is_flow, flow_block}
use Rattle.fk_gen_flow.specs.Keeps.{BlockKeeps, before_commit, behind_commit}

-- The block of a jump leads to the block of its target.
abbrev pub JumpsGo : Type 0
JumpsGo =
    (core : List CoreOp) (image : Image) (places : Places) (bound : ℕ → ℕ) (i : ℕ) (op : CoreOp)
    → is_jump op ≡ true
    → HasBlock image bound places i (jump_block op.target)
    → Flows core places.frames nothing i op.target → BlockJumps core image places i op

-- A call at an index returns into its own block, and its caller goes on after the first jump from
-- the next index on.
abbrev pub return_in : List CoreOp → (block : (index : ℕ) → ℕ) → (i : ℕ) → ReturnPoint
return_in core block i = record {
  word = block (suc i) - past_return;
  index = behind_jump core (suc i);
}

-- The calls of a list return there, and at each word to which a call returns stands the jump to
-- where its caller goes on.
pub record CallsReturn (core : List CoreOp) (image : Image) (bound : ℕ → ℕ)
    (places : Places) : Type 0 where
  pub points : (i : ℕ) (op : CoreOp) (arguments : ℕ) → OpAt core i op (Enter arguments)
      → places.returns i ≡ Some (return_in core places.block i)
  pub jumps : (i : ℕ) (point : ReturnPoint) → places.returns i ≡ Some point
      → LinesAt image bound point.word (jump_block point.index)

-- The jumps of a list have their blocks.
abbrev pub HasJumps : List CoreOp → Image → (bound : ℕ → ℕ) → Places → Type 0
HasJumps core image bound places =
    (i : ℕ) (op : CoreOp) → slice_get core i ≡ Some op → is_jump op ≡ true
    → HasBlock image bound places i (jump_block op.target)

-- A call clears each private word after its arguments that is kept as it begins, and no word past
-- those of its frame.
abbrev pub ClearsEnough : Frames → (i clears : ℕ) → Operation → Type 0
ClearsEnough frames i clears (Enter arguments) = (clears ≤ most_privates)
    × ((word : ℕ) → word < most_privates → frames.keeps (suc i) word ≡ true
    → arguments ≤ word → word < clears)
ClearsEnough frames i clears operation = Unit {0}

-- The blocks of branches, calls and ends of calls do their operations, where the image also has the
-- code that calls share and the jumps to which calls return.
abbrev pub FlowBlocksDo : Type 0
FlowBlocksDo =
    (core : List CoreOp) (image : Image) (places : Places) (bound : ℕ → ℕ) (i : ℕ) (op : CoreOp)
    (operation : Operation) (clears back : ℕ)
    → OpAt core i op operation → is_alone operation ≡ true → is_flow operation ≡ true
    → op.site < 2 ^ 32
    → HasBlock image bound places i (flow_block clears back op) → HasShared image bound
    → CallsReturn core image bound places
    → places.frames.of_file ≤ 56 → Fits core places.frames i op operation
    → ClearsEnough places.frames i clears operation
    → BlockDoes core image places 1 i op operation

-- The blocks of branches, calls and ends of calls take this many cycles, and keep what must be
-- kept.
abbrev pub FlowBlocksKeep : Type 0
FlowBlocksKeep =
    (core : List CoreOp) (image : Image) (places : Places) (bound : ℕ → ℕ) (i : ℕ) (op : CoreOp)
    (operation : Operation) (clears back : ℕ)
    → OpAt core i op operation → is_alone operation ≡ true → is_flow operation ≡ true
    → op.site < 2 ^ 32
    → HasBlock image bound places i (flow_block clears back op) → HasShared image bound
    → CallsReturn core image bound places
    → places.frames.of_file ≤ 56 → Fits core places.frames i op operation
    → ClearsEnough places.frames i clears operation
    → BlockKeeps core image places 1 (before_commit operation)
    (behind_commit clears operation) i op operation

-- The block of a halt ends its hart.
abbrev pub HaltsEnd : Type 0
HaltsEnd =
    (core : List CoreOp) (image : Image) (places : Places) (bound : ℕ → ℕ) (i : ℕ) (op : CoreOp)
    (clears back : ℕ) → OpAt core i op Halt
    → HasBlock image bound places i (flow_block clears back op)
    → BlockHalts core image places 1 i op

-- From its start each hart comes to the block where `main` begins, with the first values of private
-- variables.
abbrev pub HartsBegin : Type 0
HartsBegin =
    (core : List CoreOp) (image : Image) (places : Places) (bound : ℕ → ℕ)
    (firsts : List ℕ) (main : ℕ)
    → HasOpening image bound places firsts main → AreFirsts places.frames.of_file firsts
    → places.frames.is_main main ≡ true
    → places.frames.group main ≡ false
    → (setting : Setting) (t : MachineSetting) (number : ℕ) → IsRunning image setting t
    → Begins core image places t (beginner setting (slice_index firsts) main number)
