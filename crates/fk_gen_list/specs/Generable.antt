-- Lists for which code can be generated, and what the code does.
use Rattle.std.specs.Prelude.{◌≡◌, ℕ, suc, ◌<◌, ◌^◌, List, length, All, Bool, true, false, IsSome}
use Rattle.std.specs.Prelude.{Option, Some, None, slice_get, if◌then◌else◌, ◌⊎◌}
use Rattle.fk_meaning_operation.specs.declared.operation.Operation.{Operation}
use Rattle.fk_meaning_operation.specs.declared.operation.Operation.TheVariants.{Branch, Enter, Halt}
use Rattle.fk_meaning_operation.specs.declared.operation.Operation.TheVariants.{Get}
use Rattle.fk_meaning_operation.specs.declared.operation.OwnValue.TheVariants.{FrameAddress}
use Rattle.fk_core.specs.declared.op.CoreOp.{CoreOp}
use Rattle.fk_core.specs.Next.{is_jump, behind_jump}
use Rattle.fk_core.specs.Numbers.{operation_of}
use Rattle.fk_image.specs.declared.Image.{Image}
use Rattle.fk_asm.specs.declared.code.Code.{Code}
use Rattle.fk_sim_block.specs.Stands.{Frames, Places, ReturnPoint}
use Rattle.fk_sim_block.specs.Next.{OpAt}
use Rattle.fk_sim_block.specs.Ready.{is_alone}
use Rattle.fk_sim_block.specs.Suits.{Suits}
use Rattle.fk_sim_block.specs.Block.{BlockLaw}
use Rattle.fk_core_liveness.specs.declared.set.Set.{Set}
use Rattle.fk_gen.specs.declared.placed.Levels.{Levels}
use Rattle.fk_core_liveness.specs.Frames.{kept_in}
use Rattle.fk_gen.specs.InPlace.{HasBlock}
use Rattle.fk_gen_access.specs.Heap.{HasHeap}
use Rattle.fk_gen_flow.specs.Calls.{HasShared}
use Rattle.fk_gen_flow.specs.Laws.{return_in}
use Rattle.fk_gen_flow.specs.Opening.{HasOpening}
use Rattle.fk_gen_group.specs.Blocks.{HasStart, HasLevelWords, HasSplitValues, is_group_step}
use Rattle.fk_gen_group.specs.Splits.{HasParts}
use Rattle.fk_gen_list.specs.Kinds.{block_of}
use Rattle.fk_gen_list.specs.Events.{TellEvents}
use Rattle.fk_gen.specs.Levels.{levels_in}
use Rattle.fk_gen_list.specs.Layout.{placed}

-- Frames keep no words except those of the sets.
abbrev pub AreKept : Frames → List Set → Type 0
AreKept frames kept = (index word : ℕ) → frames.keeps index word ≡ true
    → kept_in (slice_get kept index) word ≡ true

-- An operation with a block of its own: one that a processor does alone, a halt, or a step of a
-- group.
abbrev pub HasOwnBlock : Operation → Type 0
HasOwnBlock operation = (is_alone operation ≡ true)
    ⊎ ((operation ≡ Halt) ⊎ (is_group_step (Some operation) ≡ true))

-- The operations with a target in the list: branches and steps of groups. A step that goes straight
-- on has target 0.
abbrev pub has_target : Operation → Bool
has_target (Branch onward) = true
has_target operation = is_group_step (Some operation)

-- A list of jumps and of operations that have blocks. Its targets are in the list, and so is the
-- index where the caller of a call goes on.
pub record HasBlocks (core : List CoreOp) : Type 0 where
  pub jumps : (i : ℕ) (op : CoreOp) → slice_get core i ≡ Some op → is_jump op ≡ true
      → op.target < length core
  pub operations : (i : ℕ) (op : CoreOp) (operation : Operation) → OpAt core i op operation
      → HasOwnBlock operation
  pub targets : (i : ℕ) (op : CoreOp) (operation : Operation) → OpAt core i op operation
      → has_target operation ≡ true → op.target < length core
  pub returns : (i : ℕ) (op : CoreOp) (arguments : ℕ) → OpAt core i op (Enter arguments)
      → behind_jump core (suc i) < length core

-- A list that suits some frames with as many private variables of file scope as there are first
-- values, in which calls keep no words except these, and which have room for these levels.
pub record IsGenerable (core : List CoreOp) (kept : List Set) (saved : List Levels) (main : ℕ)
    (firsts : List ℕ) : Type 0 where
  pub blocks : HasBlocks core
  pub operations : (i : ℕ) (op : CoreOp) → slice_get core i ≡ Some op → is_jump op ≡ false
      → IsSome (operation_of op.kind op.number)
  pub begins : main < length core
  pub frames : Frames
  pub suits : Suits core frames main
  pub keeps : AreKept frames kept
  pub of_file : frames.of_file ≡ length firsts
  pub levels : (i : ℕ) (op : CoreOp) (operation : Operation) → OpAt core i op operation
      → HasLevelWords (Some operation) (levels_in saved i)
  pub values : (i : ℕ) (op : CoreOp) (operation : Operation) → OpAt core i op operation
      → HasSplitValues (Some operation) op.depth
  -- The numbers are words, as in every slice.
  pub words : All (λ op. (op.site < 2 ^ 32) × (op.number < 2 ^ 32)) core
  pub first_words : All (λ v. v < 2 ^ 32) firsts

-- The most words that a block has.
abbrev pub words_by : Option Operation → ℕ
words_by (Some (Enter arguments)) = 14
words_by operation = 15

abbrev pub most_words : CoreOp → ℕ
most_words op = if is_jump op then 1 else words_by (operation_of op.kind op.number)

-- Where calls of a list return, if the block of each index is at its word: only calls return.
abbrev pub return_by : List CoreOp → (block : (index : ℕ) → ℕ) → (index : ℕ) → Option Operation
    → Option ReturnPoint
return_by core block index (Some (Enter arguments)) = Some (return_in core block index)
return_by core block index operation = None

abbrev pub return_at : List CoreOp → (block : (index : ℕ) → ℕ) → (index : ℕ) → Option CoreOp
    → Option ReturnPoint
return_at core block index None = None
return_at core block index (Some op) = if is_jump op then None
    else return_by core block index (operation_of op.kind op.number)

-- The places of a list in these frames, if the block of each index is at its word.
abbrev pub places_in : List CoreOp → (block : (index : ℕ) → ℕ) → Frames → Places
places_in core block frames = record {
  block = block;
  returns = λ index. return_at core block index (slice_get core index);
  frames = frames;
}

-- An image has this code, and this many words of globals.
pub record HasCode (code : Code) (globals : ℕ) (image : Image) : Type 0 where
  pub words : image.code.items ≡ code.words.items
  pub commits : image.commits.items ≡ code.commits.items
  pub globals_of : length image.globals.items ≡ globals

-- No call gets the address of a word in the frame of a part.
abbrev pub HasNoPartFrames : List CoreOp → Type 0
HasNoPartFrames core = (i : ℕ) (op : CoreOp) (part word : ℕ)
    → OpAt core i op (Get (FrameAddress (suc part) word)) → ⊥

-- Each image with this code has the law of blocks of single processors, in all frames that suit the
-- list and keep no words except these, if parts have no frames.
abbrev pub DoesTheList : (core : List CoreOp) (kept : List Set) (main : ℕ) (firsts : List ℕ)
    (globals : ℕ) → Code → Type 0
DoesTheList core kept main firsts globals code =
    (image : Image) (frames : Frames) → HasCode code globals image → Suits core frames main
    → AreKept frames kept
    → frames.of_file ≡ length firsts → HasNoPartFrames core → (block : (index : ℕ) → ℕ)
    × BlockLaw core image (places_in core block frames) firsts main

-- ---- an image with all of the code

-- The image has the opening, the block of each index, which clears where it has to, and the code
-- that calls, beginnings of `start` and blocks of `shmalloc` share. Calls return into their blocks.
pub record HasWholeCode (core : List CoreOp) (kept : List Set) (saved : List Levels)
    (image : Image) (bound : ℕ → ℕ) (places : Places) (firsts : List ℕ)
    (main : ℕ) : Type 0 where
  pub opening : HasOpening image bound places firsts main
  pub blocks : (i : ℕ) (op : CoreOp) → slice_get core i ≡ Some op
      → HasBlock image bound places i
      (block_of (placed core (length image.globals.items) kept saved i op))
  pub returns : (i : ℕ) → places.returns i ≡ return_at core places.block i (slice_get core i)
  pub shared : HasShared image bound
  pub start : HasStart image bound
  pub heap : HasHeap image bound
  pub parts : HasParts image bound

-- Each image with this code has all of it, with each label bound to a word, and each of its commits
-- tells the event of its operation.
abbrev pub GivesWholeCode : (core : List CoreOp) (kept : List Set) (saved : List Levels)
    (main : ℕ) (firsts : List ℕ) (globals : ℕ) → Code → Type 0
GivesWholeCode core kept saved main firsts globals code =
    (image : Image) (frames : Frames) → HasCode code globals image → frames.of_file ≡ length firsts
    → (block : (index : ℕ) → ℕ) × ((bound : (label : ℕ) → ℕ)
    × (HasWholeCode core kept saved image bound (places_in core block frames) firsts main
    × TellEvents core image bound (places_in core block frames)))
