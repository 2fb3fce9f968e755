-- What a law of blocks needs of a list besides its depths, with the private words that calls keep
-- at each index.
use Rattle.std.specs.Prelude.{◌≡◌, ℕ, ◌≤◌, List, slice_get, true, Some}
use Rattle.fk_meaning_operation.specs.declared.operation.Operation.{Operation}
use Rattle.fk_core.specs.declared.op.CoreOp.{CoreOp}
use Rattle.fk_core.specs.Numbers.{operation_of}
use Rattle.fk_core_typing.specs.LocalDepths.{needs}
use Rattle.fk_sim_block.specs.Lists.{AlwaysMay}
use Rattle.fk_sim_block.specs.Stands.{Frames}
use Rattle.fk_sim_block.specs.Suits.{Suits}
use Rattle.fk_core_liveness.specs.declared.set.Set.{Set}
use Rattle.fk_core_liveness.specs.Frames.{kept_in}
use Rattle.fk_lower_laws.specs.FreeLaws.{GoesOnWithin}
use Rattle.fk_lower_laws.specs.Levels.{HasRooms}

-- A list goes on within itself, and in every run each operation may be done.
pub record IsSteady (core : List CoreOp) (main : ℕ) : Type 0 where
  pub within : GoesOnWithin core main
  pub may : AlwaysMay core main

-- Each operation finds the values that it needs.
abbrev pub HasEnough : List CoreOp → Type 0
HasEnough core =
    (i : ℕ) (op : CoreOp) (operation : Operation) → slice_get core i ≡ Some op
    → operation_of op.kind op.number ≡ Some operation
    → needs operation ≤ op.depth

-- A list suits frames with this many private variables of file scope, which have room for its
-- levels.
pub record HasFrames (core : List CoreOp) (kept : List Set) (main firsts : ℕ) : Type 0 where
  pub frames : Frames
  pub of_file : frames.of_file ≡ firsts
  pub suits : Suits core frames main
  pub rooms : HasRooms core frames main
  -- In the frames calls keep no words except those of `kept`.
  pub keeps : (index word : ℕ) → frames.keeps index word ≡ true
      → kept_in (slice_get kept index) word ≡ true
