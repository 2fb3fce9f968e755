-- Lists whose runs a law of blocks carries, beside that they are well formed.
use Rattle.std.specs.Prelude.{◌≡◌, ℕ, ◌<◌, List, length, Bool, true, false, All, slice_get, Some}
use Rattle.fk_meaning_operation.specs.declared.operation.Operation.{Operation}
use Rattle.fk_meaning_operation.specs.declared.operation.Operation.TheVariants.{Leave, Halt}
use Rattle.fk_space.specs.Space.{IsSpace}
use Rattle.fk_meaning.specs.Processor.{setting_of, group_space}
use Rattle.fk_meaning.specs.Round.{Runner}
use Rattle.fk_meaning.specs.Schedule.{Schedule, run}
use Rattle.fk_core.specs.declared.op.CoreOp.{CoreOp}
use Rattle.fk_core.specs.Numbers.{operation_of}
use Rattle.fk_core.specs.Next.{Position, landing, next, list_opening}
use Rattle.fk_sim_block.specs.Ready.{MayDo}

-- The index of a processor, and those to which its calls return, are in the list.
pub record StaysInList (core : List CoreOp) (w : Position) : Type 0 where
  pub at : w.at < length core
  pub callers : All (λ i. i < length core) w.callers

-- The operations that end a call, or `main`.
abbrev pub is_end : Operation → Bool
is_end (Leave gives framed) = true
is_end Halt = true
is_end operation = false

-- In every run, whenever a processor is about to do an operation, it may, if the words for groups
-- are a space.
abbrev pub AlwaysMay : List CoreOp → (main : ℕ) → Type 0
AlwaysMay core main =
    (words firsts input : List ℕ) (p : ℕ) (schedule : Schedule)
    → let setting = setting_of p words input in
    IsSpace (group_space setting)
    → (h : ℕ) (r : Runner Position) (op : CoreOp) (operation : Operation)
    → slice_get (run (next core) setting schedule (list_opening main words firsts input p)).runners
    h ≡ Some r
    → slice_get core (landing core r.left.at) ≡ Some op
    → operation_of op.kind op.number ≡ Some operation
    → MayDo operation r
