-- Well-formed lists.
use Rattle.std.specs.Prelude.{◌≡◌, ℕ, ◌<◌, List, length, slice_get, Some, None}
use Rattle.fk_meaning_operation.specs.declared.operation.Operation.{Operation}
use Rattle.fk_meaning.specs.Processor.{values, setting_of}
use Rattle.fk_meaning.specs.Round.{Runner}
use Rattle.fk_meaning.specs.Schedule.{Schedule, run, ArePossible}
use Rattle.fk_core.specs.declared.op.CoreOp.{CoreOp}
use Rattle.fk_core.specs.Numbers.{operation_of}
use Rattle.fk_core.specs.Next.{Position, landing, next, list_opening}

-- The list has an operation at an index.
pub record IsOperation (core : List CoreOp) (i : ℕ) : Type 0 where
  pub op : CoreOp
  pub operation : Operation
  pub stands : slice_get core i ≡ Some op
  pub is_read : operation_of op.kind op.number ≡ Some operation

-- Each index has a next operation.
abbrev pub LeadsOn : List CoreOp → Type 0
LeadsOn core = (i : ℕ) → i < length core → IsOperation core (landing core i)

-- After every schedule of possible rounds, a processor that is about to do an operation has as many
-- values as the operation's depth.
abbrev pub HasDepths : List CoreOp → (main : ℕ) → Type 0
HasDepths core main =
    (words firsts input : List ℕ) (p : ℕ) (schedule : Schedule)
    → let setting = setting_of p words input in
    let first = list_opening main words firsts input p in
    let state = run (next core) setting schedule first in
    ArePossible (next core) setting schedule first
    → state.fault ≡ None
    → (h : ℕ) (r : Runner Position) (op : CoreOp)
    → slice_get state.runners h ≡ Some r
    → slice_get core (landing core r.left.at) ≡ Some op
    → length (values r.has) ≡ op.depth

pub record IsWellFormed (core : List CoreOp) (main : ℕ) : Type 0 where
  pub leads_on : LeadsOn core
  pub depths : HasDepths core main
