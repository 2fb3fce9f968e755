-- What the next operation of a position in a list is.
use Rattle.std.proofs.Common.{◌≡◌, slice_get, Option, Some, None, List, refl, sym}
use Rattle.fk_meaning_operation.specs.declared.operation.Operation.{Operation}
use Rattle.fk_meaning.specs.Round.{Step}
use Rattle.fk_core.specs.declared.op.CoreOp.{CoreOp}
use Rattle.fk_core.specs.Numbers.{operation_of}
use Rattle.fk_core.specs.Next.{Position, landing, follows, step_by, step_of, next}

module _ (core : List CoreOp) where
  pub record Found (left : Position) (step : Step Position) : Type 0 where
    pub op : CoreOp
    pub operation : Operation
    pub stands : slice_get core (landing core left.at) ≡ Some op
    pub reads : operation_of op.kind op.number ≡ Some operation
    pub is : step ≡ record { operation = operation; site = op.site; rest = follows core operation (landing core left.at) op.target left.callers }

  found_by : (left : Position) (step : Step Position) (op : CoreOp) (read : Option Operation) → slice_get core (landing core left.at) ≡ Some op
      → operation_of op.kind op.number ≡ read → step_by core (landing core left.at) left.callers op read ≡ Some step → Found left step
  found_by left step op None stands reads e = absurd (cc)
  found_by left step op (Some operation) stands reads e = record {
    op = op;
    operation = operation;
    stands = stands;
    reads = reads;
    is = (let same : record { operation = operation; site = op.site; rest = follows core operation (landing core left.at) op.target left.callers } ≡ step = cc in sym same);
  }

  found_in : (left : Position) (step : Step Position) (slot : Option CoreOp) → slice_get core (landing core left.at) ≡ slot
      → step_of core (landing core left.at) left.callers slot ≡ Some step → Found left step
  found_in left step None stands e = absurd (cc)
  found_in left step (Some op) stands e = found_by left step op (operation_of op.kind op.number) stands refl e

  pub found : (left : Position) (step : Step Position) → next core left ≡ Some step → Found left step
  found left step e = found_in left step (slice_get core (landing core left.at)) refl e
