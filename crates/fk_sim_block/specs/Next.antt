-- The operation at an index is the next one of a processor at that index.
use Rattle.std.specs.Prelude.{◌≡◌, ℕ, suc, List, false, Some, slice_get}
use Rattle.fk_meaning_operation.specs.declared.operation.Operation.{Operation}
use Rattle.fk_meaning.specs.Processor.{Setting}
use Rattle.fk_meaning.specs.Round.{Step, taking, after_locals}
use Rattle.fk_core.specs.declared.op.CoreOp.{CoreOp}
use Rattle.fk_core.specs.Numbers.{operation_of}
use Rattle.fk_core.specs.Next.{Position, is_jump, follows, next}
use Rattle.fk_sim_block.specs.Owner.{Commons, Owner, phases, part}

-- The list has this operation at index i.
pub record OpAt (core : List CoreOp) (i : ℕ) (op : CoreOp)
    (operation : Operation) : Type 0 where
  pub stands : slice_get core i ≡ Some op
  pub no_jump : is_jump op ≡ false
  pub is_read : operation_of op.kind op.number ≡ Some operation

abbrev pub step_at : (core : List CoreOp) → (i : ℕ) → CoreOp → Operation
    → (callers : List ℕ) → Step Position
step_at core i op operation callers =
    record {
      operation = operation;
      site = op.site;
      rest = follows core operation i op.target callers;
    }

-- A processor that is at the index of an operation after some local ones does all of them, if it
-- takes part with a count that is one higher.
abbrev pub OperationsAreNext : Type 0
OperationsAreNext =
    (core : List CoreOp) (i : ℕ) (op : CoreOp) (operation : Operation) (setting : Setting)
    (inner : ℕ) (s : Commons) (p : Owner)
    → let r = after_locals (next core) setting inner p.runner in
    OpAt core i op operation → r.left.at ≡ i
    → part core setting (suc inner) s p
    ≡ phases core setting s p (taking r (Some (step_at core i op operation r.left.callers)))
