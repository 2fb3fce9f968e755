-- The operation at an index is the next one there.
use Rattle.std.proofs.Common.{◌≡◌, ℕ, zero, suc, List, length, false, Some, ap, subst, sym, ◌∙◌, refl}
use Rattle.std.specs.Prelude.{slice_get}
use Rattle.fk_meaning_operation.specs.declared.operation.Operation.{Operation}
use Rattle.fk_meaning.specs.Round.{taking, after_locals}
use Rattle.fk_core.specs.declared.op.CoreOp.{CoreOp}
use Rattle.fk_core.specs.Next.{is_jump, through, led_by, landing_by, landing, step_by, step_of, next, position}
use Rattle.fk_sim_block.specs.Owner.{phases}
use Rattle.fk_sim_block.specs.Next.{OpAt, step_at, OperationsAreNext}

pub landing_at : (core : List CoreOp) (i : ℕ) (op : CoreOp) (n : ℕ) → slice_get core i ≡ Some op → is_jump op ≡ false → landing_by core n i ≡ i
landing_at core i op zero e f = refl
landing_at core i op (suc n) e f =
    ap (λ o. led_by o (landing_by core n) i) e ∙ ap (λ b. through b (landing_by core n) i op.target) f

pub landing_here : (core : List CoreOp) (i : ℕ) (op : CoreOp) → slice_get core i ≡ Some op → is_jump op ≡ false → landing core i ≡ i
landing_here core i op e f = landing_at core i op (length core) e f

pub next_here : (core : List CoreOp) (i : ℕ) (op : CoreOp) (operation : Operation) (callers : List ℕ) → OpAt core i op operation
    → next core (position i callers) ≡ Some (step_at core i op operation callers)
next_here core i op operation callers at =
    ap (λ j. step_of core j callers (slice_get core j)) (landing_here core i op at.stands at.no_jump)
    ∙ ap (step_of core i callers) at.stands
    ∙ ap (step_by core i callers op) at.is_read

pub operations_are_next : OperationsAreNext
operations_are_next core i op operation setting inner s p at e =
    let r = after_locals (next core) setting inner p.runner in
    ap (λ n. phases core setting s p (taking r n))
    (subst (λ j. next core (position j r.left.callers) ≡ Some (step_at core i op operation r.left.callers)) (sym e)
    (next_here core i op operation r.left.callers at))
