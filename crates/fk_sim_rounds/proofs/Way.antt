-- The way from an index to the operation that jumps lead to.
use Rattle.std.proofs.Common.{◌≡◌, ℕ, zero, suc, ◌<◌, List, [], ◌∷◌, length, Option, Some, None, true, false, sym, ap, ◌∙◌, refl, arith, ◌⊎◌, inl, inr, ⊎_elim}
use Rattle.std.specs.Prelude.{slice_get}
use Rattle.std.proofs.lemmas.Bool.{cases_Bool, eqb-true}
use Rattle.std.proofs.lemmas.Option.{slice_get_past}
use Rattle.fk_meaning_operation.specs.declared.operation.Operation.{Operation}
use Rattle.fk_core.specs.declared.op.CoreOp.{CoreOp}
use Rattle.fk_core.specs.Numbers.{operation_of}
use Rattle.fk_core.specs.Next.{position, is_jump, through, led_by, landing_by, landing, step_of, next}
use Rattle.fk_core.specs.WellFormed.{IsOperation}
use Rattle.fk_sim_block.proofs.Standing.{landing_at, landing_here}
use Rattle.fk_sim_rounds.specs.Next.{JumpsLead}

no_operation : (number : ℕ) → operation_of 0 number ≡ None
no_operation number = refl

-- what has an operation is no jump
pub no_jump : (op : CoreOp) (operation : Operation) → operation_of op.kind op.number ≡ Some operation → is_jump op ≡ false
no_jump op operation e = by (cases_Bool (is_jump op))
  where
    by : ((is_jump op ≡ true) ⊎ (is_jump op ≡ false)) → is_jump op ≡ false
    by (inr f) = f
    by (inl f) = absurd (let g = sym (ap (λ k. operation_of k op.number) (eqb-true op.kind 0 f) ∙ no_operation op.number) ∙ e in cc)

-- an index is that of an operation, or of a jump to it
abbrev pub IsWay : List CoreOp → (from i : ℕ) → Type 0
IsWay core from i = (from ≡ i) ⊎ ((jump : CoreOp) × (slice_get core from ≡ Some jump) × (is_jump jump ≡ true) × (jump.target ≡ i))

some_there : {A : Type 0} (xs : List A) (i : ℕ) (x : A) → slice_get xs i ≡ Some x → 0 < length xs
some_there [] i x e = absurd (cc)
some_there (y ∷ xs) i x e = omega arith

module _ (core : List CoreOp) where
  nowhere : (n i : ℕ) → slice_get core i ≡ None → landing_by core n i ≡ i
  nowhere zero i e = refl
  nowhere (suc n) i e = ap (λ x. led_by x (landing_by core n) i) e

  jumped : (i n : ℕ) (jump : CoreOp) (to : IsOperation core jump.target) → slice_get core i ≡ Some jump → is_jump jump ≡ true → 0 < n → landing_by core n i ≡ jump.target
  jumped i zero jump to e f lt = absurd (omega (arith, lt))
  jumped i (suc n) jump to e f lt =
      ap (λ x. led_by x (landing_by core n) i) e
      ∙ ap (λ b. through b (landing_by core n) i jump.target) f
      ∙ landing_at core jump.target to.op n to.stands (no_jump to.op to.operation to.is_read)

  way_by : JumpsLead core → (i : ℕ) (o : Option CoreOp) → slice_get core i ≡ o → IsWay core i (landing core i)
  way_by leads i None e = inl (sym (nowhere (length core) i e))
  way_by leads i (Some op) e =
      ⊎_elim (λ f. inr (op, e, f, sym (jumped i (length core) op (leads i op e f) e f (some_there core i op e)))) (λ f. inl (sym (landing_here core i op e f))) (cases_Bool (is_jump op))

  pub way : JumpsLead core → (i : ℕ) → IsWay core i (landing core i)
  way leads i = way_by leads i (slice_get core i) refl

  -- behind the last one there is nothing
  pub landing_end : landing core (length core) ≡ length core
  landing_end = nowhere (length core) (length core) (slice_get_past core (length core) (omega arith))

  pub ended_next : (callers : List ℕ) → next core (position (length core) callers) ≡ None
  ended_next callers =
      ap (λ i. step_of core i callers (slice_get core i)) landing_end ∙ ap (step_of core (length core) callers) (slice_get_past core (length core) (omega arith))
