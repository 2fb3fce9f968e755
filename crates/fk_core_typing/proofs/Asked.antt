-- What a list is asked tells where it leads to.
use Rattle.std.proofs.Common.{◌≡◌, ℕ, zero, suc, ◌+◌, ◌-◌, ◌<◌, Bool, true, false, List, [], ◌∷◌, length, slice_get, Option, Some, None, refl, ap, ◌∙◌, arith}
use Rattle.fk_meaning_operation.specs.declared.operation.Operation.{Operation}
use Rattle.fk_meaning_operation.specs.declared.operation.Operation.TheVariants as o
use Rattle.fk_layout_sizes.specs.Operations.{takes}
use Rattle.fk_core.specs.declared.op.CoreOp.{CoreOp}
use Rattle.fk_core.specs.Next.{is_jump, through, led_by, landing_by, landing, follows}
use Rattle.fk_core_typing.specs.declared.places.Within.{Within}
use Rattle.fk_core_typing.specs.LocalDepths.{leaves, is_ordinary, Comes, GoesOn}

-- a list with an operation isn't empty, and it ends behind that
within : (core : List CoreOp) (i : ℕ) (op : CoreOp) → slice_get core i ≡ Some op → 0 < length core
within [] i op e = absurd (cc)
within (x ∷ xs) i op e = omega arith

module _ (core : List CoreOp) where
  -- no jump stands there
  pub stays_none : (count i : ℕ) → slice_get core i ≡ None → landing_by core count i ≡ i
  stays_none zero i e = refl
  stays_none (suc count) i e = ap (λ (op : Option CoreOp). led_by op (landing_by core count) i) e

  pub stays_at : (count i : ℕ) (op : CoreOp) → slice_get core i ≡ Some op → is_jump op ≡ false → landing_by core count i ≡ i
  stays_at zero i op e n = refl
  stays_at (suc count) i op e n =
      ap (λ (x : Option CoreOp). led_by x (landing_by core count) i) e ∙ ap (λ b. through b (landing_by core count) i op.target) n

  -- a jump, which leads on by one step
  leads_by : (count i : ℕ) (op : CoreOp) → slice_get core i ≡ Some op → is_jump op ≡ true → 0 < count
      → ((c : ℕ) → landing_by core c op.target ≡ op.target) → landing_by core count i ≡ op.target
  leads_by zero i op e n few stays = absurd (omega arith)
  leads_by (suc count) i op e n few stays =
      ap (λ (x : Option CoreOp). led_by x (landing_by core count) i) e
      ∙ ap (λ b. through b (landing_by core count) i op.target) n ∙ stays count

  pub leads_to : (i : ℕ) (op next : CoreOp) → slice_get core i ≡ Some op → is_jump op ≡ true → slice_get core op.target ≡ Some next → is_jump next ≡ false
      → landing core i ≡ op.target
  leads_to i op next e n f m = leads_by (length core) i op e n (within core i op e) (λ c. stays_at c op.target next f m)

  pub ordinary : (within : ℕ → Within) (op : Operation) (index target depth : ℕ) (place : Within) → is_ordinary op ≡ true
      → ((onward : Bool) → Comes core within (follows core op index target [] onward).at (depth - takes op + leaves op onward) place)
      → GoesOn core within op index target depth place
  ordinary within (o.Enter n) index target depth place e h = absurd (cc)
  ordinary within (o.Leave gives framed) index target depth place e h = absurd (cc)
  ordinary within o.Halt index target depth place e h = absurd (cc)
  ordinary within op index target depth place e h = h
