-- Where operations go on, by their ways.
use Rattle.std.proofs.Common.{◌≡◌, ℕ, suc, Bool, true, false, List, ◌∷◌, ap, ◌∙◌}
use Rattle.std.specs.Prelude.{if◌then◌else◌}
use Rattle.std.proofs.Common.{refl}
use Rattle.fk_meaning_operation.specs.declared.operation.Operation.{Operation}
use Rattle.fk_meaning_operation.specs.declared.operation.Operation.TheVariants as o
use Rattle.fk_core.specs.declared.op.CoreOp.{CoreOp}
use Rattle.fk_core.specs.Next.{Position, position, behind_jump, follows, returned}
use Rattle.fk_core_flat.specs.Items.{Way, straight, either, onto, into, out, way_of}

module _ (core : List CoreOp) where
  abbrev by_way : Way → (i target : ℕ) → List ℕ → Bool → Position
  by_way straight i target callers onward = position (suc i) callers
  by_way either i target callers onward = position (if onward then suc i else target) callers
  by_way onto i target callers onward = position target callers
  by_way into i target callers onward = position (suc i) (behind_jump core (suc i) ∷ callers)
  by_way out i target callers onward = returned core callers

  goes : (op : Operation) (i target : ℕ) (callers : List ℕ) (onward : Bool) → follows core op i target callers onward ≡ by_way (way_of op) i target callers onward
  goes o.Halt i target callers onward = refl
  goes op i target callers true = refl
  goes op i target callers false = refl

  module _ (op : Operation) (way : Way) (is : way_of op ≡ way) (i target : ℕ) (callers : List ℕ) (onward : Bool) where
    pub goes_by : follows core op i target callers onward ≡ by_way way i target callers onward
    goes_by = goes op i target callers onward ∙ ap (λ w. by_way w i target callers onward) is
