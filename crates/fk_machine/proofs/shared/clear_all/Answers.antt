use Rattle.std.proofs.Common.{◌≡◌, ℕ, zero, suc, ◌+◌, ◌<◌, List, [], ◌∷◌, length, get_or, Option, Some, None, Bool, true, false, refl, arith, inl, inr, ◌∙◌}
use Rattle.std.specs.Prelude.{◌||◌}
use Rattle.std.specs.Option.{is_some}
use Rattle.std.proofs.Math.ListN.{set}
use Rattle.std.proofs.lemmas.Bool.{cases_eq}
use Rattle.std.proofs.lemmas.Grind.{get_or-set_at}
use Rattle.std.proofs.lemmas.List.{get_or-set_other}
use Rattle.std.proofs.lemmas.List.Edits.{map_over_more}
use Rattle.fk_isa.specs.Atomic.{unless}
use Rattle.fk_machine.proofs.shared.clear_all.Goals as goal

-- within the list the word given for what is past it does not matter
within : (xs : List (Option ℕ)) (i : ℕ) (d : Option ℕ) → i < length xs → get_or xs i d ≡ get_or xs i (get_or xs i d)
within [] i d h = absurd (omega arith)
within (x ∷ xs) zero d h = refl
within (x ∷ xs) (suc i) d h = within xs i d (omega arith)

none_of : (left : Bool) (r : Option ℕ) → (left || is_some r) ≡ false → (left ≡ false) × (r ≡ None)
none_of false None e = (refl, refl)
none_of false (Some x) e = absurd (cc)
none_of true r e = absurd (cc)

-- none of one more is left
none_more : (xs : List (Option ℕ)) (i : ℕ) (r : Option ℕ) (left : Bool) → i < length xs
    → (left ≡ false → (k : ℕ) → k < i → get_or xs k None ≡ None)
    → (left || is_some r) ≡ false → (k : ℕ) → k < i + 1 → get_or (set xs i r) k None ≡ None
none_more xs i r left within before e k lt =
    let none = none_of left r e in
    elim (cases_eq k i) [
      | inl same ↦ get_or-set_at xs i k r None same within ∙ none.1
      | inr other ↦ get_or-set_other xs i k r None other ∙ before none.0 k (omega arith)
    ]

pub loop-reservation-preserved : goal.loop-reservation-preserved
loop-reservation-preserved c =
    let below : c.loop-reservation.reservation-index < length c.loop-reservation.reserved = omega arith in
    record {
      cleared = rw c.unless.ensures
          (map_over_more (unless c.args.word) c.args.reserved.now c.loop-reservation.reserved c.loop-reservation.reservation-index _ c.loop-reservation-test.true c.loop-reservation.invariant.cleared (within c.loop-reservation.reserved c.loop-reservation.reservation-index _ below));
      none = rw c.is_some-left.ensures (none_more c.loop-reservation.reserved c.loop-reservation.reservation-index c.unless.result c.loop-reservation.left below c.loop-reservation.invariant.none);
    }
