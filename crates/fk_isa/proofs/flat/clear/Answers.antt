use Rattle.std.proofs.Common.{◌≡◌, ℕ, zero, suc, ◌<◌, List, [], ◌∷◌, length, get_or, Option, refl, arith}
use Rattle.std.proofs.lemmas.List.Edits.{map_over_more}
use Rattle.fk_isa.specs.Atomic.{unless}
use Rattle.fk_isa.proofs.flat.clear.Goals as goal

-- within the list the word given for what is past it does not matter
within : (xs : List (Option ℕ)) (i : ℕ) (d : Option ℕ) → i < length xs → get_or xs i d ≡ get_or xs i (get_or xs i d)
within [] i d h = absurd (omega arith)
within (x ∷ xs) zero d h = refl
within (x ∷ xs) (suc i) d h = within xs i d (omega arith)

pub loop-reservation-preserved : goal.loop-reservation-preserved
loop-reservation-preserved c =
    let below : c.loop-reservation.reservation-index < length c.loop-reservation.reserved = omega arith in
    rw c.unless.ensures
    (map_over_more (unless c.args.word) c.args.reserved.now c.loop-reservation.reserved c.loop-reservation.reservation-index _ c.loop-reservation-test.true c.loop-reservation.invariant (within c.loop-reservation.reserved c.loop-reservation.reservation-index _ below))
