use Rattle.std.proofs.Common.{◌≡◌, ℕ, zero, suc, ◌<◌, List, [], ◌∷◌, length, get_or, refl, arith}
use Rattle.std.proofs.lemmas.List.Edits.{map_over_more}
use Rattle.fk_machine.specs.declared.hart.TrackedHart.{TrackedHart}
use Rattle.fk_machine.specs.View.{unserved}
use Rattle.fk_machine.proofs.hart.pass_over.Goals as goal

-- within the list the hart given for what is past it does not matter
within : (xs : List TrackedHart) (i : ℕ) (d : TrackedHart) → i < length xs → get_or xs i d ≡ get_or xs i (get_or xs i d)
within [] i d h = absurd (omega arith)
within (x ∷ xs) zero d h = refl
within (x ∷ xs) (suc i) d h = within xs i d (omega arith)

pub loop-hart-preserved : goal.loop-hart-preserved
loop-hart-preserved c =
    let below : c.loop-hart.hart-index < length c.loop-hart.harts = omega arith in
    map_over_more unserved c.args.harts.now c.loop-hart.harts c.loop-hart.hart-index _ c.loop-hart-test.true c.loop-hart.invariant (within c.loop-hart.harts c.loop-hart.hart-index _ below)
