-- Where a processor stands in the list of those who are in a round.
use Rattle.std.proofs.Common.{◌≡◌, ℕ, zero, suc, ◌+◌, ◌<◌, [], ◌∷◌, Some, None, ap, ◌∙◌, arith}
use Rattle.std.specs.Prelude.{slice_get, slice_index}
use Rattle.fk_meaning.specs.Round.{Round}
use Rattle.fk_replay_phases.specs.Present.{present}

pub present_there : (first : ℕ) (round : Round) (h : ℕ) → 0 < slice_index round h → (j : ℕ) × (slice_get (present first round) j ≡ Some (first + h))
present_there first [] h low = absurd (omega (arith, low))
present_there first (zero ∷ round) zero low = absurd (omega (arith, low))
present_there first (zero ∷ round) (suc h) low = let x = present_there (suc first) round h low in (x.0, x.1 ∙ ap (λ (n : ℕ). Some n) (let e : suc first + h ≡ first + suc h = omega arith in e))
present_there first (suc c ∷ round) zero low = (0, ap (λ (n : ℕ). Some n) (let e : first ≡ first + 0 = omega arith in e))
present_there first (suc c ∷ round) (suc h) low = let x = present_there (suc first) round h low in (suc x.0, x.1 ∙ ap (λ (n : ℕ). Some n) (let e : suc first + h ≡ first + suc h = omega arith in e))

pub there_present : (first : ℕ) (round : Round) (j g : ℕ) → slice_get (present first round) j ≡ Some g → (h : ℕ) × (g ≡ first + h) × (0 < slice_index round h)
there_present first [] j g e = let clash : None ≡ Some g = e in absurd (cc)
there_present first (zero ∷ round) j g e = let x = there_present (suc first) round j g e in (suc x.0, let e = x.1 in omega (arith, e), x.2)
there_present first (suc c ∷ round) zero g e = let same : first ≡ g = cc in (0, omega (arith, same), omega arith)
there_present first (suc c ∷ round) (suc j) g e = let x = there_present (suc first) round j g e in (suc x.0, let e = x.1 in omega (arith, e), x.2)
