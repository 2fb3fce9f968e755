-- What a caller that makes one call after another makes of their counts of faults.
use Rattle.std.proofs.Common.{◌≡◌, ℕ, ◌≤◌, inl, inr, ⊎_elim, arith}
use Rattle.std.proofs.lemmas.Bool.{cases_lt}
use Rattle.fk_ports.specs.Faults.{HasRisen}

-- a count that rose in a part of a call rose in the call
pub HasRisen-within : (before old new after : ℕ) → before ≤ old → old ≤ new → new ≤ after → HasRisen old new → HasRisen before after
HasRisen-within before old new after p q r (inl rose) = inl (omega arith)
HasRisen-within before old new after p q r (inr stands) =
    ⊎_elim (λ h. inl (omega arith)) (λ h. inr (omega arith)) (cases_lt new after)

-- a count that is 0 all the time never rises
pub never_risen : (old new : ℕ) → old ≡ 0 → new ≡ 0 → ¬ HasRisen old new
never_risen old new p q (inl rose) = omega arith
never_risen old new p q (inr stands) = omega arith
