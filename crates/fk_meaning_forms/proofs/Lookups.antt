-- An element of a table, or what stands for a missing one.
use Rattle.std.proofs.Common.{◌≡◌, ℕ, zero, suc, List, [], ◌∷◌, get_or, refl}
use Rattle.fk_meaning_forms.specs.Tables.{nth}

pub nth-get_or : {X : Type 0} (other : X) (xs : List X) (n : ℕ) → nth other xs n ≡ get_or xs n other
nth-get_or other [] n = refl
nth-get_or other (x ∷ xs) zero = refl
nth-get_or other (x ∷ xs) (suc n) = nth-get_or other xs n
