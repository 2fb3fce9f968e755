-- The elements of a list, one by one.
use Rattle.std.proofs.Common.{◌≡◌, ℕ, zero, suc, ◌<◌, ◌⊎◌, inl, inr, List, [], ◌∷◌, length, get_or, Contains, refl, arith}

pub Contains-head : {X : Type 0} (x : X) (xs : List X) → Contains (x ∷ xs) x
Contains-head x xs = (0, omega arith, refl)

pub Contains-tail : {X : Type 0} (x y : X) (xs : List X) → Contains xs y → Contains (x ∷ xs) y
Contains-tail x y xs h = (suc h.0, omega arith, h.2)

pub Contains-cons_cases : {X : Type 0} (x y : X) (xs : List X) → Contains (x ∷ xs) y → (x ≡ y) ⊎ Contains xs y
Contains-cons_cases x y xs h = by h.0 h.1 h.2
  where
    by : (k : ℕ) → k < length (x ∷ xs) → get_or (x ∷ xs) k y ≡ y → (x ≡ y) ⊎ Contains xs y
    by zero l e = inl e
    by (suc k) l e = inr (k, omega arith, e)

pub Contains-nil : {X : Type 0} (y : X) → Contains [] y → ⊥
Contains-nil y h = absurd (omega (arith, h.1))
