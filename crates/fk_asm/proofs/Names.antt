-- The names of registers are short.
use Rattle.std.proofs.Common.{◌≡◌, ℕ, zero, suc, ◌≤◌, true, List, [], ◌∷◌, length, arith, refl}
use Rattle.std.specs.Prelude.{slice_index_or, nat_le}
use Rattle.std.specs.List.{list_all}
use Rattle.fk_asm.specs.Listing.{register, register_names}

short_in : (names : List (List ℕ)) (i : ℕ) → list_all (λ name. nat_le (length name) 4) names ≡ true → length (slice_index_or names i []) ≤ 4
short_in [] i short = omega arith
short_in (name ∷ names) zero short = grind (arith, short)
short_in (name ∷ names) (suc i) short = short_in names i (grind (arith, short))

pub length-register-le : (r : ℕ) → length (register r) ≤ 4
unfolding register
length-register-le r = short_in register_names r refl
