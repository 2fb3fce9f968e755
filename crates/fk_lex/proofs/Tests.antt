-- Choices by a test.
use Rattle.std.proofs.Common.{◌≡◌, ℕ, ◌==◌, ◌&&◌, Bool, true, false, refl, ap, arith, if◌then◌else◌}
use Rattle.std.proofs.lemmas.Bool.Decides.{nat_tests}

pub if_true : {X : Type 0} (b : Bool) (x y : X) → b ≡ true → (if b then x else y) ≡ x
if_true b x y is = ap (λ b. if b then x else y) is

pub if_false : {X : Type 0} (b : Bool) (x y : X) → b ≡ false → (if b then x else y) ≡ y
if_false b x y is = ap (λ b. if b then x else y) is

pub same_is : (c d : ℕ) → c ≡ d → (c == d) ≡ true
same_is c d is = grind (arith, nat_tests)

pub other_is : (c d : ℕ) → (c ≡ d → ⊥) → (c == d) ≡ false
other_is c d is = grind (arith, nat_tests)

pub same_byte : (c d : ℕ) → (c == d) ≡ true → c ≡ d
same_byte c d is = grind (arith, nat_tests)

pub other_byte : (c d : ℕ) → (c == d) ≡ false → c ≡ d → ⊥
other_byte c d is same = grind (arith, nat_tests)

pub both_true : (a b : Bool) → (a && b) ≡ true → (a ≡ true) × (b ≡ true)
both_true true b both = (refl, both)
both_true false b both = cc
