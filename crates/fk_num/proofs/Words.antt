-- Lemmas on words and their signed values.
use Rattle.std.proofs.Common.{◌≡◌, ℕ, ℤ, pos, negsuc, ◌^◌, ◌<◌, ◌≤◌, ◌-◌, ◌*ℤ◌, FitsSigned, w32, w64, of_z, to_z, arith}
use Rattle.std.specs.Prelude.{int_div, int_rem, unsigned_abs}
use Rattle.std.proofs.lemmas.Int.{fits_signed_mul, to_z-of_z}
use Rattle.fk_num.specs.Op.{word_of}
use Rattle.fk_num.specs.Word.{signed}

-- what a cast to i32 and on to i64 gives of a word
pub widened : (a : ℕ) → a < 2 ^ 32 → to_z w32 (of_z w32 (to_z w32 a)) ≡ signed a
widened a h = grind arith

abs-le : (z : ℤ) → FitsSigned w32 z → unsigned_abs z ≤ 2 ^ 31
abs-le (pos n) h = let k = h.sfits in omega arith
abs-le (negsuc n) h = let k = h.sfits in omega arith

fits_wide : (z : ℤ) → FitsSigned w32 z → FitsSigned w64 z
fits_wide (pos n) h = let k : n < 2 ^ 63 = omega (arith, h.sfits) in record { sfits = k }
fits_wide (negsuc n) h = let k : n < 2 ^ 63 = omega (arith, h.sfits) in record { sfits = k }

-- a product of two values of 32 bits fits 64 bits
pub wide_product : (a b : ℤ) → FitsSigned w32 a → FitsSigned w32 b
    → to_z w64 (of_z w64 (to_z w64 (of_z w64 a) *ℤ to_z w64 (of_z w64 b))) ≡ a *ℤ b
wide_product a b f g =
    let p = to_z-of_z w64 a (fits_wide a f) in
    let q = to_z-of_z w64 b (fits_wide b g) in
    let product : FitsSigned w64 (a *ℤ b) = fits_signed_mul w64 a b (2 ^ 31) (2 ^ 31) (abs-le a f) (abs-le b g) (omega arith) in
    rw (p, q) (to_z-of_z w64 (a *ℤ b) product)

pub signed-fits : (a : ℕ) → a < 2 ^ 32 → FitsSigned w32 (signed a)
signed-fits a h = grind arith

-- and so does one of a signed and an unsigned value
pub mixed_product : (a : ℤ) (b : ℕ) → FitsSigned w32 a → b < 2 ^ 32
    → to_z w64 (of_z w64 (to_z w64 (of_z w64 a) *ℤ to_z w64 (of_z w64 (pos b)))) ≡ a *ℤ pos b
mixed_product a b f h =
    let g : b < 2 ^ 63 = omega arith in
    let p = to_z-of_z w64 a (fits_wide a f) in
    let q = to_z-of_z w64 (pos b) (record { sfits = g }) in
    let product : FitsSigned w64 (a *ℤ pos b) = fits_signed_mul w64 a (pos b) (2 ^ 31) (2 ^ 32 - 1) (abs-le a f) (omega arith) (omega arith) in
    rw (p, q) (to_z-of_z w64 (a *ℤ pos b) product)

-- the bits of a quotient and of a remainder of two values of 32 bits
pub quotient-bits : (x y : ℤ) → FitsSigned w32 x → FitsSigned w32 y
    → of_z w32 (to_z w32 (of_z w32 (to_z w32 (of_z w32 (int_div x y))))) ≡ word_of (int_div x y)
quotient-bits x y f g = grind arith

pub remainder-bits : (x y : ℤ) → FitsSigned w32 x → FitsSigned w32 y → of_z w32 (to_z w32 (of_z w32 (int_rem x y))) ≡ word_of (int_rem x y)
remainder-bits x y f g = grind arith
