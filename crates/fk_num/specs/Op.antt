-- The results of the operators on words of 32 bits: the instructions with these names in RV32I and
-- its M extension.
use Rattle.std.specs.Prelude.{ℕ, ℤ, pos, ◌-◌, ◌*◌, ◌/◌, ◌%◌, ◌^◌, ◌-ℤ◌, ◌*ℤ◌, ◌==◌, not, bit_and}
use Rattle.std.specs.Prelude.{bit_or, bit_xor, int_div, int_le, int_lt, int_rem, max, min, nat_le}
use Rattle.std.specs.Prelude.{nat_lt, unsigned_abs, if◌then◌else◌}
use Rattle.std.specs.Int.{from_bool, int_rem_euclid, int_shr}
use Rattle.fk_num.specs.Word.{signed, word, word_sum}
use Rattle.fk_num.specs.declared.operator.Op.{Op}
use Rattle.fk_num.specs.declared.operator.Op.TheVariants.{Add, Sub, Mul, MulHS, MulHSU, MulHU, DivS}
use Rattle.fk_num.specs.declared.operator.Op.TheVariants.{DivU, RemS, RemU, And, Or, Xor, Shl, ShrS}
use Rattle.fk_num.specs.declared.operator.Op.TheVariants.{ShrU, LtS, LtU, LeS, LeU, Eq, Ne, MinS}
use Rattle.fk_num.specs.declared.operator.Op.TheVariants.{MaxS, MinU, MaxU}

-- the number below 2^bits that is congruent to z modulo 2^bits
abbrev pub residue : ℕ → ℤ → ℕ
residue bits z = unsigned_abs (int_rem_euclid z (pos (2 ^ bits)))

-- the word that is congruent to an integer modulo 2^32
abbrev pub word_of : ℤ → ℕ
word_of z = residue 32 z

-- the upper word of the 64 bits of a product
abbrev pub upper_word : ℤ → ℕ
upper_word product = residue 64 product / 2 ^ 32

-- Quotients are rounded towards zero, and remainders have the dividend's sign. Division by zero
-- gives all ones as the quotient and the dividend as the remainder. The quotient of -2^31 by -1 is
-- 2^31, whose word is that of -2^31.
abbrev pub signed_quotient : ℕ → ℕ → ℕ
signed_quotient a b = if b == 0 then 2 ^ 32 - 1 else word_of (int_div (signed a) (signed b))

abbrev pub signed_remainder : ℕ → ℕ → ℕ
signed_remainder a b = if b == 0 then a else word_of (int_rem (signed a) (signed b))

abbrev pub quotient : ℕ → ℕ → ℕ
quotient a b = if b == 0 then 2 ^ 32 - 1 else a / b

abbrev pub remainder : ℕ → ℕ → ℕ
remainder a b = if b == 0 then a else a % b

-- the distance of a shift: the low five bits of its right operand
abbrev pub distance : ℕ → ℕ
distance b = b % 32

-- the word that an operator gives for two words
abbrev pub applied : Op → ℕ → ℕ → ℕ
applied Add a b = word_sum a b
applied Sub a b = word_of (pos a -ℤ pos b)
applied Mul a b = word (a * b)
applied MulHS a b = upper_word (signed a *ℤ signed b)
applied MulHSU a b = upper_word (signed a *ℤ pos b)
applied MulHU a b = upper_word (pos a *ℤ pos b)
applied DivS a b = signed_quotient a b
applied DivU a b = quotient a b
applied RemS a b = signed_remainder a b
applied RemU a b = remainder a b
applied And a b = bit_and a b
applied Or a b = bit_or a b
applied Xor a b = bit_xor a b
applied Shl a b = word (a * 2 ^ distance b)
applied ShrS a b = word_of (int_shr (signed a) (distance b))
applied ShrU a b = a / 2 ^ distance b
applied LtS a b = from_bool (int_lt (signed a) (signed b))
applied LtU a b = from_bool (nat_lt a b)
applied LeS a b = from_bool (int_le (signed a) (signed b))
applied LeU a b = from_bool (nat_le a b)
applied Eq a b = from_bool (a == b)
applied Ne a b = from_bool (not (a == b))
applied MinS a b = if int_le (signed a) (signed b) then a else b
applied MaxS a b = if int_le (signed a) (signed b) then b else a
applied MinU a b = min a b
applied MaxU a b = max a b
