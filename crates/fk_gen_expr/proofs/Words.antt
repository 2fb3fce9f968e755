-- What a few instructions on words come to.
use Rattle.std.proofs.Common.{◌≡◌, ℕ, ℤ, pos, negsuc, ◌+◌, ◌-◌, ◌%◌, ◌^◌, ◌<◌, Bool, true, false, not, refl, sym, ap, ◌∙◌, arith}
use Rattle.std.specs.Prelude.{◌==◌, nat_lt, nat_le, int_lt, int_le, bit_and, bit_xor, if◌then◌else◌, min, max}
use Rattle.std.specs.Int.{from_bool}
use Rattle.std.proofs.lemmas.Bool.Decides.{nat_tests}
use Rattle.std.proofs.lemmas.Nat.{and_mask}
use Rattle.fk_num.specs.Word.{word_sum, signed}
use Rattle.fk_num.specs.Op.{applied}
use Rattle.fk_num.specs.declared.operator.Op.TheVariants as op
use Rattle.fk_gen.proofs.Difference.{difference}

-- ---- tests

nat_turned : (a b : ℕ) → nat_le a b ≡ not (nat_lt b a)
nat_turned a b = grind (arith, nat_tests)

int_turned : (a b : ℤ) → int_le a b ≡ not (int_lt b a)
int_turned (pos a) (pos b) = nat_turned a b
int_turned (pos a) (negsuc b) = refl
int_turned (negsuc a) (pos b) = refl
int_turned (negsuc a) (negsuc b) = nat_turned b a

flipped : (c : Bool) → bit_xor (from_bool c) 1 ≡ from_bool (not c)
flipped true = refl
flipped false = refl

-- what is not less, turned round, is less or equal
pub not_less-signed : (a b : ℕ) → applied op.Xor (applied op.LtS b a) 1 ≡ applied op.LeS a b
not_less-signed a b =
    flipped (int_lt (signed b) (signed a)) ∙ ap from_bool (sym (int_turned (signed a) (signed b)))

pub not_less-unsigned : (a b : ℕ) → applied op.Xor (applied op.LtU b a) 1 ≡ applied op.LeU a b
not_less-unsigned a b = flipped (nat_lt b a) ∙ ap from_bool (sym (nat_turned a b))

-- ---- differences

same_of_difference : (a b : ℕ) → a < 2 ^ 32 → b < 2 ^ 32 → nat_lt ((a + (2 ^ 32 - b)) % 2 ^ 32) 1 ≡ (a == b)
same_of_difference a b p q = grind (arith, nat_tests)

pub equal : (a b : ℕ) → a < 2 ^ 32 → b < 2 ^ 32 → applied op.LtU (applied op.Sub a b) 1 ≡ applied op.Eq a b
equal a b p q = ap (λ d. from_bool (nat_lt d 1)) (difference a b (omega arith)) ∙ ap from_bool (same_of_difference a b p q)

pub other : (a b : ℕ) → a < 2 ^ 32 → b < 2 ^ 32 → applied op.LtU 0 (applied op.Sub a b) ≡ applied op.Ne a b
other a b p q =
    ap (λ d. from_bool (nat_lt 0 d)) (difference a b (omega arith)) ∙ ap from_bool (other_of_difference a b p q)
  where
    other_of_difference : (a b : ℕ) → a < 2 ^ 32 → b < 2 ^ 32 → nat_lt 0 ((a + (2 ^ 32 - b)) % 2 ^ 32) ≡ not (a == b)
    other_of_difference a b p q = grind (arith, nat_tests)

pub zero_alone : (v : ℕ) → applied op.LtU v 1 ≡ applied op.Eq v 0
zero_alone v = ap from_bool (grind (arith, nat_tests))

-- ---- one of two words by a mask

-- the first where a test holds, else the second
abbrev pub chosen : (test a b : ℕ) → ℕ
chosen test a b = word_sum (bit_and (applied op.Sub a b) (applied op.Sub 0 test)) b

all_ones : (n : ℕ) → n < 2 ^ 32 → bit_and n (2 ^ 32 - 1) ≡ n
all_ones n h = and_mask n 32 ∙ omega arith

no_ones : (n : ℕ) → bit_and n 0 ≡ 0
no_ones n = and_mask n 0 ∙ omega arith

pub chosen_by : (c : Bool) (a b : ℕ) → a < 2 ^ 32 → b < 2 ^ 32 → chosen (from_bool c) a b ≡ if c then a else b
chosen_by true a b p q =
    let d = difference a b (omega arith) in
    let e = all_ones (applied op.Sub a b) (omega arith) in
    let f : word_sum (applied op.Sub a b) b ≡ a = omega arith in
    ap (λ n. word_sum n b) e ∙ f
chosen_by false a b p q = ap (λ n. word_sum n b) (no_ones (applied op.Sub a b)) ∙ omega arith

turned_choice : (c d : Bool) (a b : ℕ) → d ≡ not c → (if c then b else a) ≡ (if d then a else b)
turned_choice true d a b e = sym (ap (λ t. if t then a else b) e)
turned_choice false d a b e = sym (ap (λ t. if t then a else b) e)

pub least-signed : (a b : ℕ) → a < 2 ^ 32 → b < 2 ^ 32 → chosen (applied op.LtS b a) b a ≡ applied op.MinS a b
least-signed a b p q =
    chosen_by (int_lt (signed b) (signed a)) b a q p
    ∙ turned_choice (int_lt (signed b) (signed a)) (int_le (signed a) (signed b)) a b (int_turned (signed a) (signed b))

pub greatest-signed : (a b : ℕ) → a < 2 ^ 32 → b < 2 ^ 32 → chosen (applied op.LtS b a) a b ≡ applied op.MaxS a b
greatest-signed a b p q =
    chosen_by (int_lt (signed b) (signed a)) a b p q
    ∙ turned_choice (int_lt (signed b) (signed a)) (int_le (signed a) (signed b)) b a (int_turned (signed a) (signed b))

least : (a b : ℕ) → (if nat_lt b a then b else a) ≡ min a b
least a b = grind (arith, nat_tests)

greatest : (a b : ℕ) → (if nat_lt b a then a else b) ≡ max a b
greatest a b = grind (arith, nat_tests)

pub least-unsigned : (a b : ℕ) → a < 2 ^ 32 → b < 2 ^ 32 → chosen (applied op.LtU b a) b a ≡ applied op.MinU a b
least-unsigned a b p q = chosen_by (nat_lt b a) b a q p ∙ least a b

pub greatest-unsigned : (a b : ℕ) → a < 2 ^ 32 → b < 2 ^ 32 → chosen (applied op.LtU b a) a b ≡ applied op.MaxU a b
greatest-unsigned a b p q = chosen_by (nat_lt b a) a b p q ∙ greatest a b
