-- Sets by the bits of their masks.
use Rattle.std.proofs.Common.{◌≡◌, ℕ, zero, suc, ◌+◌, ◌*◌, ◌/◌, ◌%◌, ◌^◌, ◌<◌, ◌≤◌, Bool, true, false, ap, sym, refl, ◌∙◌, arith, eq-eqb}
use Rattle.std.specs.Prelude.{◌==◌, ◌||◌, ◌&&◌, not, nat_lt, bit_and, bit_or, max}
use Rattle.std.specs.Int.{bit_at, bit_not, w64}
use Rattle.std.proofs.lemmas.Bool.{and_parts, and_from, ltb-true, lt-ltb, eqb-true}
use Rattle.std.proofs.lemmas.Nat.{pow-add}
use Rattle.std.proofs.Math.Nat.{div-div-eq-div-mul}
use Rattle.std.proofs.lemmas.Nat.Bits.{bit_at_or, bit_at-lt, bit_at_set_same, bit_at_set_other, bit_at_clear_same, bit_at_clear_other}
use Rattle.fk_core_liveness.specs.Sets.{is_in}

not_below : (n bound : ℕ) → bound ≤ n → nat_lt n bound ≡ false
not_below n bound le = by (nat_lt n bound) refl
  where
    by : (b : Bool) → nat_lt n bound ≡ b → b ≡ false
    by true e = absurd (let lt = ltb-true n bound e in let z : ⊥ = omega arith in z)
    by false e = refl

pub record IsBit (mask n : ℕ) : Type 0 where
  pub low : n < 64
  pub set : bit_at mask n ≡ 1

pub is_bit : (mask n : ℕ) → is_in mask n ≡ true → IsBit mask n
is_bit mask n e = let b = and_parts _ _ e in record { low = ltb-true n 64 b.0; set = eqb-true (bit_at mask n) 1 b.1 }

pub bit_is : (mask n : ℕ) → n < 64 → bit_at mask n ≡ 1 → is_in mask n ≡ true
bit_is mask n lt e = and_from _ _ (lt-ltb n 64 lt) (eq-eqb (bit_at mask n) 1 e)

apart : (n k : ℕ) → (n == k) ≡ false → n ≡ k → ⊥
apart n k e same = let f = eq-eqb n k same in absurd (cc)

or_true : (a : Bool) → (a || true) ≡ true
or_true true = refl
or_true false = refl

or_false : (a : Bool) → (a || false) ≡ a
or_false true = refl
or_false false = refl

and_true : (a : Bool) → (a && true) ≡ a
and_true true = refl
and_true false = refl

and_false : (a : Bool) → (a && false) ≡ false
and_false true = refl
and_false false = refl

pub with_number : (mask k n : ℕ) → k < 64
    → is_in (bit_or mask (1 * 2 ^ k % 2 ^ 64)) n ≡ (is_in mask n || ((n == k) && nat_lt n 64))
with_number mask k n lt = by (n == k) refl
  where
    by : (b : Bool) → (n == k) ≡ b → is_in (bit_or mask (1 * 2 ^ k % 2 ^ 64)) n ≡ (is_in mask n || (b && nat_lt n 64))
    by true e =
        let same : n ≡ k = eqb-true n k e in
        let low : n < 64 = omega arith in
        let bit = ap (λ i. bit_at (bit_or mask (1 * 2 ^ k % 2 ^ 64)) i) same ∙ bit_at_set_same w64 mask k lt in
        bit_is (bit_or mask (1 * 2 ^ k % 2 ^ 64)) n low bit ∙ sym (ap (λ b. is_in mask n || b) (lt-ltb n 64 low) ∙ or_true (is_in mask n))
    by false e = ap (λ b. nat_lt n 64 && (b == 1)) (bit_at_set_other w64 mask k lt n (apart n k e)) ∙ sym (or_false (is_in mask n))

-- a number from 64 on is in no set
pub with_none : (mask k n : ℕ) → 64 ≤ k → is_in mask n ≡ (is_in mask n || ((n == k) && nat_lt n 64))
with_none mask k n le = by (n == k) refl
  where
    high : n ≡ k → nat_lt n 64 ≡ false
    high e = not_below n 64 (omega arith)

    by : (b : Bool) → (n == k) ≡ b → is_in mask n ≡ (is_in mask n || (b && nat_lt n 64))
    by true e = sym (ap (λ b. is_in mask n || b) (high (eqb-true n k e)) ∙ or_false (is_in mask n))
    by false e = sym (or_false (is_in mask n))

pub without_number : (mask k n : ℕ) → k < 64
    → is_in (bit_and mask (bit_not w64 (1 * 2 ^ k % 2 ^ 64))) n ≡ (is_in mask n && not (n == k))
without_number mask k n lt = by (n == k) refl
  where
    by : (b : Bool) → (n == k) ≡ b → is_in (bit_and mask (bit_not w64 (1 * 2 ^ k % 2 ^ 64))) n ≡ (is_in mask n && not b)
    by true e =
        ap (λ i. nat_lt n 64 && (i == 1)) (ap (λ i. bit_at (bit_and mask (bit_not w64 (1 * 2 ^ k % 2 ^ 64))) i) (eqb-true n k e) ∙ bit_at_clear_same w64 mask k lt)
        ∙ and_false (nat_lt n 64) ∙ sym (and_false (is_in mask n))
    by false e = same_bits (nat_lt n 64) refl ∙ sym (and_true (is_in mask n))
      where
        same_bits : (c : Bool) → nat_lt n 64 ≡ c → (c && (bit_at (bit_and mask (bit_not w64 (1 * 2 ^ k % 2 ^ 64))) n == 1)) ≡ (c && (bit_at mask n == 1))
        same_bits true f = ap (λ i. i == 1) (bit_at_clear_other w64 mask k lt n (ltb-true n 64 f) (apart n k e))
        same_bits false f = refl

pub without_none : (mask k n : ℕ) → 64 ≤ k → is_in mask n ≡ (is_in mask n && not (n == k))
without_none mask k n le = by (n == k) refl
  where
    by : (b : Bool) → (n == k) ≡ b → is_in mask n ≡ (is_in mask n && not b)
    by true e = ap (λ c. c && (bit_at mask n == 1)) (not_below n 64 (let same = eqb-true n k e in omega arith)) ∙ sym (and_false (is_in mask n))
    by false e = sym (and_true (is_in mask n))

one_or_other : (x y : ℕ) → x < 2 → y < 2 → (max x y == 1) ≡ ((x == 1) || (y == 1))
one_or_other zero zero a b = refl
one_or_other zero (suc zero) a b = refl
one_or_other (suc zero) zero a b = refl
one_or_other (suc zero) (suc zero) a b = refl
one_or_other (suc (suc x)) y a b = absurd (omega arith)
one_or_other x (suc (suc y)) a b = absurd (omega arith)

pub either_set : (a b n : ℕ) → is_in (bit_or a b) n ≡ (is_in a n || is_in b n)
either_set a b n =
    ap (λ i. nat_lt n 64 && (i == 1)) (bit_at_or a b n)
    ∙ ap (λ c. nat_lt n 64 && c) (one_or_other (bit_at a n) (bit_at b n) (bit_at-lt a n) (bit_at-lt b n))
    ∙ by (nat_lt n 64)
  where
    by : (c : Bool) → (c && ((bit_at a n == 1) || (bit_at b n == 1))) ≡ ((c && (bit_at a n == 1)) || (c && (bit_at b n == 1)))
    by true = refl
    by false = refl

pub shifted : (mask first n : ℕ) → bit_at (mask / 2 ^ first) n ≡ bit_at mask (first + n)
shifted mask first n = ap (λ x. x % 2) (div-div-eq-div-mul mask (2 ^ first) (2 ^ n) ∙ ap (λ x. mask / x) (sym (pow-add 2 first n)))
