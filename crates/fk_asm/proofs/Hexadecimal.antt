-- The hexadecimal digits of a number, from those of its sixteenth.
use Rattle.std.proofs.Common.{◌≡◌, ℕ, zero, suc, ◌+◌, ◌*◌, ◌/◌, ◌%◌, ◌^◌, ◌<◌, ◌≤◌, Bool, true, false, cond, ◌⊎◌, inl, inr, List, [], ◌∷◌, ◌++◌, length, length-append, append_assoc, arith, refl, sym, ap, ◌∙◌}
use Rattle.std.specs.Prelude.{◌==◌}
use Rattle.std.specs.Fmt.{digit_glyph, digits, digits_onto}
use Rattle.std.proofs.lemmas.Bool.{eq-eqb, ne_eqb}
use Rattle.std.proofs.lemmas.Bool.Decides.{leb_tells}
use Rattle.std.proofs.Math.Nat.{pow-suc}
use Rattle.std.proofs.lemmas.Nat.{pow-add}
use Rattle.std.proofs.lemmas.Fmt.{hex_one_digit}
use Rattle.fk_asm.specs.Listing.{hexadecimal}

-- the last digit
abbrev last : ℕ → ℕ
last n = digit_glyph false (n % 16)

-- the last k digits at most, before others
onto : ℕ → ℕ → List ℕ → List ℕ
onto k n others = digits_onto k 16 false n others

onto-suc : (k n : ℕ) (others : List ℕ) → onto (suc k) n others ≡ cond (n / 16 == 0) (last n ∷ others) (onto k (n / 16) (last n ∷ others))
unfolding onto
onto-suc k n others = refl

onto_one : (k n : ℕ) (others : List ℕ) → n < 16 → onto (suc k) n others ≡ last n ∷ others
onto_one k n others small =
    onto-suc k n others ∙ ap (λ (b : Bool). cond b (last n ∷ others) (onto k (n / 16) (last n ∷ others))) (eq-eqb (n / 16) 0 (omega arith))

onto_more : (k n : ℕ) (others : List ℕ) → 16 ≤ n → onto (suc k) n others ≡ onto k (n / 16) (last n ∷ others)
onto_more k n others large =
    onto-suc k n others ∙ ap (λ (b : Bool). cond b (last n ∷ others) (onto k (n / 16) (last n ∷ others))) (ne_eqb (n / 16) 0 (λ e. omega arith))

onto-append : (k n : ℕ) (others : List ℕ) → onto k n others ≡ onto k n [] ++ others
unfolding onto
onto-append zero n others = refl
onto-append (suc k) n others =
    let rest = onto-append k (n / 16) (last n ∷ others)
    ∙ sym (append_assoc (onto k (n / 16) []) (last n ∷ []) others)
    ∙ ap (λ (front : List ℕ). front ++ others) (sym (onto-append k (n / 16) (last n ∷ []))) in
    elim (n / 16 == 0) as (λ (b : Bool). cond b (last n ∷ others) (onto k (n / 16) (last n ∷ others)) ≡ cond b (last n ∷ []) (onto k (n / 16) (last n ∷ [])) ++ others) [ true ↦ refl | false ↦ rest ]

small_or_large : (n : ℕ) → (n < 16) ⊎ (16 ≤ n)
small_or_large n = elim (leb_tells 16 n) [ inl large ↦ inr large.1 | inr small ↦ inl small.1 ]

sixteenth : (k n : ℕ) → n < 16 ^ suc k → n / 16 < 16 ^ k
sixteenth k n fits = omega (arith, pow-suc 16 k)

-- one place more than there are digits changes nothing
spare_place : (k n : ℕ) (others : List ℕ) → n < 16 ^ suc k → onto (suc (suc k)) n others ≡ onto (suc k) n others
spare_place zero n others fits = onto_one 1 n others (omega arith) ∙ sym (onto_one 0 n others (omega arith))
spare_place (suc k) n others fits = elim (small_or_large n) [
  | inl small ↦ onto_one (suc (suc k)) n others small ∙ sym (onto_one (suc k) n others small)
  | inr large ↦ onto_more (suc (suc k)) n others large
      ∙ spare_place k (n / 16) (last n ∷ others) (sixteenth (suc k) n fits)
      ∙ sym (onto_more (suc k) n others large)
]

hexadecimal-onto : (n : ℕ) → hexadecimal n ≡ onto 64 n []
unfolding digits onto
hexadecimal-onto n = refl

pub hexadecimal_one : (n : ℕ) → n < 16 → hexadecimal n ≡ digit_glyph false n ∷ []
hexadecimal_one n small = hex_one_digit false n small

pub hexadecimal_more : (n : ℕ) → 16 ≤ n → n < 2 ^ 32 → hexadecimal n ≡ hexadecimal (n / 16) ++ last n ∷ []
hexadecimal_more n large fits =
    hexadecimal-onto n ∙ onto_more 63 n [] large ∙ onto-append 63 (n / 16) (last n ∷ [])
    ∙ ap (λ (front : List ℕ). front ++ last n ∷ []) (sym (spare_place 62 (n / 16) [] (omega arith)) ∙ sym (hexadecimal-onto (n / 16)))

pub length-hexadecimal_one : (n : ℕ) → n < 16 → length (hexadecimal n) ≡ 1
length-hexadecimal_one n small = ap length (hexadecimal_one n small)

pub length-hexadecimal_more : (n : ℕ) → 16 ≤ n → n < 2 ^ 32 → length (hexadecimal n) ≡ length (hexadecimal (n / 16)) + 1
length-hexadecimal_more n large fits = ap length (hexadecimal_more n large fits) ∙ length-append (hexadecimal (n / 16)) (last n ∷ [])

-- a number below 16^k has k digits at most
pub length-hexadecimal-le : (k n : ℕ) → n < 2 ^ 32 → n < 16 ^ suc k → length (hexadecimal n) ≤ suc k
length-hexadecimal-le zero n fits small = omega (arith, length-hexadecimal_one n (omega arith))
length-hexadecimal-le (suc k) n fits small = elim (small_or_large n) [
  | inl one ↦ omega (arith, length-hexadecimal_one n one)
  | inr more ↦ let rest = length-hexadecimal-le k (n / 16) (omega arith) (sixteenth (suc k) n small) in
      omega (arith, length-hexadecimal_more n more fits, rest)
]

pub short_hexadecimal : (n : ℕ) → n < 2 ^ 32 → length (hexadecimal n) ≤ 8
short_hexadecimal n fits = length-hexadecimal-le 7 n fits (omega arith)

pub ruleset hexadecimal_digits = (hexadecimal_one, hexadecimal_more, length-hexadecimal_one, length-hexadecimal_more, append_assoc)

pub pow-sixteen : (k : ℕ) → 2 ^ (4 * k) ≡ 16 ^ k
pow-sixteen zero = refl
pow-sixteen (suc k) = omega (arith, pow-sixteen k, pow-add 2 (4 * k) 4, pow-suc 16 k, ap (λ (n : ℕ). 2 ^ n) (four_more k))
  where
    four_more : (k : ℕ) → 4 * suc k ≡ 4 * k + 4
    four_more k = omega arith
