-- The parts of a `fork`: how many have room, and where each of them lies.
use Rattle.std.proofs.Common.{◌≡◌, ℕ, zero, suc, ◌+◌, ◌-◌, ◌*◌, ◌/◌, ◌^◌, ◌<◌, ◌≤◌, Bool, true, false, Option, Some, None, sym, ap, subst, ◌∙◌, arith, refl, inl, inr}
use Rattle.std.specs.Prelude.{nat_lt, is_some, if◌then◌else◌}
use Rattle.std.specs.Int.{from_bool}
use Rattle.std.proofs.Math.Nat.{mul-le-mul_right, le-div_iff_mul-le, mul-div-le, add-mul-div_right}
use Rattle.std.proofs.lemmas.Bool.{ne_eqb, ltb-true, cases_lt}
use Rattle.fk_num.specs.Op.{quotient}
use Rattle.fk_space.specs.Space.{Space, IsSpace, free, equal_part}
use Rattle.fk_meaning_operation.specs.declared.operation.SplitKind.TheVariants.{Fork}
use Rattle.fk_meaning.specs.Processor.{values, last, before}
use Rattle.fk_meaning.specs.Group.{has_parts}
use Rattle.fk_sim_block.specs.Owner.{Owner}
use Rattle.fk_sim_block.specs.Parts.{part_of, parts_of}
use Rattle.fk_gen_group.proofs.Fronts.{no_words, small_parts, enough, both_ways}
use Rattle.fk_gen_group.proofs.PartSizes.{AreCounted, Within, word_at}

-- ---- room

-- each part of some needs 20 words
needs_words : (s : Space) (c : ℕ) → has_parts s (suc c) ≡ true → 20 * suc c ≤ free s
needs_words s c e = elim (cases_lt (free s) (4 * suc c)) [
  | inl less ↦ absurd (both_ways (has_parts s (suc c)) e (no_words s (suc c) less))
  | inr le ↦ elim (cases_lt (equal_part s (suc c)) 16) [
    | inl small ↦ absurd (both_ways (has_parts s (suc c)) e (small_parts s (suc c) small))
    | inr many ↦ let all = (le-div_iff_mul-le {k = suc c} {x = 16} {y = free s - 4 * suc c} (omega arith)).0 many in omega (arith, all)
  ]
]

quotient_is : (a c : ℕ) → quotient a (suc c) ≡ a / suc c
quotient_is a c = ap (λ b. if b then 2 ^ 32 - 1 else a / suc c) (ne_eqb (suc c) 0 (λ e. omega arith))

pub room_of : (s : Space) (k : ℕ) → has_parts s k ≡ true → 20 ≤ quotient (free s) k
room_of s zero e = omega arith
room_of s (suc c) e =
    let words = needs_words s c e in
    subst (λ q. 20 ≤ q) (sym (quotient_is (free s) c)) ((le-div_iff_mul-le {k = suc c} {x = 20} {y = free s} (omega arith)).1 words)

pub full_of : (s : Space) (k : ℕ) → has_parts s k ≡ false → quotient (free s) k < 20
full_of s zero e = absurd (cc)
full_of s (suc c) e = subst (λ q. q < 20) (sym (quotient_is (free s) c)) (elim (cases_lt (free s / suc c) 20) [
  | inl lt ↦ lt
  | inr le ↦
      let words = (le-div_iff_mul-le {k = suc c} {x = 20} {y = free s} (omega arith)).0 le in
      let rest : 16 * suc c ≤ free s - 4 * suc c = omega (arith, words) in
      absurd (both_ways (has_parts s (suc c)) (enough s (suc c) (omega (arith, words)) ((le-div_iff_mul-le {k = suc c} {x = 16} {y = free s - 4 * suc c} (omega arith)).1 rest)) e)
])

pub share_of : (s : Space) (c : ℕ) → has_parts s (suc c) ≡ true → quotient (free s) (suc c) ≡ equal_part s (suc c) + 4
share_of s c e =
    let words = needs_words s c e in
    let whole : free s ≡ free s - 4 * suc c + 4 * suc c = omega (arith, words) in
    quotient_is (free s) c ∙ ap (λ x. x / suc c) whole ∙ add-mul-div_right (free s - 4 * suc c) 4 {z = suc c} (omega arith)

-- ---- a part lies in the free words

pub part_ends : (s : Space) (c i : ℕ) → has_parts s (suc c) ≡ true → i < suc c → 4 * suc c + i * equal_part s (suc c) + equal_part s (suc c) ≤ free s
part_ends s c i e lt =
    let words = needs_words s c e in
    let all : suc i * equal_part s (suc c) ≤ suc c * equal_part s (suc c) = mul-le-mul_right (equal_part s (suc c)) lt in
    let most : suc c * equal_part s (suc c) ≤ free s - 4 * suc c = mul-div-le (free s - 4 * suc c) (suc c) in
    omega (arith, all, most, words)

pub part_is_large : (s : Space) (c : ℕ) → has_parts s (suc c) ≡ true → 16 ≤ equal_part s (suc c)
part_is_large s c e = let a = share_of s c e in let b = room_of s (suc c) e in omega (arith, a, b)

pub few_parts : (s : Space) (k : ℕ) → IsSpace s → has_parts s k ≡ true → k < 2 ^ 16
few_parts s zero is e = omega arith
few_parts s (suc c) is e =
    let words = needs_words s c e in
    let within = is.within in
    let top = is.shared in
    omega (arith, words, within, top)

-- ---- they are counted

-- a processor with so many parts
abbrev pub HasParts : (count : ℕ) → Owner → Type 0
HasParts count p = parts_of Fork p ≡ count

-- 1 for who enters a part
abbrev pub entry : Owner → ℕ
entry p = from_bool (nat_lt (last (before 1 (values p.runner.has))) (parts_of Fork p))

pub entry_of : (i k : ℕ) (o : Option ℕ) → (if nat_lt i k then Some i else None) ≡ o → from_bool (nat_lt i k) ≡ from_bool (is_some o)
entry_of i k o e = by (nat_lt i k) e
  where
    by : (b : Bool) → (if b then Some i else None) ≡ o → from_bool b ≡ from_bool (is_some o)
    by true e = ap (λ (x : Option ℕ). from_bool (is_some x)) e
    by false e = ap (λ (x : Option ℕ). from_bool (is_some x)) e

part_within : (i k : ℕ) (o : Option ℕ) → (if nat_lt i k then Some i else None) ≡ o → Within k o
part_within i k o e = by (nat_lt i k) refl e
  where
    by : (b : Bool) → nat_lt i k ≡ b → (if b then Some i else None) ≡ o → Within k o
    by true lt e = subst (Within k) e (ltb-true i k lt)
    by false lt e = subst (Within k) e tt

abbrev told_part : Option ℕ → ℕ
told_part None = 0
told_part (Some x) = x

entered_part : (i k j : ℕ) → (if nat_lt i k then Some i else None) ≡ Some j → (i ≡ j) × (j < k)
entered_part i k j e = by (nat_lt i k) refl e
  where
    by : (b : Bool) → nat_lt i k ≡ b → (if b then Some i else None) ≡ Some j → (i ≡ j) × (j < k)
    by true lt e =
        let same : i ≡ j = ap told_part e in
        (same, subst (λ x. x < k) same (ltb-true i k lt))
    by false lt e = absurd (cc)

-- the number of the part that a processor enters
pub number_of_part : (p : Owner) (j : ℕ) → part_of Fork p ≡ Some j → (last (before 1 (values p.runner.has)) ≡ j) × (j < parts_of Fork p)
number_of_part p j e = entered_part (last (before 1 (values p.runner.has))) (parts_of Fork p) j e

module _ (space : Space) (first k : ℕ) (is_space : IsSpace space) (low : first ≡ space.low) (room : has_parts space k ≡ true) where
  -- a part that there is
  pub large : (j : ℕ) → j < k → (16 ≤ equal_part space k) × (1 ≤ k)
  large j lt = by k room lt
    where
      by : (c : ℕ) → has_parts space c ≡ true → j < c → (16 ≤ equal_part space c) × (1 ≤ c)
      by zero e lt = absurd (omega arith)
      by (suc c) e lt = (part_is_large space c e, omega arith)

  pub ends_in : (j : ℕ) → j < k → word_at space first k (Some j) + equal_part space k ≤ space.blocks
  ends_in j lt = by k room lt
    where
      by : (c : ℕ) → has_parts space c ≡ true → j < c → word_at space first c (Some j) + equal_part space c ≤ space.blocks
      by zero e less = absurd (omega arith)
      by (suc c) e less =
          let ends = part_ends space c j e less in
          let ordered = is_space.ordered in
          omega (arith, ends, ordered)

  no_neighbours : (j l : ℕ) → j < k → l < k → j * equal_part space k + 1 ≡ l * equal_part space k → ⊥
  no_neighbours j l a b e = elim (cases_lt j l) [
    | inl less ↦
        let wide = (large j a).0 in
        let more : suc j * equal_part space k ≤ l * equal_part space k = mul-le-mul_right (equal_part space k) less in
        omega (arith, wide, more, e)
    | inr le ↦
        let more : l * equal_part space k ≤ j * equal_part space k = mul-le-mul_right (equal_part space k) le in
        omega (arith, more, e)
  ]

  not_before : (j l : ℕ) → j < k → j < l → j * equal_part space k ≡ l * equal_part space k → ⊥
  not_before j l a less e =
      let wide = (large j a).0 in
      let more : suc j * equal_part space k ≤ l * equal_part space k = mul-le-mul_right (equal_part space k) less in
      omega (arith, wide, more, e)

  same_part : (j l : ℕ) → j < k → l < k → j * equal_part space k ≡ l * equal_part space k → j ≡ l
  same_part j l a b e = elim (cases_lt j l) [
    | inl less ↦ absurd (not_before j l a less e)
    | inr le ↦ elim (cases_lt l j) [
      | inl more ↦ absurd (not_before l j b more (sym e))
      | inr ge ↦ omega (arith, le, ge)
    ]
  ]

  apart : (x y : Option ℕ) → Within k x → Within k y → word_at space first k x + 1 ≡ word_at space first k y → ⊥
  apart None None a b e = omega arith
  apart None (Some l) a b e =
      let header = is_space.header in
      let some = (large l b).1 in
      omega (arith, header, some, low, e)
  apart (Some j) None a b e =
      let header = is_space.header in
      omega (arith, header, low, e)
  apart (Some j) (Some l) a b e = no_neighbours j l a b (omega (arith, e))

  differ : (j : ℕ) → j < k → first ≡ word_at space first k (Some j) → ⊥
  differ j lt e =
      let header = is_space.header in
      omega (arith, header, low, e)

  pub counted_fork : AreCounted (HasParts k) Fork space first k entry
  counted_fork = record {
    within = λ p good. subst (λ c. Within c (part_of Fork p)) good (part_within (last (before 1 (values p.runner.has))) (parts_of Fork p) (part_of Fork p) refl);
    one = λ p j good e. entry_of (last (before 1 (values p.runner.has))) (parts_of Fork p) (part_of Fork p) refl ∙ ap (λ (x : Option ℕ). from_bool (is_some x)) e;
    none = λ p good e. entry_of (last (before 1 (values p.runner.has))) (parts_of Fork p) (part_of Fork p) refl ∙ ap (λ (x : Option ℕ). from_bool (is_some x)) e;
    apart = apart;
    differ = differ;
    same = λ j l a b e. same_part j l a b (omega (arith, e));
  }
