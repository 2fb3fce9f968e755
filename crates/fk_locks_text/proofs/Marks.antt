-- What the names of the lock denote in a text that begins with it.
use Rattle.std.proofs.Common.{◌≡◌, ◌⊎◌, inl, inr, ℕ, zero, suc, ◌<◌, ◌≤◌, false, List, ◌∷◌, codes, refl, sym, subst, ◌∙◌, arith}
use Rattle.std.specs.Prelude.{bytes_eq}
use Rattle.std.proofs.lemmas.Bool.{cases_lt, false≢true}
use Rattle.std.proofs.lemmas.Slice.Eq.{bytes_eq-Decides}
use Rattle.fk_syntax.specs.Tree.{Named}
use Rattle.fk_types_names.specs.Outline.{MarkTree, Variable, Header, Opens, Closes, Declares, Uses}
use Rattle.fk_types_names.specs.Visible.{depth, DeclaresAt, IsVisible, IsInnermost, IsHidden}
use Rattle.fk_locks_tree.specs.Items.{name_at, take_parameter, take_ticket, lock_take, give_parameter, lock_give}

-- ---- numbers below another, one by one

abbrev pub EachBelow : (ℕ → Type 0) → ℕ → Type 0
EachBelow P zero = Unit {0}
EachBelow P (suc n) = EachBelow P n × P n

pub below : (P : ℕ → Type 0) (n : ℕ) → EachBelow P n → (k : ℕ) → k < n → P k
below P zero each k low = absurd (omega (arith, low))
below P (suc n) each k low = elim (cases_lt k n) [
  | inl less ↦ below P n each.0 k less
  | inr more ↦ let same : n ≡ k = omega (arith, low, more) in subst P same each.1
]

pub differ : (xs ys : List ℕ) → bytes_eq xs ys ≡ false → xs ≡ ys → ⊥
differ xs ys other same = false≢true (sym other ∙ (bytes_eq-Decides xs ys).1 same)

one_one : 1 ≤ 1
one_one = omega arith

one_two : 1 ≤ 2
one_two = omega arith

past : 1 ≤ 0 → ⊥
past less = omega (arith, less)

-- ---- the marks

abbrev pub take_mpadd : Named
take_mpadd = name_at 24 2 54 (codes "mpadd")

abbrev pub take_l : Named
take_l = name_at 27 2 61 (codes "l")

abbrev pub test_l : Named
test_l = name_at 36 2 81 (codes "l")

abbrev pub test_t : Named
test_t = name_at 40 2 91 (codes "t")

abbrev pub give_mpadd : Named
give_mpadd = name_at 53 3 38 (codes "mpadd")

abbrev pub give_l : Named
give_l = name_at 56 3 45 (codes "l")

-- the marks of a text that begins with the lock
abbrev pub lock_marks : List MarkTree → List MarkTree
lock_marks rest =
    Declares (Header lock_take)
    ∷ Opens
    ∷ Declares (Variable take_parameter)
    ∷ Declares (Variable take_ticket)
    ∷ Uses take_mpadd
    ∷ Uses take_l
    ∷ Uses test_l
    ∷ Uses test_t
    ∷ Opens
    ∷ Closes
    ∷ Closes
    ∷ Declares (Header lock_give)
    ∷ Opens
    ∷ Declares (Variable give_parameter)
    ∷ Uses give_mpadd
    ∷ Uses give_l
    ∷ Closes
    ∷ rest

module _ (rest : List MarkTree) where
  abbrev M : List MarkTree
  M = lock_marks rest

  -- ---- the innermost declaration of a name

  abbrev Within : (at k : ℕ) → Type 0
  Within at k = at < k → 1 ≤ depth M k

  abbrev Fits : (bytes : List ℕ) (from at k : ℕ) → Type 0
  Fits bytes from at k = DeclaresAt M bytes k → IsVisible M k from → (depth M k ≡ 1) × (at ≤ k)

  outer_or : (bytes : List ℕ) (from at : ℕ) → depth M at ≡ 1 → EachBelow (Fits bytes from at) from → (k n : ℕ) → depth M k ≡ n → DeclaresAt M bytes k → IsVisible M k from
      → (depth M k < depth M at) ⊎ ((depth M k ≡ depth M at) × (at ≤ k))
  outer_or bytes from at one each k zero deep d v = inl (omega (arith, one, deep))
  outer_or bytes from at one each k (suc n) deep d v =
      let fits = below (Fits bytes from at) from each k (v.before (omega (arith, deep))) d v in
      inr (fits.0 ∙ sym one, fits.1)

  innermost : (bytes : List ℕ) (from at : ℕ) → DeclaresAt M bytes at → depth M at ≡ 1 → at < from → EachBelow (Within at) (suc from) → EachBelow (Fits bytes from at) from → IsInnermost M bytes from at
  innermost bytes from at declares one less within each = record {
    declares = declares;
    visible = record {
      before = λ deep. less;
      within = λ k more low. let deep = below (Within at) (suc from) within k (omega (arith, low)) more in omega (arith, one, deep);
    };
    innermost = λ k d v. outer_or bytes from at one each k (depth M k) refl d v;
  }

  pub take_l_is : IsInnermost M (codes "l") 5 2
  take_l_is = let same : 2 ≤ 2 = omega arith in
      innermost (codes "l") 5 2 refl refl (omega arith)
      ((((((tt, λ low. absurd (omega (arith, low))), λ low. absurd (omega (arith, low))), λ low. absurd (omega (arith, low))), λ low. one_one), λ low. one_one), λ low. one_one)
      (((((tt, λ d v. absurd (differ (codes "fair_take") (codes "l") refl d)), λ d v. absurd d), λ d v. (refl, same)), λ d v. absurd (differ (codes "t") (codes "l") refl d)), λ d v. absurd d)

  pub test_l_is : IsInnermost M (codes "l") 6 2
  test_l_is = let same : 2 ≤ 2 = omega arith in
      innermost (codes "l") 6 2 refl refl (omega arith)
      (((((((tt, λ low. absurd (omega (arith, low))), λ low. absurd (omega (arith, low))), λ low. absurd (omega (arith, low))), λ low. one_one), λ low. one_one), λ low. one_one), λ low. one_one)
      ((((((tt, λ d v. absurd (differ (codes "fair_take") (codes "l") refl d)), λ d v. absurd d), λ d v. (refl, same)), λ d v. absurd (differ (codes "t") (codes "l") refl d)), λ d v. absurd d), λ d v. absurd d)

  pub test_t_is : IsInnermost M (codes "t") 7 3
  test_t_is = let same : 3 ≤ 3 = omega arith in
      innermost (codes "t") 7 3 refl refl (omega arith)
      ((((((((tt, λ low. absurd (omega (arith, low))), λ low. absurd (omega (arith, low))), λ low. absurd (omega (arith, low))), λ low. absurd (omega (arith, low))), λ low. one_one), λ low. one_one), λ low. one_one), λ low. one_one)
      (((((((tt, λ d v. absurd (differ (codes "fair_take") (codes "t") refl d)), λ d v. absurd d), λ d v. absurd (differ (codes "l") (codes "t") refl d)), λ d v. (refl, same)), λ d v. absurd d), λ d v. absurd d), λ d v. absurd d)

  pub give_l_is : IsInnermost M (codes "l") 15 13
  give_l_is = let same : 13 ≤ 13 = omega arith in
      innermost (codes "l") 15 13 refl refl (omega arith)
      ((((((((((((((((tt, λ low. absurd (omega (arith, low))), λ low. absurd (omega (arith, low))), λ low. absurd (omega (arith, low))), λ low. absurd (omega (arith, low))), λ low. absurd (omega (arith, low))), λ low. absurd (omega (arith, low))), λ low. absurd (omega (arith, low))), λ low. absurd (omega (arith, low))), λ low. absurd (omega (arith, low))), λ low. absurd (omega (arith, low))), λ low. absurd (omega (arith, low))), λ low. absurd (omega (arith, low))), λ low. absurd (omega (arith, low))), λ low. absurd (omega (arith, low))), λ low. one_one), λ low. one_one)
      (((((((((((((((tt, λ d v. absurd (differ (codes "fair_take") (codes "l") refl d)), λ d v. absurd d), λ d v. absurd (past (v.within 11 (omega arith) (omega arith)))), λ d v. absurd (differ (codes "t") (codes "l") refl d)), λ d v. absurd d), λ d v. absurd d), λ d v. absurd d), λ d v. absurd d), λ d v. absurd d), λ d v. absurd d), λ d v. absurd d), λ d v. absurd (differ (codes "fair_give") (codes "l") refl d)), λ d v. absurd d), λ d v. (refl, same)), λ d v. absurd d)

  -- ---- `mpadd`, if no declaration at file scope has its name

  abbrev Other : ℕ → Type 0
  Other k = DeclaresAt M (codes "mpadd") k → ⊥

  hidden_by : (from : ℕ) → EachBelow Other from → ((k : ℕ) → depth M k ≡ 0 → DeclaresAt M (codes "mpadd") k → ⊥) → (k n : ℕ) → depth M k ≡ n → DeclaresAt M (codes "mpadd") k → ¬ IsVisible M k from
  hidden_by from each none k zero deep d v = none k deep d
  hidden_by from each none k (suc n) deep d v = below Other from each k (v.before (omega (arith, deep))) d

  pub take_mpadd_is : ((k : ℕ) → depth M k ≡ 0 → DeclaresAt M (codes "mpadd") k → ⊥) → IsHidden M (codes "mpadd") 4
  take_mpadd_is none k d = hidden_by 4 ((((tt, λ d. differ (codes "fair_take") (codes "mpadd") refl d), λ d. absurd d), λ d. differ (codes "l") (codes "mpadd") refl d), λ d. differ (codes "t") (codes "mpadd") refl d) none k (depth M k) refl d

  pub give_mpadd_is : ((k : ℕ) → depth M k ≡ 0 → DeclaresAt M (codes "mpadd") k → ⊥) → IsHidden M (codes "mpadd") 14
  give_mpadd_is none k d = hidden_by 14
      ((((((((((((((tt, λ d. differ (codes "fair_take") (codes "mpadd") refl d), λ d. absurd d), λ d. differ (codes "l") (codes "mpadd") refl d), λ d. differ (codes "t") (codes "mpadd") refl d), λ d. absurd d), λ d. absurd d), λ d. absurd d), λ d. absurd d), λ d. absurd d), λ d. absurd d), λ d. absurd d), λ d. differ (codes "fair_give") (codes "mpadd") refl d), λ d. absurd d), λ d. differ (codes "l") (codes "mpadd") refl d)
      none k (depth M k) refl d
