-- Each name in an expression means something.
use Rattle.std.proofs.Common.{◌≡◌, ◌⊎◌, inl, inr, ℕ, zero, suc, ◌<◌, ◌≤◌, Bool, true, false, List, length, get_or, Option, Some, None, Decides, Contains, nat_eq, slice_get, refl, sym, ap, subst, arith}
use Rattle.std.specs.Prelude.{IsSome, IsSomeAnd}
use Rattle.std.specs.Cmp.Lexicographic.{pointwise}
use Rattle.std.proofs.Math.Nat.{eq-or-lt_of_le}
use Rattle.std.proofs.lemmas.Bool.{false≢true}
use Rattle.std.proofs.lemmas.Option.{slice_get_within}
use Rattle.std.proofs.lemmas.Slice.Eq.{bytes_eq-Decides}
use Rattle.fk_syntax.specs.Program.{Statements}
use Rattle.fk_types_names.specs.declared.names.Meaning.{Meaning}
use Rattle.fk_types_names.specs.declared.names.Meaning.TheVariants as m
use Rattle.fk_types_names.specs.Outline.{DeclarationTree, MarkTree, Variable, Header, Opens, Closes, Declares, Uses, name_of}
use Rattle.fk_types_names.specs.Visible.{depth, DeclaresHere, DeclaresAt, IsVisible, IsInnermost, IsHidden}
use Rattle.fk_types_names.specs.Means.{predeclared, binding, DefinesHere, HasBodyAt, Denotes, MeansAt}

-- a fact is so or not
abbrev Known : Type 0 → Type 0
Known P = P ⊎ (¬ P)

less_or : (i j : ℕ) → (i < j) ⊎ (j ≤ i)
less_or zero zero = inr (omega arith)
less_or zero (suc j) = inl (omega arith)
less_or (suc i) zero = inr (omega arith)
less_or (suc i) (suc j) = elim (less_or i j) [ inl less ↦ inl (omega arith) | inr more ↦ inr (omega arith) ]

-- an index below the next one is below this one, or it is this one
below_next : (n k : ℕ) → k < suc n → (k ≡ n) ⊎ (k < n)
below_next n k low = let le : k ≤ n = omega arith in eq-or-lt_of_le le

-- ---- searches among the first numbers

module _ (P : ℕ → Type 0) (known : (k : ℕ) → Known (P k)) where
  -- the least of which something holds
  abbrev HasLeast : ℕ → Type 0
  HasLeast n = (k : ℕ) × (k < n) × P k × ((j : ℕ) → j < k → ¬ P j)

  least : (n : ℕ) → HasLeast n ⊎ ((k : ℕ) → k < n → ¬ P k)
  least zero = inr (λ k low. absurd (omega arith))
  least (suc n) = elim (least n) [
    | inl found ↦ inl (found.0, (let low : found.0 < n = found.1 in omega arith), found.2, found.3)
    | inr none ↦ elim (known n) [
      | inl here ↦ inl (n, omega arith, here, none)
      | inr no_more ↦ inr (λ k low p. elim (below_next n k low) [ inl same ↦ no_more (subst P same p) | inr less ↦ none k less p ])
    ]
  ]

  all_below : (n : ℕ) → Known ((k : ℕ) → k < n → P k)
  all_below zero = inl (λ k low. absurd (omega arith))
  all_below (suc n) = elim (known n) [
    | inl here ↦ elim (all_below n) [
      | inl all ↦ inl (λ k low. elim (below_next n k low) [ inl same ↦ subst P (sym same) here | inr less ↦ all k less ])
      | inr not_all ↦ inr (λ all. not_all (λ k low. all k (omega arith)))
    ]
    | inr missing ↦ inr (λ all. missing (all n (omega arith)))
  ]

-- the one of the greatest weight, and of several the first
module _ (P : ℕ → Type 0) (known : (k : ℕ) → Known (P k)) (weight : ℕ → ℕ) where
  abbrev IsNoBetter : ℕ → ℕ → Type 0
  IsNoBetter best k = (weight k < weight best) ⊎ ((weight k ≡ weight best) × (best ≤ k))

  abbrev HasBest : ℕ → Type 0
  HasBest n = (best : ℕ) × P best × (best < n) × ((k : ℕ) → k < n → P k → IsNoBetter best k)

  -- a better one more
  better : (n : ℕ) (b : HasBest n) → P n → weight b.0 < weight n → HasBest (suc n)
  better n b here more = (
    n,
    here,
    omega arith,
    λ k low p. elim (below_next n k low) [
      | inl same ↦ inr (ap weight same, (let e : k ≡ n = same in omega arith))
      | inr less ↦ elim (b.3 k less p) [
        | inl lighter ↦ inl (omega arith)
        | inr alike ↦ inl (let e : weight k ≡ weight b.0 = alike.0 in omega arith)
      ]
    ],
  )

  no_better : (n : ℕ) (b : HasBest n) → weight n ≤ weight b.0 → HasBest (suc n)
  no_better n b less = (
    b.0,
    b.1,
    (let low : b.0 < n = b.2 in omega arith),
    λ k low p. elim (below_next n k low) [
      | inl same ↦ elim (less_or (weight n) (weight b.0)) [
        | inl lighter ↦ inl (subst (λ i. weight i < weight b.0) (sym same) lighter)
        | inr alike ↦ inr ((let e : weight k ≡ weight n = ap weight same in omega arith), (let first : b.0 < n = b.2 in let e : k ≡ n = same in omega arith))
      ]
      | inr before ↦ b.3 k before p
    ],
  )

  best : (n : ℕ) → HasBest n ⊎ ((k : ℕ) → k < n → ¬ P k)
  best zero = inr (λ k low. absurd (omega arith))
  best (suc n) = elim (known n) [
    | inl here ↦ elim (best n) [
      | inl b ↦ elim (less_or (weight b.0) (weight n)) [ inl more ↦ inl (better n b here more) | inr less ↦ inl (no_better n b less) ]
      | inr none ↦ inl (
        n,
        here,
        omega arith,
        λ k low p. elim (below_next n k low) [
          | inl same ↦ inr (ap weight same, (let e : k ≡ n = same in omega arith))
          | inr less ↦ absurd (none k less p)
        ],
      )
    ]
    | inr missing ↦ elim (best n) [
      | inl b ↦ inl (b.0, b.1, (let low : b.0 < n = b.2 in omega arith), λ k low p. elim (below_next n k low) [ inl same ↦ absurd (missing (subst P same p)) | inr less ↦ b.3 k less p ])
      | inr none ↦ inr (λ k low p. elim (below_next n k low) [ inl same ↦ missing (subst P same p) | inr less ↦ none k less p ])
    ]
  ]

-- ---- what is known of marks

known_bytes : (xs ys : List ℕ) → Known (xs ≡ ys)
known_bytes xs ys = by (pointwise nat_eq xs ys) (bytes_eq-Decides xs ys)
  where
    by : (b : Bool) → Decides b (xs ≡ ys) → Known (xs ≡ ys)
    by true d = inl (d.0 refl)
    by false d = inr (λ e. false≢true (d.1 e))

known_declared : (bytes : List ℕ) (o : Option MarkTree) → Known (IsSomeAnd o (DeclaresHere bytes))
known_declared bytes None = inr (λ h. h)
known_declared bytes (Some Opens) = inr (λ h. h)
known_declared bytes (Some Closes) = inr (λ h. h)
known_declared bytes (Some (Declares d)) = known_bytes (name_of d).bytes bytes
known_declared bytes (Some (Uses name)) = inr (λ h. h)

known_body : (body : Option Statements) → Known (IsSome body)
known_body None = inr false≢true
known_body (Some body) = inl refl

known_both : (P Q : Type 0) → Known P → Known Q → Known (P × Q)
known_both P Q (inl p) (inl q) = inl (p, q)
known_both P Q (inl p) (inr n) = inr (λ h. n h.1)
known_both P Q (inr n) q = inr (λ h. n h.0)

known_defined : (bytes : List ℕ) (o : Option MarkTree) → Known (IsSomeAnd o (DefinesHere bytes))
known_defined bytes None = inr (λ h. h)
known_defined bytes (Some Opens) = inr (λ h. h)
known_defined bytes (Some Closes) = inr (λ h. h)
known_defined bytes (Some (Declares (Variable variable))) = inr (λ h. h)
known_defined bytes (Some (Declares (Header function))) = known_both (function.name.bytes ≡ bytes) (IsSome function.body) (known_bytes function.name.bytes bytes) (known_body function.body)
known_defined bytes (Some (Uses name)) = inr (λ h. h)

-- an index of which a mark says something is one of the list
within : (P : MarkTree → Type 0) (marks : List MarkTree) (k : ℕ) → IsSomeAnd (slice_get marks k) P → k < length marks
within P marks k h = by (slice_get marks k) refl h
  where
    by : (o : Option MarkTree) → slice_get marks k ≡ o → IsSomeAnd o P → k < length marks
    by None e p = absurd p
    by (Some mark) e p = slice_get_within marks k mark e

module _ (marks : List MarkTree) where
  known_deeper : (at k : ℕ) → Known (at < k → depth marks at ≤ depth marks k)
  known_deeper at k = elim (less_or at k) [
    | inl less ↦ elim (less_or (depth marks k) (depth marks at)) [
      | inl outer ↦ inr (λ h. let inner : depth marks at ≤ depth marks k = h less in absurd (omega arith))
      | inr inner ↦ inl (λ _. inner)
    ]
    | inr more ↦ inl (λ less. absurd (omega arith))
  ]

  known_before : (at from : ℕ) → Known (0 < depth marks at → at < from)
  known_before at from = elim (less_or at from) [
    | inl less ↦ inl (λ _. less)
    | inr more ↦ elim (less_or 0 (depth marks at)) [
      | inl inside ↦ inr (λ h. let less : at < from = h inside in absurd (omega arith))
      | inr outside ↦ inl (λ inside. absurd (omega arith))
    ]
  ]

  known_visible : (at from : ℕ) → Known (IsVisible marks at from)
  known_visible at from = by (known_before at from) (all_below (λ k. at < k → depth marks at ≤ depth marks k) (known_deeper at) (suc from))
    where
      by : Known (0 < depth marks at → at < from) → Known ((k : ℕ) → k < suc from → at < k → depth marks at ≤ depth marks k) → Known (IsVisible marks at from)
      by (inl before) (inl inner) = inl (record { before = before; within = λ k after upto. inner k (omega arith) after })
      by (inl before) (inr not_inner) = inr (λ h. not_inner (λ k upto after. let le : k ≤ from = omega arith in h.within k after le))
      by (inr not_before) inner = inr (λ h. not_before h.before)

  -- ---- what a name means

  abbrev IsCandidate : List ℕ → ℕ → ℕ → Type 0
  IsCandidate bytes from k = DeclaresAt marks bytes k × IsVisible marks k from

  known_candidate : (bytes : List ℕ) (from k : ℕ) → Known (IsCandidate bytes from k)
  known_candidate bytes from k = known_both (DeclaresAt marks bytes k) (IsVisible marks k from) (known_declared bytes (slice_get marks k)) (known_visible k from)

  -- the mark that declares something
  declared_here : (bytes : List ℕ) (k : ℕ) → DeclaresAt marks bytes k → (d : DeclarationTree) × (slice_get marks k ≡ Some (Declares d))
  declared_here bytes k h = by (slice_get marks k) h
    where
      by : (o : Option MarkTree) → IsSomeAnd o (DeclaresHere bytes) → (d : DeclarationTree) × (o ≡ Some (Declares d))
      by None p = absurd p
      by (Some Opens) p = absurd p
      by (Some Closes) p = absurd p
      by (Some (Declares d)) p = (d, refl)
      by (Some (Uses name)) p = absurd p

  stands_for : (bytes : List ℕ) (at : ℕ) (d : DeclarationTree) → (meant : ℕ) × Denotes marks bytes at d meant
  stands_for bytes at (Variable variable) = (at, refl)
  stands_for bytes at (Header function) = elim (least (HasBodyAt marks bytes) (λ k. known_defined bytes (slice_get marks k)) (length marks)) [
    | inl found ↦ (found.0, inl (record { body = found.2; first = found.3 }))
    | inr none ↦ (at, inr (refl, λ k h. none k (within (DefinesHere bytes) marks k h) h))
  ]

  known_predeclared : (bytes : List ℕ) → Known (Contains predeclared bytes)
  known_predeclared bytes = elim (least (λ k. get_or predeclared k bytes ≡ bytes) (λ k. known_bytes (get_or predeclared k bytes) bytes) (length predeclared)) [
    | inl found ↦ inl (found.0, found.1, found.2)
    | inr none ↦ inr (λ h. none h.0 h.1 h.2)
  ]

  hidden : (bytes : List ℕ) (from : ℕ) → IsHidden marks bytes from → Known (Contains predeclared bytes) → (meaning : Meaning) × MeansAt marks bytes from meaning
  hidden bytes from none (inl has) = (m.Predeclared, (none, has))
  hidden bytes from none (inr hasnt) = (m.Undeclared, (none, hasnt))

  pub means-something : (bytes : List ℕ) (from : ℕ) → (meaning : Meaning) × MeansAt marks bytes from meaning
  means-something bytes from = elim (best (IsCandidate bytes from) (known_candidate bytes from) (depth marks) (length marks)) [
    | inl b ↦ declared b
    | inr none ↦ hidden bytes from (λ k here there. none k (within (DeclaresHere bytes) marks k here) (here, there)) (known_predeclared bytes)
  ]
    where
      declared : HasBest (IsCandidate bytes from) (known_candidate bytes from) (depth marks) (length marks) → (meaning : Meaning) × MeansAt marks bytes from meaning
      declared b =
          let d = declared_here bytes b.0 b.1.0 in
          let meant = stands_for bytes b.0 d.0 in
          let innermost : IsInnermost marks bytes from b.0 = record {
            declares = b.1.0;
            visible = b.1.1;
            innermost = λ k here there. b.3 k (within (DeclaresHere bytes) marks k here) (here, there);
          } in
          (m.Declared (binding marks meant.0), (b.0, d.0, meant.0, innermost, d.1, meant.1, refl))
