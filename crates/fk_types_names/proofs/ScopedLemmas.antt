-- What is visible at the marks of a program, from mark to mark.
use Rattle.std.proofs.Common.{◌≡◌, ◌⊎◌, inl, inr, ℕ, zero, suc, ◌+◌, ◌<◌, List, [], ◌∷◌, ◌++◌, length, Option, Some, None, refl, sym, subst, ap, ◌∙◌, arith, length-append}
use Rattle.std.specs.Prelude.{MatchOption, IsSomeAnd, slice_get}
use Rattle.fk_syntax.specs.Tree.{Named}
use Rattle.fk_types_names.specs.Outline.{MarkTree, Uses}
use Rattle.fk_types_names.specs.Visible.{IsHidden, IsInnermost}
use Rattle.fk_types_names.specs.Means.{UsesAt}
use Rattle.fk_types_names.specs.Scoped.{NamesHere, NamesAt, AreInnermost, found_at}

pub named_here : (marks : List MarkTree) (at : ℕ) (m : MarkTree) (bytes : List ℕ) → slice_get marks at ≡ Some m → NamesAt marks bytes at → NamesHere bytes m
named_here marks at m bytes is named = subst (λ o. IsSomeAnd o (NamesHere bytes)) is named

pub named_at : (marks : List MarkTree) (at : ℕ) (m : MarkTree) (bytes : List ℕ) → slice_get marks at ≡ Some m → NamesHere bytes m → NamesAt marks bytes at
named_at marks at m bytes is named = subst (λ o. IsSomeAnd o (NamesHere bytes)) (sym is) named

pub use_named : (marks : List MarkTree) (at : ℕ) (name : Named) → UsesAt marks name at → NamesAt marks name.bytes at
use_named marks at name used = named_at marks at (Uses name) name.bytes used refl

-- ---- a list with one more

found_front : (found : List (Option ℕ)) (o : Option ℕ) (at : ℕ) → at < length found → found_at (found ++ o ∷ []) at ≡ found_at found at
found_front [] o at within = absurd (omega arith)
found_front (x ∷ xs) o zero within = refl
found_front (x ∷ xs) o (suc at) within = found_front xs o at (omega arith)

found_last : (found : List (Option ℕ)) (o : Option ℕ) → found_at (found ++ o ∷ []) (length found) ≡ o
found_last [] None = refl
found_last [] (Some k) = refl
found_last (x ∷ xs) o = found_last xs o

last_or : (i j : ℕ) → i < j + 1 → (i < j) ⊎ (i ≡ j)
last_or zero zero h = inr refl
last_or zero (suc j) h = inl (omega arith)
last_or (suc i) zero h = absurd (omega arith)
last_or (suc i) (suc j) h = elim (last_or i j (omega arith)) [ inl a ↦ inl (omega arith) | inr e ↦ inr (ap suc e) ]

-- ---- from mark to mark

pub innermost_none : (marks : List MarkTree) (found : List (Option ℕ)) → found ≡ [] → AreInnermost marks found 0
innermost_none marks found e = record { size = ap length e; each = λ at bytes less named. absurd (omega (arith, less)) }

pub innermost_more : (marks : List MarkTree) (found more : List (Option ℕ)) (upto : ℕ) (o : Option ℕ) → AreInnermost marks found upto
    → ((bytes : List ℕ) → NamesAt marks bytes upto → MatchOption o (IsHidden marks bytes upto) (IsInnermost marks bytes upto))
    → more ≡ found ++ o ∷ [] → AreInnermost marks more (upto + 1)
innermost_more marks found more upto o before here pushed = subst (λ xs. AreInnermost marks xs (upto + 1)) (sym pushed) (record {
  size = (let n = length-append found (o ∷ []) in let s = before.size in omega (arith, n, s));
  each = λ at bytes less named. by at bytes (last_or at upto less) named;
})
  where
    by : (at : ℕ) (bytes : List ℕ) → (at < upto) ⊎ (at ≡ upto) → NamesAt marks bytes at
        → MatchOption (found_at (found ++ o ∷ []) at) (IsHidden marks bytes at) (IsInnermost marks bytes at)
    by at bytes (inl less) named =
        let within : at < length found = (let s = before.size in omega (arith, less, s)) in
        subst (λ x. MatchOption x (IsHidden marks bytes at) (IsInnermost marks bytes at)) (sym (found_front found o at within)) (before.each at bytes less named)
    by at bytes (inr last) named =
        let there : found_at (found ++ o ∷ []) upto ≡ o = ap (found_at (found ++ o ∷ [])) (sym before.size) ∙ found_last found o in
        subst (λ k. MatchOption (found_at (found ++ o ∷ []) k) (IsHidden marks bytes k) (IsInnermost marks bytes k)) (sym last)
        (subst (λ x. MatchOption x (IsHidden marks bytes upto) (IsInnermost marks bytes upto)) (sym there)
        (here bytes (subst (NamesAt marks bytes) last named)))
