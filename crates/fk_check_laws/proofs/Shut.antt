-- A scope in which things are declared and nothing is read: what is declared there is visible nowhere.
use Rattle.std.proofs.Common.{◌≡◌, inl, inr, ℕ, zero, suc, ◌+◌, ◌-◌, ◌<◌, ◌≤◌, Bool, List, take, Some, slice_get, sym, ap, subst, ◌∙◌, arith}
use Rattle.std.specs.Prelude.{count_by}
use Rattle.std.proofs.lemmas.Bool.{cases_order}
use Rattle.fk_syntax.specs.Tree.{Named}
use Rattle.fk_types_names.specs.Outline.{DeclarationTree, MarkTree, Closes, Declares, Uses}
use Rattle.fk_types_names.specs.Visible.{is_opening, is_closing, depth, IsVisible}
use Rattle.fk_types_names.specs.Means.{UsesAt}
use Rattle.fk_types_names.proofs.SurveyLemmas.{count_more}

abbrev pub opened : List MarkTree → ℕ → ℕ
opened marks at = count_by is_opening (take at marks)

abbrev pub closed : List MarkTree → ℕ → ℕ
closed marks at = count_by is_closing (take at marks)

abbrev pub DeclaresAny : List MarkTree → ℕ → Type 0
DeclaresAny marks k = (d : DeclarationTree) × (slice_get marks k ≡ Some (Declares d))

-- from an index on there are declarations alone, up to the end of their scope
pub record IsShut (marks : List MarkTree) (at : ℕ) : Type 0 where
  pub close : ℕ
  pub behind : at ≤ close
  pub closes : slice_get marks close ≡ Some Closes
  pub quiet : (k : ℕ) → at ≤ k → k < close → DeclaresAny marks k
  pub inside : closed marks at < opened marks at

next : (p : MarkTree → Bool) (marks : List MarkTree) (k n : ℕ) → count_by p (take (k + 1) marks) ≡ n → count_by p (take (suc k) marks) ≡ n
next p marks k n e = let same : suc k ≡ k + 1 = omega arith in subst (λ i. count_by p (take i marks) ≡ n) (sym same) e

-- declarations open and close nothing
pub steady : (marks : List MarkTree) (at n : ℕ) → ((k : ℕ) → at ≤ k → k < at + n → DeclaresAny marks k)
    → (k : ℕ) → k ≡ at + n → (opened marks k ≡ opened marks at) × (closed marks k ≡ closed marks at)
steady marks at zero quiet k is = let same : k ≡ at = omega (arith, is) in (ap (opened marks) same, ap (closed marks) same)
steady marks at (suc n) quiet zero is = absurd (omega (arith, is))
steady marks at (suc n) quiet (suc k) is =
    let before = steady marks at n (λ j low high. quiet j low (omega (arith, high))) k (omega (arith, is)) in
    let here = quiet k (omega (arith, is)) (omega (arith, is)) in (
      next is_opening marks k (opened marks at) (omega (arith, count_more is_opening marks k (Declares here.0) here.1, before.0)),
      next is_closing marks k (closed marks at) (omega (arith, count_more is_closing marks k (Declares here.0) here.1, before.1)),
    )

module _ (marks : List MarkTree) (at : ℕ) (shut : IsShut marks at) where
  counts : (opened marks shut.close ≡ opened marks at) × (closed marks shut.close ≡ closed marks at)
  counts =
      let behind = shut.behind in
      steady marks at (shut.close - at) (λ k low high. shut.quiet k low (omega (arith, high, behind))) shut.close (omega (arith, behind))

  -- behind its end the depth is lower
  lower : depth marks (shut.close + 1) < depth marks at
  lower =
      let o = count_more is_opening marks shut.close Closes shut.closes in
      let c = count_more is_closing marks shut.close Closes shut.closes in
      let same = counts in
      let inside = shut.inside in
      omega (arith, o, c, same.0, same.1, inside)

  pub never_seen : (name : Named) (from : ℕ) → UsesAt marks name from → IsVisible marks at from → ⊥
  never_seen name from used seen =
      let inside = shut.inside in
      let after : at < from = seen.before (omega (arith, inside)) in
      elim (cases_order from shut.close) [
        | inl same ↦ closing (sym used ∙ ap (slice_get marks) same ∙ shut.closes)
        | inr (inl less) ↦ let d = shut.quiet from (omega (arith, after)) less in declaring d.0 (sym used ∙ d.1)
        | inr (inr more) ↦ let behind = shut.behind in omega (arith, lower, seen.within (shut.close + 1) (omega (arith, behind)) (omega (arith, more)))
      ]
    where
      closing : Some (Uses name) ≡ Some Closes → ⊥
      closing e = cc

      declaring : (d : DeclarationTree) → Some (Uses name) ≡ Some (Declares d) → ⊥
      declaring d e = cc
