-- From the marks of a form on nothing more is open behind them than before, and what they declare is at least as deep.
use Rattle.std.proofs.Common.{◌≡◌, inl, inr, ℕ, suc, ◌+◌, ◌<◌, ◌≤◌, Bool, true, false, cond, List, [], ◌∷◌, ◌++◌, take, Some, slice_get, refl, sym, ap, subst, ◌∙◌, append-nil, arith}
use Rattle.std.specs.Prelude.{count_by}
use Rattle.std.specs.Int.{from_bool}
use Rattle.std.proofs.lemmas.Bool.{cases_lt, cases_eq}
use Rattle.std.proofs.lemmas.List.Sums.{sum_by-cons}
use Rattle.fk_syntax.specs.Program.{DeclaredTree, Statement, Statements, statement, no_statements}
use Rattle.fk_types_names.specs.Outline.{DeclarationTree, MarkTree, Opens, Closes, Declares, variables_marks, scope, statement_marks, statements_marks}
use Rattle.fk_types_names.specs.Visible.{is_opening, is_closing}
use Rattle.fk_types_names.proofs.SurveyLemmas.{count_more}
use Rattle.fk_check_laws.proofs.Marks.{Grows, of_variables, of_body}
use Rattle.fk_check_laws.proofs.Shut.{opened, closed}
use Rattle.fk_lower_names.proofs.Offsets.{At, past, at_front, at_rest, past_both}

module _ (all : List MarkTree) where
  pub counted : (test : MarkTree → Bool) (i : ℕ) (mark : MarkTree) → slice_get all i ≡ Some mark
      → count_by test (take (suc i) all) ≡ count_by test (take i all) + from_bool (test mark)
  counted test i mark is =
      let same : i + 1 ≡ suc i = omega arith in
      subst (λ k. count_by test (take k all) ≡ count_by test (take i all) + from_bool (test mark)) same (count_more test all i mark is)

  pub marks_counted : (test : MarkTree → Bool) (marks : List MarkTree) (i : ℕ) → At all i marks → count_by test (take (past marks i) all) ≡ count_by test (take i all) + count_by test marks
  marks_counted test [] i at = let none : count_by test [] ≡ 0 = refl in omega (arith, none)
  marks_counted test (mark ∷ marks) i at =
      let one : count_by test (mark ∷ marks) ≡ cond (test mark) 1 0 + count_by test marks = sum_by-cons (λ (m : MarkTree). cond (test m) 1 0) mark marks in
      omega (arith, one, counted test i mark at.0, marks_counted test marks (suc i) at.1, as_number (test mark))
    where
      as_number : (b : Bool) → from_bool b ≡ cond b 1 0
      as_number true = refl
      as_number false = refl

  -- from an index on up to another one
  pub record Keeps (i j : ℕ) : Type 0 where
    pub onward : i ≤ j
    pub same : opened all j + closed all i ≡ opened all i + closed all j
    pub deep : (k : ℕ) (d : DeclarationTree) → i ≤ k → k < j → slice_get all k ≡ Some (Declares d)
        → opened all i + closed all k ≤ opened all k + closed all i

  along : (i j k : ℕ) → Keeps i j → Keeps j k → Keeps i k
  along i j k first second =
      let a = first.onward in
      let b = second.onward in
      let c = first.same in
      let d = second.same in
      record {
        onward = omega (arith, a, b);
        same = omega (arith, c, d);
        deep = λ n x low high is. elim (cases_lt n j) [
          | inl less ↦ first.deep n x low less is
          | inr more ↦ let e = second.deep n x more high is in omega (arith, c, e)
        ];
      }

  abbrev pub Kept : List MarkTree → Type 0
  Kept marks = (i : ℕ) → At all i marks → Keeps i (past marks i)

  kept_none : Kept []
  kept_none i h = record { onward = omega arith; same = omega arith; deep = λ k d low high is. absurd (omega (arith, low, high)) }

  kept_one : (mark : MarkTree) → is_opening mark ≡ false → is_closing mark ≡ false → (marks : List MarkTree) → Kept marks → Kept (mark ∷ marks)
  kept_one mark opens closes marks h i at =
      let o : opened all (suc i) ≡ opened all i + from_bool (is_opening mark) = counted is_opening i mark at.0 in
      let c : closed all (suc i) ≡ closed all i + from_bool (is_closing mark) = counted is_closing i mark at.0 in
      let no : from_bool (is_opening mark) ≡ 0 = ap from_bool opens in
      let nc : from_bool (is_closing mark) ≡ 0 = ap from_bool closes in
      along i (suc i) (past marks (suc i))
      (record {
        onward = omega arith;
        same = omega (arith, o, c, no, nc);
        deep = λ k d low high is. let same : k ≡ i = omega (arith, low, high) in omega (arith, ap (opened all) same, ap (closed all) same);
      })
      (h (suc i) at.1)

  kept_both : (xs ys : List MarkTree) → Kept xs → Kept ys → Kept (xs ++ ys)
  kept_both xs ys h k i at =
      subst (Keeps i) (sym (past_both xs ys i)) (along i (past xs i) (past ys (past xs i)) (h i (at_front all i xs ys at)) (k (past xs i) (at_rest all i xs ys at)))

  -- from the beginning of a scope up to its end, where what is declared inside is deeper
  pub record Encloses (i j : ℕ) : Type 0 where
    pub onward : i ≤ j
    pub same : opened all j + closed all i ≡ opened all i + closed all j
    pub deeper : (k : ℕ) (d : DeclarationTree) → i ≤ k → k < j → slice_get all k ≡ Some (Declares d)
        → opened all i + closed all k < opened all k + closed all i

  opening_declares : (d : DeclarationTree) → Some Opens ≡ Some (Declares d) → ⊥
  opening_declares d e = cc

  closing_declares : (d : DeclarationTree) → Some Closes ≡ Some (Declares d) → ⊥
  closing_declares d e = cc

  enclosed : (i j : ℕ) → slice_get all i ≡ Some Opens → Keeps (suc i) j → slice_get all j ≡ Some Closes → Encloses i (suc j)
  enclosed i j opens inner closes =
      let o : opened all (suc i) ≡ opened all i + 1 = counted is_opening i Opens opens in
      let c : closed all (suc i) ≡ closed all i + 0 = counted is_closing i Opens opens in
      let o' : opened all (suc j) ≡ opened all j + 0 = counted is_opening j Closes closes in
      let c' : closed all (suc j) ≡ closed all j + 1 = counted is_closing j Closes closes in
      let same = inner.same in
      let onward = inner.onward in
      record {
        onward = omega (arith, onward);
        same = omega (arith, o, c, o', c', same);
        deeper = λ k d low high is. elim (cases_eq k i) [
          | inl e ↦ absurd (opening_declares d (sym opens ∙ ap (slice_get all) (sym e) ∙ is))
          | inr other ↦ elim (cases_lt k j) [
            | inl less ↦ let h = inner.deep k d (omega (arith, low, other)) less is in omega (arith, o, c, h)
            | inr more ↦ let e : k ≡ j = omega (arith, more, high) in absurd (closing_declares d (sym closes ∙ ap (slice_get all) (sym e) ∙ is))
          ]
        ];
      }

  pub scope_encloses : (marks : List MarkTree) → Kept marks → (i : ℕ) → At all i (scope marks) → Encloses i (past (scope marks) i)
  scope_encloses marks h i at =
      subst (Encloses i) (sym (past_both marks (Closes ∷ []) (suc i)))
      (enclosed i (past marks (suc i)) at.0 (h (suc i) (at_front all (suc i) marks (Closes ∷ []) at.1)) (at_rest all (suc i) marks (Closes ∷ []) at.1).0)

  kept_scope : (marks : List MarkTree) → Kept marks → Kept (scope marks)
  kept_scope marks h i at =
      let e = scope_encloses marks h i at in
      record { onward = e.onward; same = e.same; deep = λ k d low high is. let less = e.deeper k d low high is in omega (arith, less) }

  grows : Grows Kept
  grows = record { none = kept_none; one = kept_one; both = kept_both; scoped = kept_scope }

  pub all_kept : (xs : Statements) → Kept (statements_marks xs)
  all_kept xs = of_body Kept grows (Some xs)

  pub statement_kept : (x : Statement) → Kept (statement_marks x)
  statement_kept x = subst Kept (append-nil (statement_marks x)) (all_kept (statement x no_statements))

  pub variables_kept : (xs : List DeclaredTree) → Kept (variables_marks xs)
  variables_kept xs = of_variables Kept grows xs
