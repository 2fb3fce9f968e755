-- The marks of items close as many scopes as they open.
use Rattle.std.proofs.Common.{◌≡◌, ℕ, ◌+◌, Bool, cond, List, [], ◌∷◌, ◌++◌, refl, sym, ap, ◌∙◌, arith}
use Rattle.std.specs.Prelude.{count_by}
use Rattle.std.proofs.lemmas.List.Sums.{sum_by-cons, sum_by-append}
use Rattle.fk_syntax.specs.Program as p
use Rattle.fk_syntax.specs.Program.{ItemTree}
use Rattle.fk_types_names.specs.Outline.{MarkTree, Opens, Closes, Declares, variables_marks, scope, body_marks, item_marks}
use Rattle.fk_types_names.specs.Visible.{is_opening, is_closing}
use Rattle.fk_check_laws.proofs.Marks.{Grows, of_variables, of_body}

pub record IsLevel (marks : List MarkTree) : Type 0 where
  pub even : count_by is_opening marks ≡ count_by is_closing marks

abbrev as_one : Bool → ℕ
as_one b = cond b 1 0

level_none : IsLevel []
level_none = record { even = refl }

level_one : (mark : MarkTree) → is_opening mark ≡ is_closing mark → (marks : List MarkTree) → IsLevel marks → IsLevel (mark ∷ marks)
level_one mark same marks h = record {
  even =
      let o : count_by is_opening (mark ∷ marks) ≡ cond (is_opening mark) 1 0 + count_by is_opening marks = sum_by-cons (λ (m : MarkTree). cond (is_opening m) 1 0) mark marks in
      let c : count_by is_closing (mark ∷ marks) ≡ cond (is_closing mark) 1 0 + count_by is_closing marks = sum_by-cons (λ (m : MarkTree). cond (is_closing m) 1 0) mark marks in
      omega (arith, o, c, h.even, ap as_one same);
}

count_both : (test : MarkTree → Bool) (xs ys : List MarkTree) → count_by test (xs ++ ys) ≡ count_by test xs + count_by test ys
count_both test xs ys = sum_by-append (λ (m : MarkTree). cond (test m) 1 0) xs ys

pub level_both : (xs ys : List MarkTree) → IsLevel xs → IsLevel ys → IsLevel (xs ++ ys)
level_both xs ys h k = record { even = omega (arith, count_both is_opening xs ys, count_both is_closing xs ys, h.even, k.even) }

level_scope : (marks : List MarkTree) → IsLevel marks → IsLevel (scope marks)
level_scope marks h = record {
  even =
      let o : count_by is_opening (Opens ∷ marks ++ Closes ∷ []) ≡ 1 + count_by is_opening (marks ++ Closes ∷ []) = sum_by-cons (λ (m : MarkTree). cond (is_opening m) 1 0) Opens (marks ++ Closes ∷ []) in
      let c : count_by is_closing (Opens ∷ marks ++ Closes ∷ []) ≡ 0 + count_by is_closing (marks ++ Closes ∷ []) = sum_by-cons (λ (m : MarkTree). cond (is_closing m) 1 0) Opens (marks ++ Closes ∷ []) in
      let o' : count_by is_opening (marks ++ Closes ∷ []) ≡ count_by is_opening marks + 0 = count_both is_opening marks (Closes ∷ []) in
      let c' : count_by is_closing (marks ++ Closes ∷ []) ≡ count_by is_closing marks + 1 = count_both is_closing marks (Closes ∷ []) in
      omega (arith, o, c, o', c', h.even);
}

grows : Grows IsLevel
grows = record { none = level_none; one = λ mark opens closes. level_one mark (opens ∙ sym closes); both = level_both; scoped = level_scope }

pub level_item : (x : ItemTree) → IsLevel (item_marks x)
level_item (p.StructItem name members) = level_none
level_item (p.VariablesItem variables) = of_variables IsLevel grows variables
level_item (p.FunctionItem f) = level_one (Declares _) refl (scope (variables_marks f.parameters ++ body_marks f.body))
    (level_scope _ (level_both (variables_marks f.parameters) (body_marks f.body) (of_variables IsLevel grows f.parameters) (of_body IsLevel grows f.body)))
