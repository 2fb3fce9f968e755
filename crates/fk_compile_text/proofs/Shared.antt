-- The rows of shared variables of file scope end where all of them do.
use Rattle.std.proofs.Common.{ℕ, ◌+◌, ◌≤◌, true, List, [], ◌∷◌, Contains, map, Option, Some, None, inl, inr, ap, subst, arith}
use Rattle.std.specs.Prelude.{IfSome}
use Rattle.std.specs.Option.{option_map}
use Rattle.std.proofs.lemmas.List.Sums.{sum_by-cons}
use Rattle.fk_syntax.specs.Program.{DeclaredTree}
use Rattle.fk_meaning_forms.specs.Tables.{Tables}
use Rattle.fk_layout_globals.specs.Constants.{told}
use Rattle.fk_layout_globals.specs.Variables.{variables_of}
use Rattle.fk_layout_globals.specs.Rows.{Row, words_of, row_at, rows_from, total_of, total}
use Rattle.fk_layout_globals.specs.View.{row_of}
use Rattle.fk_layout_globals.specs.declared.rows.GlobalRow.{GlobalRow}
use Rattle.fk_compile_text.specs.Text.{HasGlobal, HasRows, IsRowOf}
use Rattle.fk_compile_text.proofs.Elements.{Contains-cons_cases, Contains-nil}

row_fits : (tables : Tables) (variables : List DeclaredTree) (first : ℕ) (row : Row) → Contains (rows_from tables first variables) row → row.first + row.words ≤ first + total_of tables variables
row_fits tables [] first row h = absurd (Contains-nil row h)
row_fits tables (v ∷ vs) first row h =
    let sum = sum_by-cons (words_of tables) v vs in
    elim (Contains-cons_cases (row_at tables first v) row (rows_from tables (first + words_of tables v) vs) h) [
      | inl same ↦ omega (arith, ap (λ (r : Row). r.first) same, ap (λ (r : Row). r.words) same, sum)
      | inr rest ↦ omega (arith, row_fits tables vs (first + words_of tables v) row rest, sum)
    ]

module _ (source name : List ℕ) (list : List GlobalRow) (has : HasRows source (map row_of list)) where
  -- what is found among the rows of a text is what the text has
  pub global_of : (row : Option GlobalRow) → IsRowOf (map row_of list) name (option_map row_of row) → HasGlobal source name (option_map row_of row)
  global_of row is = record {
    laid = has.laid;
    is = subst (λ (all : List Row). IsRowOf all name (option_map row_of row)) has.are is;
  }

  pub row_few : (row : Option GlobalRow) → IsRowOf (map row_of list) name (option_map row_of row) → IfSome row (λ r. r.first + r.words ≤ 524288)
  row_few None is = tt
  row_few (Some row) is =
      let laid = has.laid in
      let tables = told laid.facts.notes.items laid.facts.kinds.items in
      let few : total tables laid.tree.items ≤ 524288 = laid.fits.words in
      let among = subst (λ (all : List Row). Contains all (row_of row)) has.are is.0 in
      omega (arith, row_fits tables (variables_of true laid.tree.items) 0 (row_of row) among, few)
