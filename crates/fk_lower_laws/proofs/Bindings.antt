-- The bindings of functions go up: each is the number of its header among the declarations.
use Rattle.std.proofs.Common.{◌≡◌, ℕ, suc, ◌+◌, ◌≤◌, true, List, [], ◌∷◌, length, Option, Some, None, slice_get, refl, sym, ap, subst, ◌∙◌, arith}
use Rattle.std.specs.Prelude.{is_some}
use Rattle.fk_syntax.specs.declared.facts.Facts.{Facts}
use Rattle.fk_syntax.specs.Program.{Statements, FunctionTree, ItemTree, ProgramTree, StructItem, VariablesItem, FunctionItem}
use Rattle.fk_types_names.specs.Outline.{DeclarationTree, Header, declared_in, declarations, item_marks, items_marks}
use Rattle.fk_types_rules.proofs.References.{declared_in-append}
use Rattle.fk_meaning_forms.specs.Tables.{Tables}
use Rattle.fk_meaning_forms.specs.Program.{functions_of, with_body, binding_of}
use Rattle.fk_layout_walk.specs.declared.known.ProgramTables.{ProgramTables}
use Rattle.fk_layout_walk.specs.Known.{tables_of}
use Rattle.fk_lower_text.specs.Laid.{GoUp}
use Rattle.fk_check_laws.specs.Correct.{IsCorrect}
use Rattle.fk_check_laws.proofs.Notes.{tables}
use Rattle.fk_check_laws.proofs.Declared.{function_number}
use Rattle.fk_check_laws.proofs.Bodies.{one_number}
use Rattle.fk_check_laws.proofs.Homes.{back_get}
use Rattle.fk_lower_laws.specs.LoweringLaws.{IsKnownOf, BindingsGoUp}

module _ (program : ProgramTree) (facts : Facts) (valid : IsCorrect program facts) (known : ProgramTables) (of : IsKnownOf program facts known) where
  abbrev bound : FunctionTree → ℕ
  bound f = binding_of (tables_of known) f

  -- items from one of the program on, and what they declare
  record AreFrom (j n : ℕ) (xs : List ItemTree) : Type 0 where
    items : (k : ℕ) (x : ItemTree) → slice_get xs k ≡ Some x → slice_get program.items (j + k) ≡ Some x
    declared : (k : ℕ) (d : DeclarationTree) → slice_get (declared_in (items_marks xs)) k ≡ Some d → slice_get (declarations program) (n + k) ≡ Some d

  abbrev count_of : ItemTree → ℕ
  count_of x = length (declared_in (item_marks x))

  behind : (j n : ℕ) (x : ItemTree) (xs : List ItemTree) → AreFrom j n (x ∷ xs) → AreFrom (j + 1) (n + count_of x) xs
  behind j n x xs h = record {
    items = λ k y is. let sum : j + 1 + k ≡ j + suc k = omega arith in ap (slice_get program.items) sum ∙ h.items (suc k) y is;
    declared = λ k d is.
        let here = declared_in-append (item_marks x) (items_marks xs) in
        let sum : n + count_of x + k ≡ n + (count_of x + k) = omega arith in
        ap (slice_get (declarations program)) sum
        ∙ h.declared (count_of x + k) d (ap (λ (ds : List DeclarationTree). slice_get ds (count_of x + k)) here ∙ back_get (declared_in (item_marks x)) (declared_in (items_marks xs)) k ∙ is);
  }

  number_is : (j n : ℕ) (f : FunctionTree) (xs : List ItemTree) (body : Statements) → f.body ≡ Some body → AreFrom j n (FunctionItem f ∷ xs) → bound f ≡ n
  number_is j n f xs body has h =
      let same : bound f ≡ binding_of (tables program facts valid) f = ap (λ (t : Tables). binding_of t f) of.tables in
      let here : slice_get (declarations program) (n + 0) ≡ Some (Header f) = h.declared 0 (Header f) refl in
      let number = function_number program facts valid (j + 0) f (h.items 0 (FunctionItem f) refl) (some f.body has) in
      let one = one_number program facts valid (binding_of (tables program facts valid) f) (n + 0) (Header f) number here in
      omega (arith, same, one)
    where
      some : (o : Option Statements) → o ≡ Some body → is_some o ≡ true
      some (Some b) e = refl
      some None e = absurd (cc)

  with_function : (f : FunctionTree) (o : Option Statements) → f.body ≡ o → (j n : ℕ) (xs : List ItemTree) (count : ℕ) → count ≤ n → AreFrom j n (FunctionItem f ∷ xs)
      → ((from : ℕ) → from ≤ n + count_of (FunctionItem f) → GoUp known from (functions_of xs)) → GoUp known count (with_body f o (functions_of xs))
  with_function f None has j n xs count less h others = others count (omega (arith, less))
  with_function f (Some body) has j n xs count less h others =
      let e = number_is j n f xs body has h in
      let some : 1 ≤ count_of (FunctionItem f) = omega arith in
      (omega (arith, e, less), others (suc (bound f)) (omega (arith, e, some)))

  go : (xs : List ItemTree) (j n count : ℕ) → count ≤ n → AreFrom j n xs → GoUp known count (functions_of xs)
  go [] j n count less h = tt
  go (StructItem name members ∷ xs) j n count less h = go xs (j + 1) (n + 0) count (omega (arith, less)) (behind j n (StructItem name members) xs h)
  go (VariablesItem variables ∷ xs) j n count less h = go xs (j + 1) (n + count_of (VariablesItem variables)) count (omega (arith, less)) (behind j n (VariablesItem variables) xs h)
  go (FunctionItem f ∷ xs) j n count less h =
      with_function f f.body refl j n xs count less h
      (λ from low. go xs (j + 1) (n + count_of (FunctionItem f)) from low (behind j n (FunctionItem f) xs h))

  whole : AreFrom 0 0 program.items
  whole = record {
    items = λ k x is. let sum : 0 + k ≡ k = omega arith in ap (slice_get program.items) sum ∙ is;
    declared = λ k d is. let sum : 0 + k ≡ k = omega arith in ap (slice_get (declarations program)) sum ∙ is;
  }

pub bindings_go_up : BindingsGoUp
bindings_go_up program facts known valid of =
    subst (λ (items : List ItemTree). GoUp known 0 (functions_of items)) (sym of.items) (go program facts valid known of program.items 0 0 0 (omega arith) (whole program facts valid known of))
