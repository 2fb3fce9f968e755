-- A correct program has a `main` with a body.
use Rattle.std.proofs.Common.{◌≡◌, inl, inr, ℕ, zero, suc, false, List, [], ◌∷◌, codes, Option, Some, None, slice_get, refl, sym, ap, subst, ◌∙◌}
use Rattle.std.specs.Prelude.{IsSome, is_some}
use Rattle.std.proofs.lemmas.Bool.{false≢true}
use Rattle.std.proofs.lemmas.Option.{same_Some}
use Rattle.std.proofs.lemmas.Slice.Eq.{bytes_eq-Decides}
use Rattle.fk_syntax.specs.declared.facts.Facts.{Facts}
use Rattle.fk_syntax.specs.Program.{Statements, FunctionTree, ItemTree, ProgramTree, StructItem, VariablesItem, FunctionItem}
use Rattle.fk_check_rules.specs.declared.rule.Rule.TheVariants as rules
use Rattle.fk_types_name_rules.specs.Headers.{BodyHere, HasBodyAt}
use Rattle.fk_types_name_rules.proofs.ListLemmas.{at_some}
use Rattle.fk_meaning_forms.specs.Program.{functions_of, with_body, is_main}
use Rattle.fk_check_laws.specs.Correct.{IsCorrect}
use Rattle.fk_check_laws.proofs.Each.{Each}
use Rattle.fk_check_laws.proofs.Bodies.{no_header}

pub in_functions : (P : FunctionTree → Type 0) (xs : List ItemTree) (i : ℕ) (f : FunctionTree) → slice_get xs i ≡ Some (FunctionItem f) → IsSome f.body → Each P (functions_of xs) → P f
in_functions P [] i f is some h = absurd (cc)
in_functions P (x ∷ xs) zero f is some h = first f.body refl (subst (λ y. Each P (functions_of (y ∷ xs))) (same_Some x (FunctionItem f) is) h)
  where
    first : (o : Option Statements) → f.body ≡ o → Each P (with_body f o (functions_of xs)) → P f
    first None has h = absurd (false≢true (sym (ap is_some has) ∙ some))
    first (Some body) has h = h.0
in_functions P (StructItem name members ∷ xs) (suc i) f is some h = in_functions P xs i f is some h
in_functions P (VariablesItem variables ∷ xs) (suc i) f is some h = in_functions P xs i f is some h
in_functions P (FunctionItem g ∷ xs) (suc i) f is some h = in_functions P xs i f is some (others g.body h)
  where
    others : (o : Option Statements) → Each P (with_body g o (functions_of xs)) → Each P (functions_of xs)
    others None h = h
    others (Some body) h = h.1

module _ (program : ProgramTree) (facts : Facts) (valid : IsCorrect program facts) (none : Each (λ f. is_main f ≡ false) (functions_of program.items)) where
  abbrev name : List ℕ
  name = codes "main"

  no_body : (k : ℕ) → HasBodyAt program.items name k → ⊥
  no_body k has = let x = at_some (BodyHere name) program.items k has in by x.0 x.1 x.2
    where
      by : (x : ItemTree) → slice_get program.items k ≡ Some x → BodyHere name x → ⊥
      by (StructItem other members) is here = here
      by (VariablesItem variables) is here = here
      by (FunctionItem f) is here = false≢true (sym (in_functions (λ g. is_main g ≡ false) program.items k f is here.1 none) ∙ (bytes_eq-Decides f.name.bytes name).1 here.0)

  pub there_is_main : ⊥
  there_is_main = valid.known.types.kept program.end rules.NoMain (inl (inr (inr (inr (inr (refl, inl (no_header program facts valid name no_body, refl)))))))
