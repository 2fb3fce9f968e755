-- Each function that is called has a body.
use Rattle.std.proofs.Common.{◌≡◌, ◌⊎◌, inl, inr, ℕ, zero, suc, ◌<◌, Bool, true, false, List, [], ◌∷◌, Option, Some, None, slice_get, refl, sym, ap, subst, ◌∙◌, arith}
use Rattle.std.specs.Prelude.{◌==◌, is_some}
use Rattle.std.proofs.lemmas.Bool.{false≢true, true_from_ne_false, or_left, or_right, eq-eqb, cases_order, cases_lt}
use Rattle.std.proofs.lemmas.Option.{same_Some}
use Rattle.fk_syntax.specs.declared.facts.Facts.{Facts}
use Rattle.fk_syntax.specs.Tree.{Named, Trees}
use Rattle.fk_syntax.specs.Program.{Statements, FunctionTree, ItemTree, ProgramTree, StructItem, VariablesItem, FunctionItem}
use Rattle.fk_check_rules.specs.declared.rule.Rule.TheVariants as rules
use Rattle.fk_types_structs.specs.declared.types.DataType.{DataType}
use Rattle.fk_types_structs.specs.Types.{structs_of}
use Rattle.fk_types_names.specs.declared.names.Meaning.{Meaning}
use Rattle.fk_types_names.specs.declared.names.Meaning.TheVariants as m
use Rattle.fk_types_names.specs.Outline.{DeclarationTree, MarkTree, Variable, Header, Opens, Closes, Declares, Uses, declarations, outline}
use Rattle.fk_types_names.specs.Visible.{DeclaresHere}
use Rattle.fk_types_names.specs.Means.{Means, MeansAt, binding, DefinesHere}
use Rattle.fk_types_names.specs.Means as n
use Rattle.fk_types_name_rules.specs.Headers.{HeaderHere, BodyHere, HasHeaderAt, HasBodyAt, HasLaterAt, IsFirst}
use Rattle.fk_types_name_rules.proofs.ListLemmas.{here_at, at_some}
use Rattle.fk_types_judgments.specs.Term.{count_of, no_terms, with_arguments}
use Rattle.fk_types_judgments.specs.Names.{Kept, IsDeclared}
use Rattle.fk_types_judgments.specs.Broken.{is_no_function, is_wrong_count}
use Rattle.fk_types_rules.proofs.Tokens.{tokens_apart}
use Rattle.fk_types_bindings.proofs.BodyLemmas.{declared_here}
use Rattle.fk_meaning_forms.specs.Tables.{no_binding, note}
use Rattle.fk_meaning_forms.specs.Expressions.{Signature}
use Rattle.fk_meaning_forms.specs.Program.{functions_of, with_body, binding_of}
use Rattle.fk_core_flat.specs.Fitting.{is_defined, NameFits}
use Rattle.fk_check_laws.specs.Correct.{IsCorrect}
use Rattle.fk_check_laws.proofs.Typed.{Not, IsGood}
use Rattle.fk_check_laws.proofs.Notes.{tables}
use Rattle.fk_check_laws.proofs.Named.{env, Known, IsKnown, takes}
use Rattle.fk_check_laws.proofs.Declared.{header_at, marked, function_number}

module _ (program : ProgramTree) (facts : Facts) (valid : IsCorrect program facts) where
  -- ---- each function has a header with a body

  module _ (name : List ℕ) (no_body : (k : ℕ) → HasBodyAt program.items name k → ⊥) where
    lacks : (k : ℕ) (f : FunctionTree) → slice_get program.items k ≡ Some (FunctionItem f) → f.name.bytes ≡ name → (IsFirst (HasLaterAt program.items name) k ⊎ ((j : ℕ) → HasLaterAt program.items name j → ⊥)) → ⊥
    lacks k f is same which = valid.known.types.kept f.name.place rules.HeadersDiffer
        (inl (inr (inr (inr (inl (refl, (k, f, is, inr (inr (subst (λ bytes. Lacks bytes) (sym same) (no_body, which))), refl)))))))
      where
        Lacks : List ℕ → Type 0
        Lacks bytes = ((j : ℕ) → HasBodyAt program.items bytes j → ⊥) × (IsFirst (HasLaterAt program.items bytes) k ⊎ ((j : ℕ) → HasLaterAt program.items bytes j → ⊥))

    header_named : (k : ℕ) → HasHeaderAt program.items name k → (f : FunctionTree) × (slice_get program.items k ≡ Some (FunctionItem f)) × (f.name.bytes ≡ name)
    header_named k has = let x = at_some (HeaderHere name) program.items k has in by x.0 x.1 x.2
      where
        by : (x : ItemTree) → slice_get program.items k ≡ Some x → HeaderHere name x → (f : FunctionTree) × (slice_get program.items k ≡ Some (FunctionItem f)) × (f.name.bytes ≡ name)
        by (StructItem other members) is here = absurd here
        by (VariablesItem variables) is here = absurd here
        by (FunctionItem f) is here = (f, is, here)

    none_later : (fuel k : ℕ) → k < fuel → HasLaterAt program.items name k → ⊥
    none_later zero k less later = omega (arith, less)
    none_later (suc fuel) k less later =
        let f = header_named k later.0 in
        lacks k f.0 f.1 f.2 (inl (later, (λ j other. elim (cases_lt j k) [ inl before ↦ absurd (none_later fuel j (omega (arith, less, before)) other) | inr not' ↦ not' ])))

    pub no_header : (k : ℕ) → HasHeaderAt program.items name k → ⊥
    no_header k has = let f = header_named k has in lacks k f.0 f.1 f.2 (inr (λ j later. none_later (suc j) j (omega arith) later))

  -- where no mark has the body of a function, no item has
  no_body_in_items : (bytes : List ℕ) → ((k : ℕ) → n.HasBodyAt (outline program) bytes k → ⊥) → (k : ℕ) → HasBodyAt program.items bytes k → ⊥
  no_body_in_items bytes none k has = let x = at_some (BodyHere bytes) program.items k has in by x.0 x.1 x.2
    where
      by : (x : ItemTree) → slice_get program.items k ≡ Some x → BodyHere bytes x → ⊥
      by (StructItem other members) is here = here
      by (VariablesItem variables) is here = here
      by (FunctionItem f) is here =
          let mark = marked program facts valid program.items k f is in
          none mark.0 (here_at (DefinesHere bytes) (outline program) mark.0 (Declares (Header f)) mark.1 here)

  -- what a name means that means a header has a body
  same_header : (f g : FunctionTree) → Some (Header f) ≡ Some (Header g) → f ≡ g
  same_header f g e = cc

  same_bytes : (d : DeclarationTree) (bytes : List ℕ) (f : FunctionTree) → d ≡ Header f → DeclaresHere bytes (Declares d) → f.name.bytes ≡ bytes
  same_bytes d bytes f e h = subst (λ (x : DeclarationTree). DeclaresHere bytes (Declares x)) e h

  has_body_at : (bytes : List ℕ) (from number : ℕ) (f : FunctionTree) → MeansAt (outline program) bytes from (m.Declared number) → slice_get (declarations program) number ≡ Some (Header f) → is_some f.body ≡ true
  has_body_at bytes from number f (at, Variable v, meant, inner, here, stands, same) is = absurd (apart (sym there ∙ is))
    where
      there : slice_get (declarations program) number ≡ Some (Variable v)
      there = ap (slice_get (declarations program)) (same ∙ ap (binding (outline program)) stands) ∙ declared_here (outline program) at (Variable v) here

      apart : Some (Variable v) ≡ Some (Header f) → ⊥
      apart e = cc
  has_body_at bytes from number f (at, Header g, meant, inner, here, inl defined, same) is =
      let x = at_some (DefinesHere bytes) (outline program) meant defined.body in by x.0 x.1 x.2
    where
      by : (x : MarkTree) → slice_get (outline program) meant ≡ Some x → DefinesHere bytes x → is_some f.body ≡ true
      by Opens there has = absurd has
      by Closes there has = absurd has
      by (Uses name) there has = absurd has
      by (Declares (Variable v)) there has = absurd has
      by (Declares (Header h)) there has =
          let one = same_header h f (sym (declared_here (outline program) meant (Header h) there) ∙ ap (slice_get (declarations program)) (sym same) ∙ is) in
          subst (λ (x : FunctionTree). is_some x.body ≡ true) one has.1
  has_body_at bytes from number f (at, Header g, meant, inner, here, inr (alone, none), same) is =
      absurd (no_header bytes (no_body_in_items bytes none) (header_at program facts valid number f is).1
      (here_at (HeaderHere bytes) program.items (header_at program facts valid number f is).1 (FunctionItem f) (header_at program facts valid number f is).2 named))
    where
      one : g ≡ f
      one = same_header g f (sym (declared_here (outline program) at (Header g) here) ∙ ap (slice_get (declarations program)) (sym (same ∙ ap (binding (outline program)) alone)) ∙ is)

      declares : g.name.bytes ≡ bytes
      declares =
          let x = at_some (DeclaresHere bytes) (outline program) at inner.declares in
          subst (DeclaresHere bytes) (same_Some x.0 (Declares (Header g)) (sym x.1 ∙ here)) x.2

      named : f.name.bytes ≡ bytes
      named = sym (ap (λ (x : FunctionTree). x.name.bytes) one) ∙ declares

  -- ---- and is among the functions of the program

  defined : (xs : List ItemTree) (j : ℕ) (f : FunctionTree) → slice_get xs j ≡ Some (FunctionItem f) → is_some f.body ≡ true → (b : ℕ) → binding_of (tables program facts valid) f ≡ b
      → is_defined (tables program facts valid) (functions_of xs) b ≡ true
  defined [] j f is some b e = absurd (cc)
  defined (x ∷ xs) zero f is some b e =
      subst (λ y. is_defined (tables program facts valid) (functions_of (y ∷ xs)) b ≡ true) (sym (same_Some x (FunctionItem f) is)) (by f.body some)
    where
      by : (o : Option Statements) → is_some o ≡ true → is_defined (tables program facts valid) (with_body f o (functions_of xs)) b ≡ true
      by None some = absurd (false≢true some)
      by (Some body) some = or_left (binding_of (tables program facts valid) f == b) _ (eq-eqb (binding_of (tables program facts valid) f) b e)
  defined (StructItem name members ∷ xs) (suc j) f is some b e = defined xs j f is some b e
  defined (VariablesItem variables ∷ xs) (suc j) f is some b e = defined xs j f is some b e
  defined (FunctionItem g ∷ xs) (suc j) f is some b e = by g.body (defined xs j f is some b e)
    where
      by : (o : Option Statements) → is_defined (tables program facts valid) (functions_of xs) b ≡ true → is_defined (tables program facts valid) (with_body g o (functions_of xs)) b ≡ true
      by None h = h
      by (Some body) h = or_right (binding_of (tables program facts valid) g == b) _ h

  -- a declaration has one number
  pub one_number : (i j : ℕ) (d : DeclarationTree) → slice_get (declarations program) i ≡ Some d → slice_get (declarations program) j ≡ Some d → i ≡ j
  one_number i j d is other = elim (cases_order i j) [
    | inl same ↦ same
    | inr (inl less) ↦ absurd ((tokens_apart program valid.well_formed).declared i j d d less is other refl)
    | inr (inr more) ↦ absurd ((tokens_apart program valid.well_formed).declared j i d d more other is refl)
  ]

  abbrev pub has_body : (binding : ℕ) → Bool
  has_body b = is_defined (tables program facts valid) (functions_of program.items) b

  header_defined : (name : Named) (number : ℕ) (f : FunctionTree) → Means program name.at (m.Declared number) → slice_get (declarations program) number ≡ Some (Header f) → has_body number ≡ true
  header_defined name number f means is =
      let some = has_body_at means.name.bytes means.from number f means.meant is in
      let item = (header_at program facts valid number f is).1 in
      let there = (header_at program facts valid number f is).2 in
      defined program.items item f there some number (one_number (binding_of (tables program facts valid) f) number (Header f) (function_number program facts valid item f there some) is)

  called_defined : (name : Named) → Known program facts valid name → Not (is_no_function ((env program facts valid).meant name))
      → ((note (tables program facts valid) name.at).binding == no_binding) ≡ false → has_body (note (tables program facts valid) name.at).binding ≡ true
  called_defined name is_known callable is = true_from_ne_false _ (λ wrong. is_known (by wrong))
    where
      by_header : (d : DeclarationTree) (number : ℕ) → slice_get (declarations program) number ≡ Some d → Means program name.at (m.Declared number)
          → IsDeclared (structs_of program.items) d ((env program facts valid).meant name) → IsGood ((env program facts valid).meant name) → has_body number ≡ false → ⊥
      by_header (Header f) number at means meant good wrong = false≢true (sym wrong ∙ header_defined name number f means at)
      by_header (Variable x) number at means meant good wrong = by_type meant.0 meant.2
        where
          by_type : (type : Option DataType) → (env program facts valid).meant name ≡ Kept type → ⊥
          by_type None e = subst IsGood e good
          by_type (Some type) e = callable (ap is_no_function e)

      by : has_body (note (tables program facts valid) name.at).binding ≡ false → (meaning : Meaning) → IsKnown program facts valid name meaning → ⊥
      by wrong (m.Declared number) k = by_header k.meant.0 number k.meant.1 k.means k.meant.2 k.good (subst (λ b. has_body b ≡ false) k.binds wrong)
      by wrong m.Predeclared k = false≢true (sym is ∙ eq-eqb (note (tables program facts valid) name.at).binding no_binding k.binds)
      by wrong m.Undeclared k = k.binds

  -- so it is called with its arguments, or has a body
  module _ (functions : (binding : ℕ) → Signature) where
    abbrev pub Takes : Named → Trees → Type 0
    Takes name arguments = NameFits (tables program facts valid) functions has_body ((note (tables program facts valid) name.at).binding == no_binding) name arguments

    pub takes_of : (name : Named) → Known program facts valid name → (arguments : Trees) → Not (is_no_function ((env program facts valid).meant name))
        → Not (is_wrong_count ((env program facts valid).meant name) (count_of (with_arguments no_terms arguments))) → Takes name arguments
    takes_of name is_known arguments callable counted = by ((note (tables program facts valid) name.at).binding == no_binding) refl
      where
        by : (b : Bool) → ((note (tables program facts valid) name.at).binding == no_binding) ≡ b → NameFits (tables program facts valid) functions has_body b name arguments
        by true is = takes program facts valid name is_known arguments callable counted is
        by false is = called_defined name is_known callable is
