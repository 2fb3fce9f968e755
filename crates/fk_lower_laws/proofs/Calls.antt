-- Calls are of functions, with their arguments, and give what their types say.
use Rattle.std.proofs.Common.{◌≡◌, inl, inr, ℕ, zero, suc, ◌+◌, ◌≤◌, Bool, true, false, not, ◌&&◌, List, [], ◌∷◌, length, nat_eq, codes, Option, Some, None, slice_get, Contains, refl, sym, ap, subst, ◌∙◌, arith}
use Rattle.std.specs.Prelude.{◌==◌, ◌||◌, IsSome, map, if◌then◌else◌}
use Rattle.std.specs.Option.{option_map}
use Rattle.std.proofs.lemmas.Bool.{false≢true, eqb-true, ne_eqb}
use Rattle.std.proofs.lemmas.List.{length-map}
use Rattle.std.proofs.lemmas.Option.{same_Some}
use Rattle.fk_syntax.specs.declared.facts.Facts.{Facts}
use Rattle.fk_syntax.specs.declared.place.Spot.{Spot}
use Rattle.fk_syntax.specs.Tree as t
use Rattle.fk_syntax.specs.Tree.{Named, BaseType, Trees}
use Rattle.fk_syntax.specs.Program.{DeclaredTree, Statements, FunctionTree, ItemTree, ProgramTree, StructItem, VariablesItem, FunctionItem}
use Rattle.fk_check_rules.specs.declared.rule.Rule.TheVariants as rules
use Rattle.fk_types_structs.specs.declared.types.Root.{Root}
use Rattle.fk_types_structs.specs.declared.types.Root.TheVariants as r
use Rattle.fk_types_structs.specs.declared.types.DataType.{DataType}
use Rattle.fk_types_structs.specs.Types.{struct_named, type_spelled}
use Rattle.fk_types_struct_rules.specs.Declarations.{ResultBreaks}
use Rattle.fk_types_names.specs.Outline.{Header, declarations}
use Rattle.fk_types_names.specs.Means.{predeclared}
use Rattle.fk_types_operators.specs.declared.values.Value.{Value}
use Rattle.fk_types_operators.specs.declared.values.ExpressionType.{ExpressionType}
use Rattle.fk_types_operators.specs.declared.values.ExpressionType.TheVariants.{Stored, Computed, Nothing}
use Rattle.fk_types_operators.specs.Values.{result_of}
use Rattle.fk_types_judgments.specs.Term as e
use Rattle.fk_types_judgments.specs.Term.{Terms, no_terms, also, count_of, term_of, with_arguments}
use Rattle.fk_types_judgments.specs.Names.{Result, Pointed, Meant, Kept, Constant, Called, Main, Undeclared, Always, Typed, HasDeclaredType, is_text, predeclared_meant}
use Rattle.fk_types_judgments.specs.Typing.{type_of, parameters_of, result_in, call_type, do_all_fit, first_value}
use Rattle.fk_types_judgments.specs.Broken.{is_no_function, is_wrong_count}
use Rattle.fk_meaning_forms.specs.Tables.{no_binding, note}
use Rattle.fk_meaning_forms.specs.Statements.{is_nothing}
use Rattle.fk_meaning_forms.specs.Program.{functions_of, with_body, binding_of, signature_of, signature_in, is_main}
use Rattle.fk_lockstep_frames.specs.Nests.{Nest}
use Rattle.fk_core_liveness.specs.declared.places.FunctionKind.{FunctionKind}
use Rattle.fk_core_liveness.specs.declared.places.FunctionKind.TheVariants as pl
use Rattle.fk_core_flat.specs.Fitting.{is_defined, NameFits}
use Rattle.fk_check_laws.proofs.Typed.{Unbroken, Not}
use Rattle.fk_check_laws.proofs.Named.{known}
use Rattle.fk_check_laws.proofs.Declared.{function_number}
use Rattle.fk_check_laws.proofs.Bodies.{takes_of}
use Rattle.fk_lockstep_structure.specs.Valued.{AreEnough, predeclared_gives}
use Rattle.fk_lower_names.proofs.Given.{IsGiven}
use Rattle.fk_lower_laws.specs.Ways.{Way, Valued, Absent, Function, result, predeclared_way, place_gives, called_way}
use Rattle.fk_lower_laws.specs.Asked.{IsCalled, TakesAll, NameTakes, NameAsks, CallAsks, place_by, place_in}
use Rattle.fk_lower_laws.proofs.Valid.{about}
use Rattle.fk_lower_laws.proofs.AskedNames as n
use Rattle.fk_lower_laws.proofs.Members.{map_some}
use Rattle.fk_lower_laws.proofs.AskedNames.{Gives, IsSo, predeclared_so, MeansFunction, means_one, way_of, way_predeclared, way_function}

-- what is called with so many arguments, and gives a type
record IsCall (m : Meant) (count : ℕ) (fit : Bool) (first : Option Value) (type : ExpressionType) : Type 0 where
  function : Not (is_no_function m)
  counted : Not (is_wrong_count m count)

call_is : (m : Meant) (count : ℕ) (fit : Bool) (first : Option Value) (type : ExpressionType) → call_type m count fit first ≡ Some type → IsCall m count fit first type
call_is (Called parameters result') count fit first type h = by (nat_eq count (length parameters)) refl h
  where
    by : (b : Bool) → nat_eq count (length parameters) ≡ b → (if b && fit then result_in result' first else None) ≡ Some type → IsCall (Called parameters result') count fit first type
    by true same h' = record { function = λ x. false≢true x; counted = λ x. false≢true (sym (ap not same) ∙ x) }
    by false other h' = absurd (cc)
call_is (Kept type') count fit first type h = absurd (cc)
call_is (Constant value) count fit first type h = absurd (cc)
call_is Main count fit first type h = absurd (cc)
call_is Undeclared count fit first type h = absurd (cc)

enough : (xs : List DeclaredTree) (es : Trees) (before : Terms) → length xs + count_of before ≤ count_of (with_arguments before es) → AreEnough xs es
enough [] es before many = tt
enough (x ∷ xs) t.no_trees before many = absurd (omega (arith, many))
enough (x ∷ xs) (t.tree first others) before many = enough xs others (also before (term_of first)) (omega (arith, many))

pub header_same : (f g : FunctionTree) → Some (Header f) ≡ Some (Header g) → f ≡ g
header_same f g same = cc

module _ (program : ProgramTree) (facts : Facts) (given : IsGiven program facts) (nests : List Nest) where
  open about program facts given use {env, tables, functions, places, IsUsed}

  abbrev Stood : Way → ExpressionType → Type 0
  Stood w type = n.Stood program facts given nests w type

  -- ---- the function of a binding

  record IsFound (fs : List FunctionTree) (b : ℕ) : Type 0 where
    function : FunctionTree
    index : ℕ
    there : slice_get program.items index ≡ Some (FunctionItem function)
    body : IsSome function.body
    binds : binding_of tables function ≡ b
    place : place_in tables fs b ≡ place_by function
    signature : signature_in tables fs b ≡ signature_of function

  abbrev AreAmong : List ItemTree → Type 0
  AreAmong xs = (j : ℕ) (x : ItemTree) → slice_get xs j ≡ Some x → (i : ℕ) × (slice_get program.items i ≡ Some x)

  found : (xs : List ItemTree) → AreAmong xs → (b : ℕ) → is_defined tables (functions_of xs) b ≡ true → IsFound (functions_of xs) b
  found [] among b is = absurd (false≢true is)
  found (StructItem name members ∷ xs) among b is = found xs (λ j x at. among (suc j) x at) b is
  found (VariablesItem variables ∷ xs) among b is = found xs (λ j x at. among (suc j) x at) b is
  found (FunctionItem f ∷ xs) among b is = by f.body refl (λ more. found xs (λ j x at. among (suc j) x at) b more) is
    where
      later : (is : Bool) → (binding_of tables f == b) ≡ is → (is || is_defined tables (functions_of xs) b) ≡ true → (is_defined tables (functions_of xs) b ≡ true → IsFound (functions_of xs) b)
          → IsSome f.body → IsFound (f ∷ functions_of xs) b
      later true same here others body =
          let at = among 0 (FunctionItem f) refl in
          record {
            function = f;
            index = at.0;
            there = at.1;
            body = body;
            binds = eqb-true (binding_of tables f) b same;
            place = ap (λ (c : Bool). if c then place_by f else place_in tables (functions_of xs) b) same;
            signature = ap (λ (c : Bool). if c then signature_of f else signature_in tables (functions_of xs) b) same;
          }
      later false other here others body =
          let more = others here in
          record {
            function = more.function;
            index = more.index;
            there = more.there;
            body = more.body;
            binds = more.binds;
            place = ap (λ (c : Bool). if c then place_by f else place_in tables (functions_of xs) b) other ∙ more.place;
            signature = ap (λ (c : Bool). if c then signature_of f else signature_in tables (functions_of xs) b) other ∙ more.signature;
          }

      by : (o : Option Statements) → f.body ≡ o → (is_defined tables (functions_of xs) b ≡ true → IsFound (functions_of xs) b) → is_defined tables (with_body f o (functions_of xs)) b ≡ true
          → IsFound (with_body f o (functions_of xs)) b
      by None has others is' = others is'
      by (Some body) has others is' = later (binding_of tables f == b) refl is' others (subst IsSome (sym has) refl)

  -- that of a name
  record IsPlace (b : ℕ) (f : FunctionTree) : Type 0 where
    place : places b ≡ place_by f
    signature : functions b ≡ signature_of f

  place_is : (name : Named) (f : MeansFunction program facts given name) → is_defined tables (functions_of program.items) f.number ≡ true → IsPlace f.number f.function
  place_is name f defined =
      let x = found program.items (λ j y at. (j, at)) f.number defined in
      let number = function_number program facts given.correct x.index x.function x.there x.body in
      let one = header_same x.function f.function (sym number ∙ ap (slice_get (declarations program)) x.binds ∙ f.there) in
      record { place = x.place ∙ ap place_by one; signature = x.signature ∙ ap signature_of one }

  -- ---- what a function gives

  -- a result is a value or nothing, as its words say
  gives : (base : BaseType) (stars : ℕ) (here : _) (type : DataType) → Unbroken (ResultBreaks env.structs (record { base = base; stars = stars }) here)
      → type_spelled env.structs (record { base = base; stars = stars }) None ≡ Some type → Stood (result (not (is_nothing (record { base = base; stars = stars })))) (result_of type)
  gives t.Int zero here type un is = subst (λ (x : DataType). Stood Valued (result_of x)) (same_Some _ type is) tt
  gives t.Int (suc stars) here type un is = subst (λ (x : DataType). Stood Valued (result_of x)) (same_Some _ type is) tt
  gives t.Unsigned zero here type un is = subst (λ (x : DataType). Stood Valued (result_of x)) (same_Some _ type is) tt
  gives t.Unsigned (suc stars) here type un is = subst (λ (x : DataType). Stood Valued (result_of x)) (same_Some _ type is) tt
  gives t.Void zero here type un is = subst (λ (x : DataType). Stood Absent (result_of x)) (same_Some _ type is) tt
  gives t.Void (suc stars) here type un is =
      subst (λ (b : Bool). Stood (result (not b)) (result_of type)) (sym (ne_eqb (suc stars) 0 (λ same. omega (arith, same))))
      (subst (λ (x : DataType). Stood Valued (result_of x)) (same_Some _ type is) tt)
  gives (t.Struct name) zero here type un is = absurd (un here rules.NoVariable (inr (refl, ((name, refl, refl), refl))))
  gives (t.Struct name) (suc stars) here type un is = by (struct_named env.structs name.bytes) is
    where
      by : (o : Option ℕ) → option_map (λ (root : Root). record { root = root; stars = suc stars; length = None }) (option_map r.Struct o) ≡ Some type → Stood Valued (result_of type)
      by None is' = absurd (cc)
      by (Some i) is' = subst (λ (x : DataType). Stood Valued (result_of x)) (same_Some _ type is') tt

  -- ---- calls

  abbrev CallStands : Named → Trees → ExpressionType → Type 0
  CallStands name es type =
      NameAsks tables functions places nests name.at (way_of program facts given name) × CallAsks tables functions places nests (way_of program facts given name) es
      × Stood (called_way tables places (way_of program facts given name)) type

  abbrev bound : Named → ℕ
  bound name = (note tables name.at).binding

  -- of a function, by its name's way
  by_way : (name : Named) (es : Trees) (type : ExpressionType) → way_of program facts given name ≡ Function name
      → NameTakes tables functions places nests (bound name == no_binding) name es
      → Stood (result (if bound name == no_binding then predeclared_gives name else place_gives (places (bound name)))) type → CallStands name es type
  by_way name es type same takes stood =
      subst (λ (w : Way). NameAsks tables functions places nests name.at w × CallAsks tables functions places nests w es × Stood (called_way tables places w) type) (sym same) (tt, takes, stood)

  called : (main : Bool) (f : FunctionTree) → is_main f ≡ false → (b : ℕ) → IsPlace b f → IsCalled (places b)
  called main f other b is = subst IsCalled (sym (is.place ∙ ap (λ (c : Bool). if c then pl.Main else pl.Called (not (is_nothing f.result))) other)) tt

  -- a declared one
  module _ (name : Named) (f : MeansFunction program facts given name) (is : IsPlace f.number f.function) (es : Trees) (type : ExpressionType) where
    abbrev args : Terms
    args = with_arguments no_terms es

    abbrev result' : Option DataType
    result' = f.is.1

    abbrev parameters : List (Option DataType)
    parameters = f.is.0

    not_main : (main : Bool) (fit : Bool) (first : Option Value) → call_type (if main then Main else Called (map Typed parameters) (Always (option_map result_of result'))) (count_of args) fit first ≡ Some type
        → (main ≡ false) × (nat_eq (count_of args) (length (map Typed parameters)) ≡ true) × (option_map result_of result' ≡ Some type)
    not_main true fit first h = absurd (cc)
    not_main false fit first h = by (nat_eq (count_of args) (length (map Typed parameters))) fit h
      where
        by : (a b : Bool) → (if a && b then option_map result_of result' else None) ≡ Some type → (false ≡ false) × (a ≡ true) × (option_map result_of result' ≡ Some type)
        by true true h' = (refl, refl, h')
        by true false h' = absurd (cc)
        by false b h' = absurd (cc)

    gives_as : (o : Option DataType) → HasDeclaredType env.structs (ResultBreaks env.structs f.function.result f.function.name.place) (type_spelled env.structs f.function.result None) o
        → option_map result_of o ≡ Some type → Stood (result (not (is_nothing f.function.result))) type
    gives_as None has h = absurd (cc)
    gives_as (Some r') has h =
        subst (Stood (result (not (is_nothing f.function.result)))) (same_Some (result_of r') type h)
        (gives f.function.result.base f.function.result.stars f.function.name.place r' has.1 has.0)

    declared_call : (fit : Bool) (first : Option Value) → call_type (env.meant name) (count_of args) fit first ≡ Some type → CallStands name es type
    declared_call fit first h =
        let parts = not_main (is_text f.function.name.bytes (codes "main")) fit first (sym (ap (λ (m : Meant). call_type m (count_of args) fit first) f.is.3) ∙ h) in
        let other : (bound name == no_binding) ≡ false = ne_eqb (bound name) no_binding (λ same. let low = f.low in omega (arith, same, f.binds, low)) in
        let at : IsPlace (bound name) f.function = subst (λ b. IsPlace b f.function) (sym f.binds) is in
        let many = eqb-true (count_of args) (length (map Typed parameters)) parts.1 in
        let long = length-map parameters Typed in
        let same = f.is.2.same in
        let takes : TakesAll tables functions places nests (bound name) es = record {
          called = called true f.function parts.0 (bound name) at;
          enough = subst (λ s. AreEnough s es) (sym (ap (λ s. s.parameters) at.signature)) (enough f.function.parameters es no_terms (omega (arith, many, long, same)));
        } in
        let place = at.place ∙ ap (λ (c : Bool). if c then pl.Main else pl.Called (not (is_nothing f.function.result))) parts.0 in
        by_way name es type (way_function program facts given name f)
        (subst (λ (c : Bool). NameTakes tables functions places nests c name es) (sym other) takes)
        (subst (λ (c : Bool). Stood (result (if c then predeclared_gives name else place_gives (places (bound name)))) type) (sym other)
        (subst (λ (x : FunctionKind). Stood (result (place_gives x)) type) (sym place) (gives_as result' f.is.2.gives parts.2)))

  -- one that is declared before each text
  by_result : (a b : Bool) (o : Option ExpressionType) (type : ExpressionType) → (if a && b then o else None) ≡ Some type → o ≡ Some type
  by_result true true o type h = h
  by_result true false o type h = absurd (cc)
  by_result false b o type h = absurd (cc)

  gives_so : (is : Result) (b : Bool) → Gives is b → (first : Option Value) (type : ExpressionType) → result_in is first ≡ Some type → Stood (result b) type
  gives_so Pointed b so first type h = let x = map_some Computed _ type h in subst (λ (b : Bool). Stood (result b) type) (sym so) (subst (Stood Valued) x.2 tt)
  gives_so (Always (Some (Computed value))) b so first type h = subst (λ (b : Bool). Stood (result b) type) (sym so) (subst (Stood Valued) (same_Some _ type h) tt)
  gives_so (Always (Some Nothing)) b so first type h = subst (λ (b : Bool). Stood (result b) type) (sym so) (subst (Stood Absent) (same_Some _ type h) tt)
  gives_so (Always (Some (Stored x))) b so first type h = absurd so
  gives_so (Always None) b so first type h = absurd so

  predeclared_call : (name : Named) → Contains predeclared name.bytes → (count : ℕ) (fit : Bool) (first : Option Value) (type : ExpressionType)
      → call_type (predeclared_meant name.bytes) count fit first ≡ Some type → (predeclared_way name ≡ Function name) × Stood (result (predeclared_gives name)) type
  predeclared_call name there count fit first type h = by (predeclared_meant name.bytes) h (predeclared_so name there)
    where
      by : (meant : Meant) → call_type meant count fit first ≡ Some type → IsSo name meant → (predeclared_way name ≡ Function name) × Stood (result (predeclared_gives name)) type
      by (Called parameters is) h' so =
          (so.0, gives_so is (predeclared_gives name) so.1 first type (by_result (nat_eq count (length parameters)) fit (result_in is first) type h'))
      by (Constant value) h' so = absurd (cc)
      by (Kept type') h' so = absurd (cc)
      by Main h' so = absurd so
      by Undeclared h' so = absurd so

  call_none : (type' : Option DataType) (count : ℕ) (fit : Bool) (first : Option Value) (type : ExpressionType) → call_type (Kept type') count fit first ≡ Some type → ⊥
  call_none type' count fit first type h = cc

  pub call_stands : (spot : Spot) (name : Named) → IsUsed name → (es : Trees) (type : ExpressionType)
      → type_of env (e.Call spot (e.Use name) (with_arguments no_terms es)) ≡ Some type → CallStands name es type
  call_stands spot name used es type h =
      let args = with_arguments no_terms es in
      let fit = do_all_fit env (parameters_of (env.meant name)) args in
      let first = first_value env args in
      let is = call_is (env.meant name) (count_of args) fit first type h in
      let takes = takes_of program facts given.correct functions name (known program facts given.correct name used.0 used.1 used.2) es is.function is.counted in
      elim (means_one program facts given name used) [
        | inl v ↦ absurd (call_none (Some v.type) (count_of args) fit first type (sym (ap (λ (m : Meant). call_type m (count_of args) fit first) v.meant) ∙ h))
        | inr (inl f) ↦
            let other : (bound name == no_binding) ≡ false = ne_eqb (bound name) no_binding (λ same. let low = f.low in omega (arith, same, f.binds, low)) in
            let defined = subst (λ (c : Bool). NameFits tables functions (is_defined tables (functions_of program.items)) c name es) other takes in
            declared_call name f (place_is name f (subst (λ b. is_defined tables (functions_of program.items) b ≡ true) f.binds defined)) es type fit first h
        | inr (inr p) ↦
            let none : (bound name == no_binding) ≡ true = subst (λ b. (b == no_binding) ≡ true) (sym p.binds) refl in
            let g = predeclared_call name p.there (count_of args) fit first type (sym (ap (λ (m : Meant). call_type m (count_of args) fit first) p.meant) ∙ h) in
            by_way name es type (way_predeclared program facts given name p.binds ∙ g.0)
            (subst (λ (c : Bool). NameTakes tables functions places nests c name es) (sym none)
            (subst (λ (c : Bool). NameFits tables functions (is_defined tables (functions_of program.items)) c name es) none takes))
            (subst (λ (c : Bool). Stood (result (if c then predeclared_gives name else place_gives (places (bound name)))) type) (sym none) g.1)
      ]
