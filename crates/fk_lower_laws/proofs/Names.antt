-- Each name in a function means a word of that function or of file scope.
use Rattle.std.proofs.Common.{◌≡◌, ◌⊎◌, inl, inr, ℕ, suc, ◌+◌, ◌-◌, ◌<◌, ◌≤◌, List, [], ◌∷◌, ◌++◌, length, take, Option, Some, None, slice_get, refl, sym, ap, subst, ◌∙◌, append-nil, append_assoc, length-append, arith}
use Rattle.std.specs.Prelude.{count_by, ◌==◌, ◌*◌, IsSome, if◌then◌else◌}
use Rattle.std.proofs.Math.Seq.{take-append-add}
use Rattle.std.proofs.lemmas.Bool.{false≢true, eqb-true, eq-eqb, cases_lt, false_from_ne_true}
use Rattle.std.proofs.lemmas.Option.{slice_get_within}
use Rattle.fk_syntax.specs.declared.facts.Facts.{Facts}
use Rattle.fk_syntax.specs.declared.program.Mode.{Mode}
use Rattle.fk_syntax.specs.Tree.{Named, TypeTree}
use Rattle.fk_syntax.specs.Program.{DeclaredTree, Statements, FunctionTree, ItemTree, ProgramTree, StructItem, VariablesItem, FunctionItem}
use Rattle.fk_types_names.specs.declared.names.Meaning.{Meaning}
use Rattle.fk_types_names.specs.declared.names.Meaning.TheVariants as m
use Rattle.fk_types_names.specs.Outline.{DeclarationTree, MarkTree, Variable, Header, Opens, Closes, Declares, Uses, declared_in, declarations, outline, variables_marks, body_marks, function_marks, item_marks, items_marks}
use Rattle.fk_types_names.specs.Visible.{is_opening, is_closing, depth, IsInnermost}
use Rattle.fk_types_names.specs.Means.{MeansAt, binding, DefinesHere}
use Rattle.fk_types_name_rules.proofs.ListLemmas.{at_some}
use Rattle.fk_types_rules.specs.Bound.{declares}
use Rattle.fk_types_bindings.proofs.Below.{declared_below}
use Rattle.fk_types_bindings.proofs.BodyLemmas.{declared_here}
use Rattle.fk_types_rules.proofs.References.{declared_in-append}
use Rattle.fk_meaning_forms.specs.declared.tables.Home.{Home}
use Rattle.fk_meaning_forms.specs.declared.tables.Home.TheVariants as h
use Rattle.fk_meaning_forms.specs.declared.tables.Slot.{Slot}
use Rattle.fk_meaning_forms.specs.Tables.{Tables, nth, no_slot, no_binding, note, slot}
use Rattle.fk_meaning_forms.specs.Program.{functions_of, with_body, is_main}
use Rattle.fk_layout_slots.specs.Told.{Told}
use Rattle.fk_layout_slots.specs.Places.{none_taken}
use Rattle.fk_layout_slots.specs.Slots.{item_slots, items_slots, behind_item}
use Rattle.std.proofs.Math.Nat.{le-max_left}
use Rattle.fk_layout_sizes.specs.Places.{filling}
use Rattle.fk_layout.specs.Frames.{file_privates, values_of, nesting_of, private_words}
use Rattle.fk_layout.specs.Layout.{told_by}
use Rattle.fk_layout.specs.Refusal.{Fits}
use Rattle.fk_parse_laws.specs.Trim.{ItemsAreTrim}
use Rattle.fk_check_laws.specs.Correct.{IsCorrect}
use Rattle.fk_check_laws.proofs.Each.{Each, front_of, rest_of}
use Rattle.fk_check_laws.proofs.Notes.{tables, among, binding_is}
use Rattle.fk_check_laws.proofs.Named.{IsKnown, meant_at, declared_low}
use Rattle.fk_check_laws.proofs.Declared.{header_at}
use Rattle.fk_check_laws.proofs.Homes.{back_get}
use Rattle.fk_check_laws.proofs.Level.{IsLevel, level_both, level_item}
use Rattle.fk_check_laws.proofs.Shut.{opened, closed}
use Rattle.fk_lower_laws.proofs.Firsts.{small}
use Rattle.fk_lower_laws.specs.Room.{own_words}
use Rattle.fk_lower_laws.specs.Named.{HasWord, IsBound, HasItsWord, IsNamed, AreNamed, FunctionNames, FunctionsName}
use Rattle.fk_lower_laws.proofs.Slots.{IsBelow, Below, own_slots}
use Rattle.fk_lower_names.proofs.Outer.{front_get, in_middle, as_many, IsOfFile, OfFile, outer_items}
use Rattle.fk_lower_names.proofs.Referring.{IsReferred, all_referred}

module _ (program : ProgramTree) (facts : Facts) (valid : IsCorrect program facts) (trim : ItemsAreTrim program.items)
    (fits : Fits (tables program facts valid) program.items) where
  abbrev T : Tables
  T = tables program facts valid

  abbrev told : Told
  told = told_by facts

  abbrev firsts : ℕ
  firsts = file_privates program.items

  abbrev marks : List MarkTree
  marks = outline program

  abbrev Word : (words number : ℕ) → Type 0
  Word words number = HasWord T firsts words (slot T number).home (slot T number).index

  of_file : (words : ℕ) (home : Home) (i : ℕ) → IsOfFile firsts home i → HasWord T firsts words home i
  of_file words h.Global i is = tt
  of_file words h.FilePrivate i is = is
  of_file words h.NoWord i is = tt
  of_file words h.Private i is = absurd is
  of_file words (h.Group r) i is = absurd is

  of_own : (words : ℕ) (home : Home) (i : ℕ) → IsBelow words home i → HasWord T firsts words home i
  of_own words h.Global i is = tt
  of_own words h.FilePrivate i is = absurd is
  of_own words h.NoWord i is = tt
  of_own words h.Private i is = is
  of_own words (h.Group r) i is = tt

  -- a header has no word
  header_word : (words number : ℕ) (g : FunctionTree) → slice_get (declarations program) number ≡ Some (Header g) → Word words number
  header_word words number g is =
      subst (λ (home : Home). HasWord T firsts words home (slot T number).index) (sym (header_at program facts valid number g is).0) tt

  outer : (at : ℕ) (x : DeclaredTree) → slice_get marks at ≡ Some (Declares (Variable x)) → OfFile firsts (slot T (binding marks at)) ⊎ (closed marks at < opened marks at)
  outer at x is = outer_items firsts told program.items none_taken (omega arith) at x is

  -- ---- the marks of a function, among those of the text

  module _ (words : ℕ) (pre fm post : List MarkTree) (spre ss spost : List Slot) (first : length spre ≡ length (declared_in pre)) (own : length ss ≡ length (declared_in fm))
      (level : IsLevel pre) (all_below : Each (Below words) ss) (marks_are : marks ≡ pre ++ (fm ++ post)) (slots_are : T.slots ≡ spre ++ (ss ++ spost)) where
    there : (k : ℕ) (x : MarkTree) → slice_get fm k ≡ Some x → slice_get marks (length pre + k) ≡ Some x
    there k x is =
        ap (λ (ms : List MarkTree). slice_get ms (length pre + k)) marks_are ∙ back_get pre (fm ++ post) k ∙ front_get fm post k (slice_get_within fm k x is) ∙ is

    back_there : (k : ℕ) → k < length fm → slice_get fm k ≡ slice_get marks (length pre + k)
    back_there k less = sym (ap (λ (ms : List MarkTree). slice_get ms (length pre + k)) marks_are ∙ back_get pre (fm ++ post) k ∙ front_get fm post k less)

    own_word : (k : ℕ) (d : DeclarationTree) → slice_get fm k ≡ Some (Declares d) → Word words (binding marks (length pre + k))
    own_word k d is =
        let s : Slot = slot T (binding marks (length pre + k)) in
        of_own words s.home s.index
        (subst (λ (slots : List Slot). Below words (nth no_slot slots (binding marks (length pre + k)))) (sym slots_are)
        (subst (λ (ms : List MarkTree). Below words (nth no_slot (spre ++ (ss ++ spost)) (binding ms (length pre + k)))) (sym marks_are)
        (in_middle (Below words) tt pre fm post spre ss spost first own all_below k d is)))

    begins_level : depth marks (length pre) ≡ 0
    begins_level =
        let start : length pre ≡ length pre + 0 = omega arith in
        let taken : take (length pre) marks ≡ pre = ap (λ (ms : List MarkTree). take (length pre) ms) marks_are ∙ ap (λ i. take i (pre ++ (fm ++ post))) start ∙ take-append-add pre (fm ++ post) 0 ∙ append-nil pre in
        let o = ap (λ (ms : List MarkTree). count_by is_opening ms) taken in
        let c = ap (λ (ms : List MarkTree). count_by is_closing ms) taken in
        let even = level.even in
        omega (arith, o, c, even)

    -- a variable that is seen within the function
    variable_word : (bytes : List ℕ) (j at : ℕ) (x : DeclaredTree) → j < length fm → IsInnermost marks bytes (length pre + j) at
        → slice_get marks at ≡ Some (Declares (Variable x)) → Word words (binding marks at)
    variable_word bytes j at x within inner is = elim (cases_lt at (length pre)) [
      | inl before ↦ elim (outer at x is) [
        | inl file ↦ of_file words (slot T (binding marks at)).home (slot T (binding marks at)).index file
        | inr inside ↦ absurd (let seen = inner.visible.within (length pre) before (omega arith) in let z : ⊥ = omega (arith, seen, begins_level, inside) in z)
      ]
      | inr more ↦
          let k = at - length pre in
          let sum : at ≡ length pre + k = omega (arith, more) in
          elim (cases_lt k (length fm)) [
            | inl less ↦ subst (λ i. Word words (binding marks i)) (sym sum) (own_word k (Variable x) (back_there k less ∙ ap (slice_get marks) (sym sum) ∙ is))
            | inr behind ↦ elim (outer at x is) [
              | inl file ↦ of_file words (slot T (binding marks at)).home (slot T (binding marks at)).index file
              | inr inside ↦ absurd (let seen = inner.visible.before (omega (arith, inside)) in let z : ⊥ = omega (arith, seen, behind, sum, within) in z)
            ]
          ]
    ]

    defined_word : (meant : ℕ) (bytes : List ℕ) (x : MarkTree) → slice_get marks meant ≡ Some x → DefinesHere bytes x → Word words (binding marks meant)
    defined_word meant bytes Opens is here = absurd here
    defined_word meant bytes Closes is here = absurd here
    defined_word meant bytes (Uses name) is here = absurd here
    defined_word meant bytes (Declares (Variable v)) is here = absurd here
    defined_word meant bytes (Declares (Header g)) is here = header_word words (binding marks meant) g (declared_here marks meant (Header g) is)

    meant_word : (bytes : List ℕ) (j number : ℕ) → j < length fm → MeansAt marks bytes (length pre + j) (m.Declared number) → Word words number
    meant_word bytes j number within (at, Variable x, meant, inner, is, stands, same) =
        subst (Word words) (sym (same ∙ ap (binding marks) stands)) (variable_word bytes j at x within inner is)
    meant_word bytes j number within (at, Header g, meant, inner, is, inl defined, same) =
        let x = at_some (DefinesHere bytes) marks meant defined.body in
        subst (Word words) (sym same) (defined_word meant bytes x.0 x.1 x.2)
    meant_word bytes j number within (at, Header g, meant, inner, is, inr alone, same) =
        subst (Word words) (sym (same ∙ ap (binding marks) alone.0)) (header_word words (binding marks at) g (declared_here marks at (Header g) is))

    use_word : (name : Named) (j : ℕ) → j < length fm → IsBound T firsts words name → (meaning : Meaning) → MeansAt marks name.bytes (length pre + j) meaning → IsKnown program facts valid name meaning → HasItsWord T firsts words name
    use_word name j within bound (m.Declared number) means known = subst (Word words) (sym known.binds) (meant_word name.bytes j number within means)
    use_word name j within bound m.Predeclared means known = absurd (false≢true (sym bound ∙ eq-eqb (note T name.at).binding no_binding known.binds))
    use_word name j within bound m.Undeclared means known = absurd known.binds

    named : (k : ℕ) (x : MarkTree) → slice_get fm k ≡ Some x → IsReferred program trim x → IsNamed T firsts words x
    named k Opens is refers = tt
    named k Closes is refers = tt
    named k (Declares (Header g)) is refers = tt
    named k (Uses name) is refers = λ bound.
        let found = meant_at program facts valid name (length pre + k) (there k (Uses name) is) refers in
        use_word name k (slice_get_within fm k (Uses name) is) bound found.0 found.1 found.2
    named k (Declares (Variable x)) is refers =
        let at = length pre + k in
        let here = there k (Declares (Variable x)) is in
        let number = declared_here marks at (Variable x) here in
        let low = declared_below program valid.well_formed (Variable x) (among (declarations program) (binding marks at) (Variable x) number) in
        let same = binding_is program facts valid x.name.at (binding marks at) low (declares (Variable x) at at here refl refl) in
        let few = declared_low program facts valid (binding marks at) (Variable x) number in (
          false_from_ne_true ((note T x.name.at).binding == no_binding) (λ e. (let z = eqb-true (note T x.name.at).binding no_binding e in omega (arith, z, same, few))),
          subst (Word words) (sym same) (own_word k (Variable x) is),
        )

    all_named : (ms : List MarkTree) (j : ℕ) → ((k : ℕ) (x : MarkTree) → slice_get ms k ≡ Some x → slice_get fm (j + k) ≡ Some x) → Each (IsReferred program trim) ms → AreNamed T firsts words ms
    all_named [] j at refers = tt
    all_named (x ∷ ms) j at refers = (
      named (j + 0) x (at 0 x refl) refers.0,
      all_named ms (j + 1) (λ k y is. let sum : j + 1 + k ≡ j + suc k = omega arith in ap (slice_get fm) sum ∙ at (suc k) y is) refers.1,
    )

  -- ---- functions

  further : (pre : List MarkTree) (spre : List Slot) (file : _) (x : ItemTree) → length spre ≡ length (declared_in pre)
      → length (spre ++ item_slots told file x) ≡ length (declared_in (pre ++ item_marks x))
  further pre spre file x first =
      let all = ap (λ (ds : List DeclarationTree). length ds) (declared_in-append pre (item_marks x)) in
      omega (arith, first, as_many told file x, all, length-append spre (item_slots told file x), length-append (declared_in pre) (declared_in (item_marks x)))

  few_words : (own file values nested : ℕ) → 8 + (own + file) + values + 4 * nested ≤ 64 → own ≤ 56
  few_words own file values nested less = omega (arith, less)

  abbrev IsSmall : FunctionTree → Type 0
  IsSmall f = private_words T program.items f ≤ 64

  function_by : (mode : Mode) (result : TypeTree) (name : Named) (parameters : List DeclaredTree) (body : Option Statements) → IsSome body
      → let f : FunctionTree = record { mode = mode; result = result; name = name; parameters = parameters; body = body } in
      (file : _) (pre post : List MarkTree) (spre spost : List Slot) → length spre ≡ length (declared_in pre) → IsLevel pre
      → marks ≡ pre ++ (function_marks f ++ post) → T.slots ≡ spre ++ (item_slots told file (FunctionItem f) ++ spost)
      → IsSmall f → Each (IsReferred program trim) (function_marks f) → FunctionNames T firsts (own_words T program.items f) (values_of T program.items f) f
  function_by mode result name parameters None some file pre post spre spost first level marks_are slots_are few refers = absurd (false≢true some)
  function_by mode result name parameters (Some body) some file pre post spre spost first level marks_are slots_are few refers =
      let f : FunctionTree = record { mode = mode; result = result; name = name; parameters = parameters; body = Some body } in
      let item = FunctionItem f in
      let words : ℕ = own_words T program.items f in
      let low : words ≤ 56 = few_words words (if is_main f then file_privates program.items else 0) (values_of T program.items f) (nesting_of T program.items f) few in
      let own = own_slots told file parameters body (omega (arith, low)) in
      let inner = variables_marks parameters ++ body_marks (Some body) in
      record {
        room = record {
          few = (let count = own.1 in omega (arith, count, low));
          own = own.1;
          values = le-max_left (filling parameters) _;
        };
        names = all_named words pre (function_marks f) post spre (item_slots told file item) spost first (as_many told file item) level (tt, own.0) marks_are slots_are
            inner 2 (λ k x is. let sum : 2 + k ≡ suc (suc k) = omega arith in ap (slice_get (function_marks f)) sum ∙ front_get inner (Closes ∷ []) k (slice_get_within inner k x is) ∙ is)
            (front_of (IsReferred program trim) inner (Closes ∷ []) refers.1.1);
      }

  all_functions : (xs : List ItemTree) (file : _) (pre : List MarkTree) (spre : List Slot) → length spre ≡ length (declared_in pre) → IsLevel pre
      → marks ≡ pre ++ items_marks xs → T.slots ≡ spre ++ items_slots told file xs → Each (IsReferred program trim) (items_marks xs)
      → Each IsSmall (functions_of xs) → FunctionsName T (own_words T program.items) (values_of T program.items) firsts (functions_of xs)
  all_functions [] file pre spre first level ms ss refers few = tt
  all_functions (StructItem name members ∷ xs) file pre spre first level ms ss refers few = all_functions xs file pre spre first level ms ss refers few
  all_functions (VariablesItem variables ∷ xs) file pre spre first level ms ss refers few =
      let x = VariablesItem variables in
      all_functions xs (behind_item told file x) (pre ++ item_marks x) (spre ++ item_slots told file x)
      (further pre spre file x first) (level_both pre (item_marks x) level (level_item x)) (ms ∙ sym (append_assoc pre (item_marks x) (items_marks xs)))
      (ss ∙ sym (append_assoc spre (item_slots told file x) (items_slots told (behind_item told file x) xs))) (rest_of (IsReferred program trim) (item_marks x) (items_marks xs) refers) few
  all_functions (FunctionItem f ∷ xs) file pre spre first level ms ss refers few =
      let x = FunctionItem f in
      by f.body refl few
      (λ few'. all_functions xs (behind_item told file x) (pre ++ item_marks x) (spre ++ item_slots told file x)
      (further pre spre file x first) (level_both pre (item_marks x) level (level_item x)) (ms ∙ sym (append_assoc pre (item_marks x) (items_marks xs)))
      (ss ∙ sym (append_assoc spre (item_slots told file x) (items_slots told (behind_item told file x) xs))) (rest_of (IsReferred program trim) (item_marks x) (items_marks xs) refers) few')
    where
      by : (o : Option Statements) → f.body ≡ o → Each IsSmall (with_body f o (functions_of xs))
          → (Each IsSmall (functions_of xs) → FunctionsName T (own_words T program.items) (values_of T program.items) firsts (functions_of xs))
          → FunctionsName T (own_words T program.items) (values_of T program.items) firsts (with_body f o (functions_of xs))
      by None has few' others = others few'
      by (Some body) has few' others = (
        function_by f.mode f.result f.name f.parameters f.body (subst IsSome (sym has) refl) file pre (items_marks xs) spre (items_slots told (behind_item told file (FunctionItem f)) xs) first level ms ss few'.0
            (front_of (IsReferred program trim) (function_marks f) (items_marks xs) refers),
        others few'.1,
      )

  pub functions_name : FunctionsName T (own_words T program.items) (values_of T program.items) firsts (functions_of program.items)
  functions_name =
      all_functions program.items none_taken [] [] refl (record { even = refl }) refl refl (all_referred program trim)
      (small T program.items (functions_of program.items) fits.frames)
