-- Each name in a program is open where it is used.
use Rattle.std.proofs.Common.{◌≡◌, inl, inr, ℕ, suc, ◌+◌, ◌-◌, ◌≤◌, Bool, true, false, List, [], ◌∷◌, ◌++◌, length, Option, Some, None, slice_get, refl, sym, ap, subst, ◌∙◌, length-append, arith}
use Rattle.std.specs.Prelude.{◌==◌, min, IsSome, if◌then◌else◌}
use Rattle.std.proofs.lemmas.Bool.{false≢true, cases_lt, cases_eq, eqb-true}
use Rattle.fk_syntax.specs.declared.facts.Facts.{Facts}
use Rattle.fk_syntax.specs.declared.program.Mode.{Mode}
use Rattle.fk_syntax.specs.declared.nodes.Index.TheVariants.{Node}
use Rattle.fk_syntax.specs.Nodes.{type_indices, declarations_indices, body_indices, item_indices, items_indices}
use Rattle.fk_syntax.specs.Tree.{Named, TypeTree}
use Rattle.fk_syntax.specs.Program.{DeclaredTree, Statements, FunctionTree, ItemTree, ProgramTree, StructItem, VariablesItem, FunctionItem}
use Rattle.fk_types_names.specs.Outline.{MarkTree, Variable, Header, Opens, Closes, Declares, declared_by, declared_in, variables_marks, statements_marks, function_marks, item_marks, items_marks}
use Rattle.fk_types_names.specs.Visible.{is_opening, is_closing}
use Rattle.fk_types_names.specs.Means.{binding}
use Rattle.fk_types_names.proofs.SurveyLemmas.{binding_more}
use Rattle.fk_meaning_forms.specs.declared.tables.Region.{Region}
use Rattle.fk_meaning_forms.specs.Tables as t
use Rattle.fk_meaning_forms.specs.Program.{functions_of, with_body, is_main}
use Rattle.fk_layout_slots.specs.Words.{variables_words, statements_words, own_words}
use Rattle.fk_layout_slots.specs.Frames.{last_word, frame, all_frames_in, body_frames, regions_of}
use Rattle.fk_layout_slots.specs.Places.{none_taken, behind_parameters, parameters_slots}
use Rattle.fk_layout_slots.specs.Slots.{taken_first, all_slots_in, item_slots, items_slots, behind_body, behind_item}
use Rattle.fk_lockstep_frames.specs.Nests as n
use Rattle.fk_lockstep_frames.specs.Nests.{Nest, OfFunction}
use Rattle.fk_lockstep_structure.specs.Placed.{is_group}
use Rattle.fk_parse_laws.specs.Order.{frame_tokens, AreInOrder}
use Rattle.fk_parse_laws.proofs.Ordered.{frames_in_order}
use Rattle.fk_layout.specs.Layout.{told_by}
use Rattle.fk_check_laws.proofs.Each.{Each, front_of, rest_of}
use Rattle.fk_check_laws.proofs.Notes.{tables}
use Rattle.fk_check_laws.proofs.Level.{level_item}
use Rattle.fk_check_laws.proofs.Shut.{opened, closed}
use Rattle.fk_lower_names.proofs.Given.{IsGiven}
use Rattle.fk_lower_names.specs.OpenFrames.{frame_words, own_frame, FunctionIsOpen, FunctionsAreOpen, NamesAreOpen}
use Rattle.fk_lower_names.proofs.Proper.{others_ascend}
use Rattle.fk_lower_names.proofs.Outer.{as_many}
use Rattle.fk_lower_names.proofs.Referring.{IsReferred, all_referred}
use Rattle.fk_lower_names.proofs.Offsets.{At, past, at_front, at_rest, at_whole, past_sum}
use Rattle.fk_lower_names.proofs.Scoped.{marks_counted, variables_kept}
use Rattle.fk_lower_names.proofs.Placing.{IsPlaced, all_placed}
use Rattle.fk_lower_names.proofs.FrameCounts.{most, count, count_both, nodes_few, regions_few, frame_counts, all_variables, all_parameters, statements_counts, variables_grow, all_words_grow}
use Rattle.fk_lower_names.proofs.Open.{T, told, marks, Seen, InFrame, found, outer, file_binds, parameters, statements, kept_level}

module _ (program : ProgramTree) (facts : Facts) (given : IsGiven program facts) (order : AreInOrder (tables program facts given.correct).regions) where
  abbrev all : List MarkTree
  all = marks program facts given order

  abbrev known : t.Tables
  known = T program facts given order

  abbrev Refers : MarkTree → Type 0
  Refers = IsReferred program given.trim

  abbrev Sees : ℕ → ℕ → List Nest → Type 0
  Sees i b nests = Seen program facts given order i b nests

  -- the number of declarations up to marks
  declared_numbers : (ms : List MarkTree) (i : ℕ) → At all i ms → binding all (past ms i) ≡ binding all i + length (declared_in ms)
  declared_numbers [] i at = omega arith
  declared_numbers (mark ∷ ms) i at =
      let same : i + 1 ≡ suc i = omega arith in
      let one = subst (λ k. binding all k ≡ binding all i + length (declared_by mark)) same (binding_more all i mark at.0) in
      omega (arith, one, declared_numbers ms (suc i) at.1, length-append (declared_by mark) (declared_in ms))

  -- at the beginning of a function nothing of another one is visible
  not_variable : (f : FunctionTree) (x : DeclaredTree) → Some (Declares (Header f)) ≡ Some (Declares (Variable x)) → ⊥
  not_variable f x e = cc

  not_opening : (x : DeclaredTree) → Some Opens ≡ Some (Declares (Variable x)) → ⊥
  not_opening x e = cc

  begins : (f : FunctionTree) (nests : List Nest) (i b : ℕ) → binding all i ≡ b → opened all i ≡ closed all i → slice_get all i ≡ Some (Declares (Header f)) → slice_get all (suc i) ≡ Some Opens
      → Sees (suc (suc i)) (suc b) nests
  begins f nests i b number level header opens = record {
    number = (let two : binding all (suc (suc i)) ≡ binding all i + 1 = declared_numbers (Declares (Header f) ∷ Opens ∷ []) i (header, (opens, tt)) in omega (arith, number, two));
    sees = λ k x less is seen. elim (cases_lt k i) [
      | inl low ↦ elim (outer program facts given order k x is) [
        | inl file ↦ file_binds program facts given order nests (binding all k) file
        | inr inside ↦ absurd (
            let flat : opened all k - closed all k ≤ opened all i - closed all i = seen.within i low (omega arith) in
            let z : ⊥ = omega (arith, flat, inside, level) in z)
      ]
      | inr high ↦ elim (cases_eq k i) [
        | inl same ↦ absurd (not_variable f x (sym header ∙ ap (slice_get all) (sym same) ∙ is))
        | inr other ↦ let same : k ≡ suc i = omega (arith, high, other, less) in absurd (not_opening x (sym opens ∙ ap (slice_get all) (sym same) ∙ is))
      ]
    ];
  }

  -- the frame of a function's own is open in it, where it isn't `main`
  own_region : (f : FunctionTree) (words r : ℕ) → is_main f ≡ false → At known.regions r (frame f.name.at 0 0 words)
      → InFrame program facts given order r words 0 (OfFunction (own_frame program known f) ∷ [])
  own_region f words r called there = record { has = λ some. by (words == 0) refl there some }
    where
      own : Region
      own = record { at = f.name.at; part = 0; level = 0; words = min words (last_word + 1) }

      picked : (b : Bool) (o : Option ℕ) → b ≡ false → (if b then None else o) ≡ o
      picked true o e = absurd (false≢true (sym e))
      picked false o e = refl

      by : (b : Bool) → (words == 0) ≡ b → At known.regions r (if b then [] else own ∷ []) → 1 ≤ words
          → (s : Region) × (slice_get known.regions r ≡ Some s) × (s.level ≡ 0) × (s.words ≡ min words (last_word + 1)) × (n.frame_at (OfFunction (own_frame program known f) ∷ []) 0 ≡ Some s.words)
      by true none there' some = absurd (omega (arith, some, eqb-true words 0 none))
      by false more there' some = (
        own,
        there'.0,
        refl,
        refl,
        picked (is_main f) (frame_words (t.frame_at known f.name.at 0)) called ∙ ap frame_words (found known known.regions order r own there'.0),
      )

  function_by : (mode : Mode) (result : TypeTree) (name : Named) (xs : List DeclaredTree) (body : Option Statements) → IsSome body
      → let f : FunctionTree = record { mode = mode; result = result; name = name; parameters = xs; body = body } in
      (file : _) (i b r : ℕ) → let slots = item_slots (told program facts given order) file (FunctionItem f) in
      binding all i ≡ b → opened all i ≡ closed all i → file.frames ≡ r → At all i (function_marks f) → At known.slots b slots
      → At known.regions r (body_frames (told program facts given order) name.at xs body) → r + length (body_frames (told program facts given order) name.at xs body) ≤ most
      → count (body_indices body) ≤ 1048576 → Each Refers (function_marks f) → IsPlaced program facts given.correct f → FunctionIsOpen program known f
  function_by mode result name xs None some file i b r number level frames at slots regions few nodes refers placed = absurd (false≢true some)
  function_by mode result name xs (Some body) some file i b r number level frames at slots regions few nodes refers placed =
      let f : FunctionTree = record { mode = mode; result = result; name = name; parameters = xs; body = Some body } in
      let lay = told program facts given order in
      let nests = OfFunction (own_frame program known f) ∷ [] in
      let words = own_words lay xs body in
      let first = taken_first lay file xs body in
      let next = behind_parameters lay first xs in
      let ms = variables_marks xs in
      let ns = statements_marks body in
      let ss = parameters_slots lay file.frames first xs in
      let ts = all_slots_in lay file.frames next body in
      let bf = frame name.at 0 0 words in
      let fs = all_frames_in lay 0 body in
      let inner = at_front all (suc (suc i)) (ms ++ ns) (Closes ∷ []) at.1.1 in
      let here = at_front all (suc (suc i)) ms ns inner in
      let refers' = front_of Refers (ms ++ ns) (Closes ∷ []) refers.1.1 in
      let o : opened all (suc (suc i)) ≡ opened all i + 1 = marks_counted all is_opening (Declares (Header f) ∷ Opens ∷ []) i (at.0, (at.1.0, tt)) in
      let c : closed all (suc (suc i)) ≡ closed all i + 0 = marks_counted all is_closing (Declares (Header f) ∷ Opens ∷ []) i (at.0, (at.1.0, tt)) in
      let low : closed all (suc (suc i)) ≤ opened all (suc (suc i)) = omega (arith, o, c, level) in
      let seen = begins f nests i b number level at.0 at.1.0 in
      let grown = variables_grow lay 0 (omega arith) xs in
      let whole = all_words_grow lay (variables_words lay 0 xs) grown.1 body in
      let own : is_group placed.who ≡ true → InFrame program facts given order file.frames words 0 nests =
      λ e. own_region f words file.frames (placed.callable e) (subst (λ (k : ℕ). At known.regions k bf) (sym frames) (at_front known.regions r bf fs regions)) in
      let one = parameters program facts given order placed.who file.frames words 0 first nests xs (suc (suc i)) (suc b) placed.parameters
      (λ e. (own e, whole.0, omega arith)) (front_of Refers ms ns refers') here (at_front known.slots (suc b) ss ts slots.1) seen in
      let behind = all_parameters lay first xs in
      let long = length-append bf fs in
      let counts = frame_counts name.at 0 0 words file (omega (arith, few, frames, long)) in
      let sum = past_sum bf r in
      let two = statements program facts given order placed.who file.frames words 0 (past bf r) next nests body (past ms (suc (suc i))) (past ss (suc b)) (placed.body body refl)
      (record {
        group = λ e. (own e, subst (λ w. statements_words lay w body ≤ words) (sym behind.0) (omega arith), subst (λ w. w ≤ most) (sym behind.0) grown.1);
        laid = λ l. record {
          nested = refl;
          deep = omega (arith, nodes);
          same = omega (arith, behind.1, counts, frames, sum);
          regions = at_rest known.regions r bf fs regions;
          few = omega (arith, few, long, sum);
        };
      })
      (rest_of Refers ms ns refers') (kept_level program facts given order ms (variables_kept all xs) (suc (suc i)) here low) (at_rest all (suc (suc i)) ms ns inner) (at_rest known.slots (suc b) ss ts slots.1) one.1 in
      (one.0, two.0)

  -- as many frames are taken behind a function as it has
  function_frames : (at : ℕ) (file : _) (xs : List DeclaredTree) (body : Option Statements) → let after = behind_body (told program facts given order) file xs body in
      file.frames + length (body_frames (told program facts given order) at xs body) ≤ most → after.frames ≡ file.frames + length (body_frames (told program facts given order) at xs body)
  function_frames at file xs None few = omega arith
  function_frames at file xs (Some body) few =
      let lay = told program facts given order in
      let words = own_words lay xs body in
      let first = taken_first lay file xs body in
      let long = length-append (frame at 0 0 words) (all_frames_in lay 0 body) in
      let counts = frame_counts at 0 0 words file (omega (arith, few, long)) in
      let behind = all_parameters lay first xs in
      let rest = (statements_counts lay 0 (behind_parameters lay first xs) body).1 (omega (arith, few, long, counts, behind.1)) in
      omega (arith, rest, behind.1, counts, long)

  all_open : (xs : List ItemTree) (file : _) (i b r : ℕ) → let slots = items_slots (told program facts given order) file xs in
      binding all i ≡ b → opened all i ≡ closed all i → file.frames ≡ r → At all i (items_marks xs) → At known.slots b slots → At known.regions r (regions_of (told program facts given order) xs)
      → r + length (regions_of (told program facts given order) xs) ≤ most → count (items_indices xs) ≤ 1048576 → Each Refers (items_marks xs) → Each (IsPlaced program facts given.correct) (functions_of xs)
      → FunctionsAreOpen program known (functions_of xs)
  all_open [] file i b r number level frames at slots regions few nodes refers placed = tt
  all_open (StructItem name members ∷ xs) file i b r number level frames at slots regions few nodes refers placed =
      all_open xs file i b r number level frames at slots regions few (omega (arith, nodes, count_both (item_indices (StructItem name members)) (items_indices xs))) refers placed
  all_open (VariablesItem variables ∷ xs) file i b r number level frames at slots regions few nodes refers placed =
      let lay = told program facts given order in
      let item = VariablesItem variables in
      let ms = item_marks item in
      let ss = item_slots lay file item in
      let behind = all_variables lay file variables in
      let same = behind.frames in
      let here = at_front all i ms (items_marks xs) at in
      let even = (level_item item).even in
      all_open xs (behind_item lay file item) (past ms i) (past ss b) r
      (omega (arith, number, declared_numbers ms i here, as_many lay file item, past_sum ss b))
      (omega (arith, level, even, marks_counted all is_opening ms i here, marks_counted all is_closing ms i here))
      (omega (arith, same, frames)) (at_rest all i ms (items_marks xs) at) (at_rest known.slots b ss (items_slots lay (behind_item lay file item) xs) slots) regions few
      (omega (arith, nodes, count_both (item_indices item) (items_indices xs))) (rest_of Refers ms (items_marks xs) refers) placed
  all_open (FunctionItem f ∷ xs) file i b r number level frames at slots regions few nodes refers placed =
      let lay = told program facts given order in
      let item = FunctionItem f in
      let ms = item_marks item in
      let ss = item_slots lay file item in
      let rs = body_frames lay f.name.at f.parameters f.body in
      let here = at_front all i ms (items_marks xs) at in
      let even = (level_item item).even in
      let long = length-append rs (regions_of lay xs) in
      let sum = past_sum rs r in
      let counts = function_frames f.name.at file f.parameters f.body (omega (arith, few, frames, long)) in
      let more = count_both (item_indices item) (items_indices xs) in
      let inside = count_both (type_indices f.result) (Node f.name.at ∷ declarations_indices f.parameters ++ body_indices f.body) in
      let bodies = count_both (declarations_indices f.parameters) (body_indices f.body) in
      by f.body refl placed
      (λ some place. function_by f.mode f.result f.name f.parameters f.body some file i b r number level frames here (at_front known.slots b ss (items_slots lay (behind_item lay file item) xs) slots)
      (at_front known.regions r rs (regions_of lay xs) regions) (omega (arith, few, long)) (omega (arith, nodes, more, inside, bodies)) (front_of Refers ms (items_marks xs) refers) place)
      (λ placed'. all_open xs (behind_item lay file item) (past ms i) (past ss b) (past rs r)
      (omega (arith, number, declared_numbers ms i here, as_many lay file item, past_sum ss b))
      (omega (arith, level, even, marks_counted all is_opening ms i here, marks_counted all is_closing ms i here))
      (omega (arith, counts, frames, sum)) (at_rest all i ms (items_marks xs) at) (at_rest known.slots b ss (items_slots lay (behind_item lay file item) xs) slots)
      (at_rest known.regions r rs (regions_of lay xs) regions) (omega (arith, few, long, sum)) (omega (arith, nodes, more)) (rest_of Refers ms (items_marks xs) refers) placed')
    where
      by : (o : Option Statements) → f.body ≡ o → Each (IsPlaced program facts given.correct) (with_body f o (functions_of xs))
          → (IsSome f.body → IsPlaced program facts given.correct f → FunctionIsOpen program known f)
          → (Each (IsPlaced program facts given.correct) (functions_of xs) → FunctionsAreOpen program known (functions_of xs)) → FunctionsAreOpen program known (with_body f o (functions_of xs))
      by None has placed' own others = others placed'
      by (Some body) has placed' own others = (own (subst IsSome (sym has) refl) placed'.0, others placed'.1)

pub names_are_open : NamesAreOpen
names_are_open program facts correct trim proper fits =
    let given : IsGiven program facts = record { correct = correct; trim = trim; proper = proper; fits = fits } in
    let order : AreInOrder (tables program facts correct).regions =
    frames_in_order (told_by facts) program.items (others_ascend (frame_tokens program.items) proper.1).0 in
    let lay = told program facts given order in
    let nodes = nodes_few program correct.well_formed in
    let small = correct.small in
    all_open program facts given order program.items none_taken 0 0 0 refl refl refl (at_whole (marks program facts given order)) (at_whole (T program facts given order).slots)
    (at_whole (T program facts given order).regions) (omega (arith, regions_few lay program.items, nodes, small)) (omega (arith, nodes, small)) (all_referred program trim) (all_placed program facts correct)
