-- The functions of a valid program are in place.
use Rattle.std.proofs.Common.{◌≡◌, ◌≢◌, ◌⊎◌, inl, inr, ℕ, suc, Bool, true, false, not, List, [], ◌∷◌, ◌++◌, Option, Some, None, slice_get, refl, sym, ap, subst, ◌∙◌}
use Rattle.std.specs.Prelude.{◌==◌, is_some, if◌then◌else◌}
use Rattle.std.proofs.lemmas.Bool.{false≢true, false_from_ne_true, and_parts, not-true, eqb-true}
use Rattle.fk_syntax.specs.declared.facts.Facts.{Facts}
use Rattle.fk_syntax.specs.declared.program.Mode.{Mode}
use Rattle.fk_syntax.specs.declared.program.Mode.TheVariants.{Sync, Async, Straight}
use Rattle.fk_syntax.specs.Program.{DeclaredTree, Statements, FunctionTree, ItemTree, ProgramTree, StructItem, VariablesItem, FunctionItem}
use Rattle.fk_check_rules.specs.declared.rule.Rule.TheVariants as rules
use Rattle.fk_sharing_class.specs.declared.thing.Thing.{Thing}
use Rattle.fk_types_names.specs.Outline as n
use Rattle.fk_types_names.specs.Outline.{declarations, outline, variables_marks, body_marks, statements_marks, item_marks, items_marks}
use Rattle.fk_types_obligations.specs.Pieces.{PieceTree, pieces, parameters_pieces, body_pieces, statements_pieces, item_pieces, items_pieces}
use Rattle.fk_types_rules.specs.Pieces.{PieceBreaks}
use Rattle.fk_types_rules.specs.Bound.{piece_references, pieces_references}
use Rattle.fk_regions.specs.declared.around.Holder as gh
use Rattle.fk_regions.specs.declared.around.Holder.TheVariants as g
use Rattle.fk_regions.specs.declared.around.Region.TheVariants.{Synchronous, Asynchronous}
use Rattle.fk_regions.specs.Around.{region_by, is_straight_mode}
use Rattle.fk_regions.specs.Tokens as r
use Rattle.fk_sharing.specs.declared.around.Holder as hh
use Rattle.fk_sharing.specs.declared.around.Holder.TheVariants as h
use Rattle.fk_sharing.specs.Tokens as s
use Rattle.fk_sharing.specs.declared.token.Word.TheVariants as sw
use Rattle.fk_sharing.specs.Broken as sb
use Rattle.fk_meaning_forms.specs.Expressions.{Signature}
use Rattle.fk_meaning_forms.specs.Program.{functions_of, with_body, binding_of, signature_in, is_main, main_in, main_of}
use Rattle.fk_meaning.specs.Shape.{Exits, of_function}
use Rattle.fk_meaning.specs.Shaped.{StatementsShaped, BodyShaped, FunctionsShaped}
use Rattle.fk_lockstep.specs.Noted.{BodyNoted, FunctionsNoted}
use Rattle.fk_lockstep_structure.specs.Placed.{Who, OfGroup, OfBody, OfMain}
use Rattle.fk_meaning_forms.specs.Statements.{is_nothing}
use Rattle.fk_lockstep_structure.specs.InPlace.{BodyInPlace, NoneShared, FunctionsInPlace}
use Rattle.fk_lockstep_structure.specs.Returns.{BodyReturns, FunctionsReturn}
use Rattle.fk_layout.specs.Layout.{tables_by}
use Rattle.fk_lockstep_structure.proofs.Programs.{programs_have_one_program}
use Rattle.fk_check_laws.specs.Correct.{IsCorrect}
use Rattle.fk_check_laws.specs.Valid.{IsValid, may_run, callable, may_call, CorrectProgramsStandInPlace, ValidProgramsAreInPlace, ValidProgramsHaveOneProgram}
use Rattle.fk_check_laws.proofs.Each.{Each, each, front_of, rest_of}
use Rattle.fk_check_laws.proofs.Typed.{Unbroken}
use Rattle.fk_check_laws.proofs.Notes.{among}
use Rattle.fk_check_laws.proofs.Main.{there_is_main}
use Rattle.fk_check_laws.proofs.Things.{thing, thing_tells}
use Rattle.fk_check_laws.proofs.PlacedNotes.{async_by, tables, all_right, all_ours}
use Rattle.fk_check_laws.proofs.Named.{env, unbroken_pieces}
use Rattle.fk_check_laws.proofs.Declared.{function_number}
use Rattle.fk_check_laws.proofs.Returning.{statements_return}
use Rattle.fk_check_laws.proofs.PlacedStatements.{Right, Mine, Stands, Refers, Fine, Where, scope_of, AreGoodStatements, statements_good}

module _ (program : ProgramTree) (facts : Facts) (valid : IsCorrect program facts) where
  abbrev fs : List FunctionTree
  fs = functions_of program.items

  abbrev functions : (binding : ℕ) → Signature
  functions = signature_in (tables program facts valid) fs

  abbrev At : Who → Bool → Exits → List gh.Holder → ((ℕ → Option Thing) → List hh.Holder) → Type 0
  At who main x outer held = Where program facts valid functions who main x outer held

  abbrev Good : Who → Bool → Statements → Type 0
  Good who main body = AreGoodStatements program facts valid functions who main of_function body

  -- ---- where the bodies of functions stand

  of_group : (mode : Mode) → may_run true mode ≡ true → At OfGroup false of_function (g.Function mode ∷ []) (λ thing. h.Body (region_by mode) ∷ [])
  of_group mode may = record {
    runs = record { group = λ e. by mode may; alone = λ e sync. false≢true (sym e) };
    region = λ thing. refl;
    outermost = λ e. absurd (false≢true e);
    function = λ e. refl;
    breaks = λ l e. absurd (cc);
    continues = λ l e. absurd (cc);
    returns = λ l e. absurd (false≢true (sym e));
  }
    where
      by : (mode : Mode) → may_run true mode ≡ true → (region_by mode ≡ Synchronous) ⊎ (is_straight_mode mode ≡ true)
      by Sync may = inl refl
      by Async may = absurd (false≢true may)
      by Straight may = inr refl

  of_body : (mode : Mode) → may_run false mode ≡ true → At OfBody false of_function (g.Function mode ∷ []) (λ thing. h.Body (region_by mode) ∷ [])
  of_body mode may = record {
    runs = record { group = λ e. absurd (false≢true e); alone = λ e sync. by mode may sync };
    region = λ thing. refl;
    outermost = λ e. absurd (false≢true e);
    function = λ e. refl;
    breaks = λ l e. absurd (cc);
    continues = λ l e. absurd (cc);
    returns = λ l e. absurd (false≢true (sym e));
  }
    where
      by : (mode : Mode) → may_run false mode ≡ true → region_by mode ≡ Synchronous → ⊥
      by Sync may sync = false≢true may
      by Async may sync = cc
      by Straight may sync = cc

  of_main : At (OfMain true) true of_function (g.Main Async ∷ []) (λ thing. h.Body Asynchronous ∷ [])
  of_main = record {
    runs = record { group = λ e. absurd (false≢true e); alone = λ e sync. apart sync };
    region = λ thing. refl;
    outermost = λ e. refl;
    function = λ e. refl;
    breaks = λ l e. absurd (cc);
    continues = λ l e. absurd (cc);
    returns = λ l e. absurd (false≢true (sym e));
  }
    where
      apart : Asynchronous ≡ Synchronous → ⊥
      apart e = cc

  -- ---- each function with a body

  pub record IsFine (f : FunctionTree) : Type 0 where
    pub index : ℕ
    pub there : slice_get program.items index ≡ Some (FunctionItem f)
    pub body : Statements
    pub has : f.body ≡ Some body
    pub tokens : Each (Right program facts valid functions) (r.statements_tokens ◌∷◌ (r.holder_of f ∷ []) body)
    pub ours : (thing : ℕ → Option Thing) → Each (Mine program facts valid functions thing) (s.statements_tokens thing ◌∷◌ (h.Body (region_by f.mode) ∷ []) body)
    pub marks : Each (Stands program facts valid functions) (statements_marks body)
    pub parts : Each (Fine program facts valid functions) (statements_pieces f.result body)
    pub parameters : (thing : ℕ → Option Thing) → Each (Mine program facts valid functions thing) (s.parameters_tokens [] f.mode f.parameters)

  fine_of : (f : FunctionTree) (index : ℕ) → slice_get program.items index ≡ Some (FunctionItem f) → (o : Option Statements) → f.body ≡ o
      → Each (Right program facts valid functions) (r.body_tokens ◌∷◌ (r.holder_of f ∷ []) o)
      → ((thing : ℕ → Option Thing) → Each (Mine program facts valid functions thing) (s.body_tokens thing ◌∷◌ (h.Body (region_by f.mode) ∷ []) o))
      → Each (Stands program facts valid functions) (body_marks o) → Each (Fine program facts valid functions) (body_pieces f.result o)
      → ((thing : ℕ → Option Thing) → Each (Mine program facts valid functions thing) (s.parameters_tokens [] f.mode f.parameters))
      → (others : List FunctionTree) → Each IsFine others → Each IsFine (with_body f o others)
  fine_of f index there None has a o b k p others rest = rest
  fine_of f index there (Some body) has a o b k p others rest =
      (record { index = index; there = there; body = body; has = has; tokens = a; ours = o; marks = b; parts = k; parameters = p }, rest)

  all_fine : (xs : List ItemTree) → ((j : ℕ) (x : ItemTree) → slice_get xs j ≡ Some x → (i : ℕ) × (slice_get program.items i ≡ Some x))
      → Each (Right program facts valid functions) (r.items_tokens ◌∷◌ [] xs) → ((thing : ℕ → Option Thing) → Each (Mine program facts valid functions thing) (s.items_tokens thing ◌∷◌ [] xs))
      → Each (Stands program facts valid functions) (items_marks xs) → Each (Fine program facts valid functions) (items_pieces xs) → Each IsFine (functions_of xs)
  all_fine [] at a o b k = tt
  all_fine (StructItem name members ∷ xs) at a o b k = all_fine xs (λ j x is. at (suc j) x is) a o b k
  all_fine (VariablesItem variables ∷ xs) at a o b k =
      let x = VariablesItem variables in
      all_fine xs (λ j y is. at (suc j) y is) (rest_of (Right program facts valid functions) (r.item_tokens ◌∷◌ [] x) (r.items_tokens ◌∷◌ [] xs) a)
      (λ thing. rest_of (Mine program facts valid functions thing) (s.item_tokens thing ◌∷◌ [] x) (s.items_tokens thing ◌∷◌ [] xs) (o thing))
      (rest_of (Stands program facts valid functions) (item_marks x) (items_marks xs) b) (rest_of (Fine program facts valid functions) (item_pieces x) (items_pieces xs) k)
  all_fine (FunctionItem f ∷ xs) at a o b k =
      let x = FunctionItem f in
      let here = at 0 x refl in
      let marks' = scope_of program facts valid functions (variables_marks f.parameters ++ body_marks f.body)
      (front_of (Stands program facts valid functions) (item_marks x) (items_marks xs) b).1 in
      let pieces' = (front_of (Fine program facts valid functions) (item_pieces x) (items_pieces xs) k).1 in
      fine_of f here.0 here.1 f.body refl (front_of (Right program facts valid functions) (r.item_tokens ◌∷◌ [] x) (r.items_tokens ◌∷◌ [] xs) a)
      (λ thing. rest_of (Mine program facts valid functions thing) (s.parameters_tokens [] f.mode f.parameters) (s.body_tokens thing ◌∷◌ (h.Body (region_by f.mode) ∷ []) f.body)
      (front_of (Mine program facts valid functions thing) (s.item_tokens thing ◌∷◌ [] x) (s.items_tokens thing ◌∷◌ [] xs) (o thing)))
      (rest_of (Stands program facts valid functions) (variables_marks f.parameters) (body_marks f.body) marks')
      (rest_of (Fine program facts valid functions) (parameters_pieces f.parameters) (body_pieces f.result f.body) pieces')
      (λ thing. front_of (Mine program facts valid functions thing) (s.parameters_tokens [] f.mode f.parameters) (s.body_tokens thing ◌∷◌ (h.Body (region_by f.mode) ∷ []) f.body)
      (front_of (Mine program facts valid functions thing) (s.item_tokens thing ◌∷◌ [] x) (s.items_tokens thing ◌∷◌ [] xs) (o thing)))
      (functions_of xs)
      (all_fine xs (λ j y is. at (suc j) y is) (rest_of (Right program facts valid functions) (r.item_tokens ◌∷◌ [] x) (r.items_tokens ◌∷◌ [] xs) a)
      (λ thing. rest_of (Mine program facts valid functions thing) (s.item_tokens thing ◌∷◌ [] x) (s.items_tokens thing ◌∷◌ [] xs) (o thing))
      (rest_of (Stands program facts valid functions) (item_marks x) (items_marks xs) b) (rest_of (Fine program facts valid functions) (item_pieces x) (items_pieces xs) k))

  fine_pieces : (ps : List PieceTree) → Each (λ x. Unbroken (PieceBreaks (env program facts valid) x)) ps → Each (Refers program facts valid functions) (pieces_references ps) → Each (Fine program facts valid functions) ps
  fine_pieces [] u c = tt
  fine_pieces (x ∷ ps) u c = (
    (u.0, front_of (Refers program facts valid functions) (piece_references x) (pieces_references ps) c),
    fine_pieces ps u.1 (rest_of (Refers program facts valid functions) (piece_references x) (pieces_references ps) c),
  )

  pub fine : Each IsFine fs
  fine = all_fine program.items (λ j x is. (j, is)) (all_right program facts valid) (λ thing. all_ours program facts valid thing)
      (each (Stands program facts valid functions) (outline program) (λ i x is. (i, is)))
      (fine_pieces (pieces program) (unbroken_pieces program facts valid)
      (each (Refers program facts valid functions) (pieces_references (pieces program)) (λ i x is. among (pieces_references (pieces program)) i x is)))

  -- ---- what each is

  held_by : (f : FunctionTree) (main : Bool) → is_main f ≡ main → r.holder_of f ≡ (if main then g.Main f.mode else g.Function f.mode)
  held_by f main is = ap (λ b. if b then g.Main f.mode else g.Function f.mode) is

  good_in : (who : Who) (f : FunctionTree) (k : IsFine f) → is_main f ≡ false → At who false of_function (g.Function f.mode ∷ []) (λ thing. h.Body (region_by f.mode) ∷ []) → Good who false k.body
  good_in who f k is at = statements_good program facts valid functions f.result who false of_function (g.Function f.mode ∷ []) (λ thing. h.Body (region_by f.mode) ∷ []) at k.body
      (subst (λ (holder : gh.Holder). Each (Right program facts valid functions) (r.statements_tokens ◌∷◌ (holder ∷ []) k.body)) (held_by f false is) k.tokens) k.ours k.marks k.parts

  -- `main` is asynchronous
  main_async : (f : FunctionTree) (index : ℕ) → slice_get program.items index ≡ Some (FunctionItem f) → is_main f ≡ true → f.mode ≡ Async
  main_async f index there main = by f.mode refl
    where
      by : (mode : Mode) → f.mode ≡ mode → mode ≡ Async
      by Sync is = absurd (async_by program facts valid f index there main Sync is (λ e. cc))
      by Async is = refl
      by Straight is = absurd (async_by program facts valid f index there main Straight is (λ e. cc))

  good_main : (f : FunctionTree) (k : IsFine f) → is_main f ≡ true → Good (OfMain true) true k.body
  good_main f k main =
      let async = main_async f k.index k.there main in
      statements_good program facts valid functions f.result (OfMain true) true of_function (g.Main Async ∷ []) (λ thing. h.Body Asynchronous ∷ []) of_main k.body
      (subst (λ (holder : gh.Holder). Each (Right program facts valid functions) (r.statements_tokens ◌∷◌ (holder ∷ []) k.body)) (held_by f true main ∙ ap g.Main async) k.tokens)
      (λ thing. subst (λ (mode : Mode). Each (Mine program facts valid functions thing) (s.statements_tokens thing ◌∷◌ (h.Body (region_by mode) ∷ []) k.body)) async (k.ours thing)) k.marks k.parts

  shaped_one : (f : FunctionTree) (k : IsFine f) → StatementsShaped (tables program facts valid) functions of_function k.body
  shaped_one f k = by (is_main f) refl f.mode refl
    where
      by : (main : Bool) → is_main f ≡ main → (mode : Mode) → f.mode ≡ mode → StatementsShaped (tables program facts valid) functions of_function k.body
      by true is mode e = (good_main f k is).shaped
      by false is Sync e = (good_in OfGroup f k is (of_group f.mode (ap (may_run true) e))).shaped
      by false is Async e = (good_in OfBody f k is (of_body f.mode (ap (may_run false) e))).shaped
      by false is Straight e = (good_in OfGroup f k is (of_group f.mode (ap (may_run true) e))).shaped

  shaped : (gs : List FunctionTree) → Each IsFine gs → FunctionsShaped (tables program facts valid) functions gs
  shaped [] h = tt
  shaped (f ∷ gs) h = (subst (BodyShaped (tables program facts valid) functions) (sym h.0.has) (shaped_one f h.0), shaped gs h.1)

  number_of : (f : FunctionTree) (k : IsFine f) → slice_get (declarations program) (binding_of (tables program facts valid) f) ≡ Some (n.Header f)
  number_of f k = function_number program facts valid k.index f k.there (ap is_some k.has)

  pub called : (in_group : Bool) (f : FunctionTree) (k : IsFine f) → may_call program in_group (binding_of (tables program facts valid) f) ≡ true → (is_main f ≡ false) × (may_run in_group f.mode ≡ true)
  called in_group f k may =
      let both = and_parts (not (is_main f)) (may_run in_group f.mode) (sym (ap (callable in_group) (number_of f k)) ∙ may) in
      (not-true (is_main f) both.0, both.1)

  noted : (gs : List FunctionTree) → Each IsFine gs → FunctionsNoted (tables program facts valid) (may_call program true) gs
  noted [] h = tt
  noted (f ∷ gs) h = (
    (λ may. let is = called true f h.0 may in
        subst (BodyNoted (tables program facts valid) (may_call program true)) (sym h.0.has) ((good_in OfGroup f h.0 is.0 (of_group f.mode is.1)).noted refl)),
    noted gs h.1,
  )

  -- ---- there is one `main`, with a body

  main_is : (gs : List FunctionTree) → Each IsFine gs → ((f : FunctionTree) × IsFine f × (is_main f ≡ true) × (main_in (tables program facts valid) gs ≡ binding_of (tables program facts valid) f)) ⊎ Each (λ f. is_main f ≡ false) gs
  main_is [] h = inr tt
  main_is (f ∷ gs) h = by (is_main f) refl (main_is gs h.1)
    where
      by : (main : Bool) → is_main f ≡ main → ((f' : FunctionTree) × IsFine f' × (is_main f' ≡ true) × (main_in (tables program facts valid) gs ≡ binding_of (tables program facts valid) f')) ⊎ Each (λ f'. is_main f' ≡ false) gs
          → ((f' : FunctionTree) × IsFine f' × (is_main f' ≡ true) × ((if main then binding_of (tables program facts valid) f else main_in (tables program facts valid) gs) ≡ binding_of (tables program facts valid) f'))
          ⊎ Each (λ f'. is_main f' ≡ false) (f ∷ gs)
      by true is rest = inl (f, h.0, is, refl)
      by false is (inl found) = inl found
      by false is (inr none) = inr (is, none)

  same_header : (f g' : FunctionTree) → Some (n.Header f) ≡ Some (n.Header g') → f ≡ g'
  same_header f g' e = cc

  is_the_main : (f : FunctionTree) (k : IsFine f) → (binding_of (tables program facts valid) f == main_of (tables program facts valid) program) ≡ true → is_main f ≡ true
  is_the_main f k e = elim (main_is fs fine) [
    | inl found ↦
        let same = eqb-true (binding_of (tables program facts valid) f) (main_of (tables program facts valid) program) e ∙ found.3 in
        let one = same_header f found.0 (sym (number_of f k) ∙ ap (slice_get (declarations program)) same ∙ number_of found.0 found.1) in
        subst (λ x. is_main x ≡ true) (sym one) found.2
    | inr none ↦ absurd (there_is_main program facts valid none)
  ]

  -- a function that runs by itself has no `sh` parameters
  pub not_sync : (mode : Mode) → may_run false mode ≡ true → mode ≢ Sync
  not_sync Sync may e = false≢true may
  not_sync Async may e = cc
  not_sync Straight may e = cc

  pub none_shared : (mode : Mode) → may_run false mode ≡ true → (xs : List DeclaredTree)
      → Each (Mine program facts valid functions (thing program valid.well_formed)) (s.parameters_tokens [] mode xs) → NoneShared xs
  none_shared mode may [] h = tt
  none_shared mode may (x ∷ xs) h = (
    false_from_ne_true x.shared (λ e.
        h.0.unbroken (thing_tells program valid.well_formed) rules.SharedParameter
        (subst (λ b. sb.BreaksRule [] (sw.Parameter b mode) rules.SharedParameter) (sym e) (sb.shared_parameter mode (not_sync mode may)))),
    none_shared mode may xs h.1,
  )

  in_place : (gs : List FunctionTree) → Each IsFine gs → FunctionsInPlace (tables program facts valid) (may_call program) (main_of (tables program facts valid) program) gs
  in_place [] h = tt
  in_place (f ∷ gs) h = (
    (λ may. let is = called true f h.0 may in
        (is.0, subst (BodyInPlace (tables program facts valid) (may_call program) false OfGroup) (sym h.0.has) (good_in OfGroup f h.0 is.0 (of_group f.mode is.1)).in_place)),
    (λ may. let is = called false f h.0 may in (
      is.0,
      subst (BodyInPlace (tables program facts valid) (may_call program) false OfBody) (sym h.0.has) (good_in OfBody f h.0 is.0 (of_body f.mode is.1)).in_place,
      none_shared f.mode is.1 f.parameters (h.0.parameters (thing program valid.well_formed)),
    )),
    (λ e. let is = is_the_main f h.0 e in
        (is, subst (BodyInPlace (tables program facts valid) (may_call program) true (OfMain true)) (sym h.0.has) (good_main f h.0 is).in_place)),
    in_place gs h.1,
  )

  returning : (gs : List FunctionTree) → Each IsFine gs → FunctionsReturn gs
  returning [] h = tt
  returning (f ∷ gs) h = (
    (λ is. subst (BodyReturns (not (is_nothing f.result))) (sym h.0.has) (statements_return program facts valid functions f.result h.0.body h.0.parts)),
    returning gs h.1,
  )

pub correct_programs_stand_in_place : CorrectProgramsStandInPlace
correct_programs_stand_in_place program facts valid = record {
  shaped = shaped program facts valid (functions_of program.items) (fine program facts valid);
  in_place = in_place program facts valid (functions_of program.items) (fine program facts valid);
}

-- what is valid is correct
pub correct : (program : ProgramTree) (facts : Facts) → IsValid program facts → IsCorrect program facts
correct program facts valid = record { well_formed = valid.well_formed; small = valid.small; known = valid.known }

pub valid_programs_are_in_place : ValidProgramsAreInPlace
valid_programs_are_in_place program facts valid =
    let right = correct program facts valid in
    let standing = correct_programs_stand_in_place program facts right in
    record {
      shaped = standing.shaped;
      noted = noted program facts right (functions_of program.items) (fine program facts right);
      in_place = standing.in_place;
      valued = valid.valued;
      returning = returning program facts right (functions_of program.items) (fine program facts right);
    }

pub valid_programs_have_one_program : ValidProgramsHaveOneProgram
valid_programs_have_one_program program facts valid setting schedule words firsts input processors some possible fine =
    programs_have_one_program (tables_by program facts) program (may_call program) (valid_programs_are_in_place program facts valid)
    setting schedule words firsts input processors some possible fine
