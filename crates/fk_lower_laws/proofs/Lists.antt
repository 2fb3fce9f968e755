-- What is asked of the list of a program follows from the text.
use Rattle.std.proofs.Common.{◌≡◌, ℕ, Bool, true, false, List, [], ◌∷◌, None, refl, sym, ap, ◌∙◌, subst}
use Rattle.std.specs.Prelude.{◌==◌, ◌||◌, if◌then◌else◌}
use Rattle.std.proofs.lemmas.List.{length-map}
use Rattle.fk_syntax.specs.Program.{FunctionTree}
use Rattle.fk_meaning.specs.Shaped.{ProgramShaped}
use Rattle.fk_meaning.proofs.NestedPrograms.{programs_are_nested}
use Rattle.fk_meaning_forms.specs.Tables.{Tables, frame_at}
use Rattle.fk_meaning_forms.specs.Program.{functions_of, binding_of, signature_in, bodies_of, main_of}
use Rattle.fk_layout_globals.specs.Constants.{told}
use Rattle.fk_layout_globals.specs.Rows.{first_of}
use Rattle.fk_layout_globals.specs.Variables.{variables_of}
use Rattle.fk_layout.specs.Frames.{file_privates}
use Rattle.fk_layout.specs.Layout.{tables_by}
use Rattle.fk_core_liveness.specs.declared.places.FunctionKind.TheVariants.{Main}
use Rattle.fk_core_flat.specs.Laws.{IsFlat}
use Rattle.fk_core_liveness.specs.Live.{words_in}
use Rattle.fk_core_typing.proofs.Enough.{knowledge_is_enough}
use Rattle.fk_core_flat.specs.Fitting.{is_defined}
use Rattle.fk_core_flat.proofs.Programs.{forms_are_shaped, functions_are_closed}
use Rattle.fk_check_laws.specs.Valid.{may_call}
use Rattle.fk_check_laws.proofs.Programs.{correct_programs_fit}
use Rattle.fk_check_laws.proofs.PlacedPrograms.{correct_programs_stand_in_place}
use Rattle.fk_core_counting.proofs.Lists.{typed_lists_tell_levels}
use Rattle.fk_lower_laws.specs.Asked.{place_by, place_in, place_of, frame_with, frame_of}
use Rattle.fk_lower_laws.proofs.Programs.{correct_programs_are_asked, mains_have_their_place}
use Rattle.fk_lower_laws.proofs.Free.{typed_list, lists_go_on_within}
use Rattle.fk_lower_laws.proofs.Runs.{all_run}
use Rattle.fk_lower_laws.proofs.Suiting.{live_words_suit}
use Rattle.fk_lower_laws.proofs.Room.{correct_programs_have_room}
use Rattle.fk_core.specs.declared.op.CoreOp.{CoreOp}
use Rattle.fk_layout_walk.specs.declared.known.ProgramTables.{ProgramTables}
use Rattle.fk_layout_walk_statements.specs.Texts.{functions_in}
use Rattle.fk_syntax.specs.declared.facts.Facts.{Facts}
use Rattle.fk_syntax.specs.Program.{ProgramTree}
use Rattle.fk_core_typing.proofs.DepthRuns.{local_depths_are_depths}
use Rattle.fk_lower.specs.Depths.{AreTold}
use Rattle.fk_lower_text.specs.Depths.{depths_of}
use Rattle.fk_layout.specs.Refusal.{Fits}
use Rattle.fk_parse_laws.specs.Trim.{ProgramIsTrim}
use Rattle.fk_core_flat.specs.Fitting.{ProgramFits}
use Rattle.fk_check_laws.specs.Correct.{IsCorrect}
use Rattle.fk_core_typing.specs.Typed.{AreTyped}
use Rattle.fk_core_typing.specs.Laws.{IsTypedList, HasHeightsOf}
use Rattle.fk_core_typing.proofs.Depths.{typed_lists_have_depths}
use Rattle.fk_lower_laws.proofs.TypedPrograms.{forms_are_typed}
use Rattle.fk_lower_names.specs.Proper.{ProgramIsProper}
use Rattle.fk_lower_laws.specs.LoweringLaws.{IsKnownOf}
use Rattle.fk_lower_laws.proofs.TallLists.{lists_have_heights}
use Rattle.fk_lower_laws.specs.Laws.{TellsNests, CorrectListsAreSteady, CorrectListsHaveFrames, LoweredListsCanHaveGroups}

-- what has the place of `main` is defined
is_there : (tables : Tables) (fs : List FunctionTree) (b : ℕ) → place_in tables fs b ≡ Main → is_defined tables fs b ≡ true
is_there tables [] b is = absurd (cc)
is_there tables (f ∷ fs) b is = by (binding_of tables f == b) (is_there tables fs b) is
  where
    by : (here : Bool) → (place_in tables fs b ≡ Main → is_defined tables fs b ≡ true) → (if here then place_by f else place_in tables fs b) ≡ Main
        → (here || is_defined tables fs b) ≡ true
    by true others is = refl
    by false others is = others is

-- `main` takes no group frame
no_frame : (tables : Tables) (program : ProgramTree) (b : ℕ) → place_of tables program b ≡ Main → frame_of tables program b ≡ None
no_frame tables program b is =
    ap (λ kind. frame_with kind (frame_at tables (signature_in tables (functions_of program.items) b).at 0)) is

-- the parts of its code are nested
nested_of : (program : ProgramTree) (facts : Facts) → IsCorrect program facts → ProgramShaped (tables_by program facts) program
nested_of program facts valid = (correct_programs_stand_in_place program facts valid).shaped

typed_of : (program : ProgramTree) (facts : Facts) → IsCorrect program facts → ProgramIsTrim program → ProgramIsProper program
    → let tables = tables_by program facts in
    Fits tables program.items
    → (core : List CoreOp) (entry : (binding : ℕ) → ℕ) → IsFlat (bodies_of tables program) core entry → IsTypedList (bodies_of tables program) core entry (place_of tables program) (frame_of tables program)
typed_of program facts valid trim proper fits core entry flat =
    let tables = tables_by program facts in
    typed_list tables program core entry (correct_programs_are_asked program facts valid trim proper fits) (nested_of program facts valid) (forms_are_shaped tables program (correct_programs_fit program facts valid trim)) flat

-- its list tells the nests
tells_nests : (program : ProgramTree) (facts : Facts) → IsCorrect program facts → ProgramIsTrim program → ProgramIsProper program
    → let tables = tables_by program facts in
    Fits tables program.items
    → (core : List CoreOp) (entry : (binding : ℕ) → ℕ) → IsFlat (bodies_of tables program) core entry → TellsNests core (entry (main_of tables program))
tells_nests program facts valid trim proper fits core entry flat =
    let tables = tables_by program facts in
    let main = main_of tables program in
    let place = (mains_have_their_place program facts valid).0 in
    let told = typed_lists_tell_levels (bodies_of tables program) core entry (place_of tables program) (frame_of tables program) (may_call program)
    (typed_of program facts valid trim proper fits core entry flat) (programs_are_nested tables program (nested_of program facts valid)) (all_run program facts valid) main place
    (no_frame tables program main place) in
    record { local = told.0; knows = told.1; levels = told.2 }

pub correct_lists_are_steady : CorrectListsAreSteady
correct_lists_are_steady program facts valid trim proper fits core entry flat =
    let tables = tables_by program facts in
    let main = main_of tables program in
    let asked = correct_programs_are_asked program facts valid trim proper fits in
    let fitting = correct_programs_fit program facts valid trim in
    let shaped = forms_are_shaped tables program fitting in
    let place = (mains_have_their_place program facts valid).0 in
    let closed = functions_are_closed tables program fitting main (is_there tables (functions_of program.items) main place) in
    let known = tells_nests program facts valid trim proper fits core entry flat in
    record {
      within = lists_go_on_within tables program core entry asked (nested_of program facts valid) shaped flat closed;
      may = knowledge_is_enough core (entry main) known.local known.knows;
    }

pub correct_lists_have_frames : CorrectListsHaveFrames
correct_lists_have_frames program facts valid trim proper fits core entry kept lowered =
    let tables = tables_by program facts in
    let main = main_of tables program in
    let place = (mains_have_their_place program facts valid).0 in
    let typed = typed_of program facts valid trim proper fits core entry lowered.flat in
    let count = length-map (variables_of false program.items) (first_of (told facts.notes.items facts.kinds.items)) in
    let suits = live_words_suit (bodies_of tables program) core entry (place_of tables program) (frame_of tables program) (file_privates program.items) (may_call program) typed lowered.tall
    (correct_programs_have_room program facts valid trim proper fits) (programs_are_nested tables program (nested_of program facts valid)) (all_run program facts valid)
    (words_in kept) lowered.live lowered.least main place (no_frame tables program main place) in
    record {
      frames = suits.frames;
      of_file = suits.of_file ∙ sym count;
      suits = suits.suits;
      rooms = suits.rooms;
      keeps = λ index word held. sym (ap (λ (keeps : (index word : ℕ) → Bool). keeps index word) suits.keeps_are) ∙ held;
    }

module _ (program : ProgramTree) (facts : Facts) (known : ProgramTables) (of : IsKnownOf program facts known) (valid : IsCorrect program facts) (trim : ProgramIsTrim program)
    (proper : ProgramIsProper program) (fits : Fits (tables_by program facts) program.items) where
  -- the depths that are told of the text are those of its code
  tall : (core : List CoreOp) → AreTold (depths_of known (functions_in known)) core
      → HasHeightsOf (bodies_of (tables_by program facts) program) core (place_of (tables_by program facts) program)
  tall core told =
      let tables = tables_by program facts in
      let fitting = correct_programs_fit program facts valid trim in
      let nested = nested_of program facts valid in
      let typed = forms_are_typed tables program (correct_programs_are_asked program facts valid trim proper fits) nested in
      subst
      (λ (t : Tables).
      ProgramFits t program → ProgramShaped t program → AreTyped (place_of t program) (frame_of t program) (bodies_of t program) → HasHeightsOf (bodies_of t program) core (place_of t program))
      of.tables (λ f b t. lists_have_heights known program core (sym of.items) f b t told) fitting nested typed

pub lowered_lists_can_have_groups : LoweredListsCanHaveGroups
lowered_lists_can_have_groups program facts known of valid trim proper fits core entry flat told =
    let tables = tables_by program facts in
    let main = main_of tables program in
    let place = (mains_have_their_place program facts valid).0 in
    let typed = typed_of program facts valid trim proper fits core entry flat in
    let high = tall program facts known of valid trim proper fits core told in
    let deep = typed_lists_have_depths (bodies_of tables program) core entry (place_of tables program) (frame_of tables program) typed high main place in
    record {
      depths = local_depths_are_depths core (entry main) deep;
      enough = λ i op operation stands is_read. (deep.fits i op operation stands is_read).0;
      steady = correct_lists_are_steady program facts valid trim proper fits core entry flat;
      nests = tells_nests program facts valid trim proper fits core entry flat;
      held = λ kept live least.
          correct_lists_have_frames program facts valid trim proper fits core entry kept (record { flat = flat; tall = high; live = live; least = least });
    }
