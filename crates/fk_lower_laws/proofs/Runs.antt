-- Who runs each function of a program that keeps all rules.
use Rattle.std.proofs.Common.{◌≡◌, ℕ, ◌+◌, Bool, true, false, true≢false, not, List, [], ◌∷◌, refl, ap, ◌∙◌}
use Rattle.std.specs.Prelude.{◌==◌, ◌&&◌, if◌then◌else◌}
use Rattle.fk_syntax.specs.declared.facts.Facts.{Facts}
use Rattle.fk_syntax.specs.declared.program.Mode.{Mode}
use Rattle.fk_syntax.specs.declared.program.Mode.TheVariants.{Sync, Async, Straight}
use Rattle.fk_syntax.specs.Program.{FunctionTree, ProgramTree}
use Rattle.fk_meaning_forms.specs.Code.{size, numbered}
use Rattle.fk_meaning_forms.specs.Statements.{is_nothing}
use Rattle.fk_meaning_forms.specs.Tables.{Tables}
use Rattle.fk_meaning_forms.specs.Program.{functions_of, binding_of, is_main, code_of, body_in, bodies_of, main_of}
use Rattle.fk_layout.specs.Layout.{tables_by}
use Rattle.fk_core_liveness.specs.declared.places.FunctionKind.TheVariants.{Main, Called}
use Rattle.fk_core_liveness.specs.Frames.{is_main_place}
use Rattle.fk_lockstep_structure.specs.Placed.{OfGroup, OfBody, OfMain}
use Rattle.fk_lockstep_structure.specs.InPlace.{FunctionsInPlace}
use Rattle.fk_lockstep_structure.proofs.Programs.{numbers, function_in_place}
use Rattle.fk_core_counting.specs.Laws.{IsRun}
use Rattle.fk_check_laws.specs.Correct.{IsCorrect}
use Rattle.fk_check_laws.specs.Valid.{may_run, callable, may_call}
use Rattle.fk_check_laws.proofs.Declared.{function_number}
use Rattle.fk_check_laws.proofs.Each.{Each}
use Rattle.fk_check_laws.proofs.PlacedPrograms.{correct_programs_stand_in_place}
use Rattle.fk_lower_laws.specs.Asked.{place_by, place_in, place_of}
use Rattle.fk_lower_laws.specs.TypedLaws.{IsMainAlone}
use Rattle.fk_lower_laws.proofs.Framing.{function_frames}
use Rattle.fk_lower_laws.proofs.Shrinking.{function_shrinks}
use Rattle.fk_lower_laws.proofs.Programs.{IsThere, all_there, main_alone}

module _ (program : ProgramTree) (facts : Facts) (valid : IsCorrect program facts) where
  abbrev tables : Tables
  tables = tables_by program facts

  abbrev calls : (in_group : Bool) → (function : ℕ) → Bool
  calls = may_call program

  abbrev everyone : List FunctionTree
  everyone = functions_of program.items

  abbrev main : ℕ
  main = main_of tables program

  abbrev Runs : FunctionTree → ℕ → Type 0
  Runs f first = IsRun calls (place_by f) (numbered first (code_of tables everyone f))

  -- a function by its mode
  of_mode : (f : FunctionTree) (gs : List FunctionTree) → FunctionsInPlace tables calls main (f ∷ gs) → is_main f ≡ false
      → ((in_group : Bool) → calls in_group (binding_of tables f) ≡ may_run in_group f.mode) → (first : ℕ) (mode : Mode) → f.mode ≡ mode → Runs f first
  of_mode f gs h is runs first mode e = by mode e
    where
      called : is_main_place (place_by f) ≡ false
      called = ap (λ (b : Bool). is_main_place (if b then Main else Called (not (is_nothing f.result)))) is

      alone : may_run false f.mode ≡ true → Runs f first
      alone may =
          let g = h.1 (runs false ∙ may) in
          record { who = OfBody; placed = numbers calls OfBody false (code_of tables everyone f) first (function_in_place tables calls everyone OfBody false f g.0 refl g.1); by_main = λ other. called; shrinks = function_shrinks tables everyone calls false OfBody f g.1 first; frames = function_frames tables everyone calls false OfBody f g.1 first }

      by : (mode' : Mode) → f.mode ≡ mode' → Runs f first
      by Sync e' =
          let g = h.0 (runs true ∙ ap (may_run true) e') in
          record { who = OfGroup; placed = numbers calls OfGroup false (code_of tables everyone f) first (function_in_place tables calls everyone OfGroup false f g.0 refl g.1); by_main = λ other. called; shrinks = function_shrinks tables everyone calls false OfGroup f g.1 first; frames = function_frames tables everyone calls false OfGroup f g.1 first }
      by Async e' = alone (ap (may_run false) e')
      by Straight e' = alone (ap (may_run false) e')

  one : (f : FunctionTree) (gs : List FunctionTree) → IsThere program facts valid f → (binding_of tables f == main) ≡ is_main f → FunctionsInPlace tables calls main (f ∷ gs) → (first : ℕ) → Runs f first
  one f gs there alone h first = by (is_main f) refl
    where
      by : (is : Bool) → is_main f ≡ is → Runs f first
      by true e =
          let g = h.2 (alone ∙ e) in
          record {
            who = OfMain true;
            placed = numbers calls (OfMain true) false (code_of tables everyone f) first (function_in_place tables calls everyone (OfMain true) true f g.0 refl g.1);
            by_main = λ other. absurd (true≢false other);
            shrinks = function_shrinks tables everyone calls true (OfMain true) f g.1 first;
            frames = function_frames tables everyone calls true (OfMain true) f g.1 first;
          }
      by false e =
          of_mode f gs h e
          (λ in_group. ap (callable in_group) (function_number program facts valid there.index f there.there there.body) ∙ ap (λ (b : Bool). not b && may_run in_group f.mode) e) first f.mode refl

  all : (gs : List FunctionTree) (first binding : ℕ) → Each (IsThere program facts valid) gs → IsMainAlone tables main gs → FunctionsInPlace tables calls main gs
      → IsRun calls (place_in tables gs binding) (body_in tables everyone first gs binding)
  all [] first binding there alone h = record { who = OfBody; placed = refl; by_main = λ other. refl; shrinks = tt; frames = tt }
  all (f ∷ gs) first binding there alone h =
      by (binding_of tables f == binding) (all gs (first + size (code_of tables everyone f)) binding there.1 alone.1 h.3)
    where
      by : (is : Bool) → IsRun calls (place_in tables gs binding) (body_in tables everyone (first + size (code_of tables everyone f)) gs binding)
          → IsRun calls (if is then place_by f else place_in tables gs binding)
          (if is then numbered first (code_of tables everyone f) else body_in tables everyone (first + size (code_of tables everyone f)) gs binding)
      by true others = one f gs there.0 alone.0 h first
      by false others = others

  pub all_run : (binding : ℕ) → IsRun calls (place_of tables program binding) (bodies_of tables program binding)
  all_run binding =
      all everyone 0 binding (all_there program facts valid program.items (λ j x is. (j, is))) (main_alone program facts valid) (correct_programs_stand_in_place program facts valid).in_place
