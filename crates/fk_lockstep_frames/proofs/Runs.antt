-- The frames of a processor are as its work tells, round after round.
use Rattle.std.proofs.Common.{◌≡◌, ℕ, zero, suc, Bool, true, List, [], ◌∷◌, Option, Some, None, refl, sym, subst, arith}
use Rattle.fk_num.specs.Word.{Memory}
use Rattle.fk_space.specs.Space.{IsSpace}
use Rattle.fk_meaning_operation.specs.declared.kinds.Class.TheVariants.{Local, Request, Tree}
use Rattle.fk_meaning_operation.specs.Kinds.{class_of}
use Rattle.fk_meaning_store.specs.Store.{Store}
use Rattle.fk_meaning_store.specs.Serve.{Served, serve}
use Rattle.fk_meaning.specs.Processor.{Processor, Setting, setting_of, group_space}
use Rattle.fk_meaning.specs.Local.{local, is_onward}
use Rattle.fk_meaning.specs.Request.{request, with_answer}
use Rattle.fk_meaning.specs.Group.{does, goes_onward, has_room}
use Rattle.fk_meaning.specs.Round.{Step, Runner}
use Rattle.fk_meaning.specs.Schedule.{beginners, first_processor, opening}
use Rattle.fk_lockstep_frames.specs.Nests.{Nest, OfFunction, TellsOn, ToldNext, ToldFor, IsTold}
use Rattle.fk_lockstep_frames.specs.Taken.{HasNests, FramesAreAsTold}
use Rattle.fk_lockstep_frames.proofs.Rounds.{AllAre, all_at, RunnerFits, runs}
use Rattle.fk_lockstep_frames.proofs.Steps.{local_keeps, request_keeps, step_keeps}

-- the beginning
pub first_nests : (set : Setting) (firsts : Memory) (h : ℕ) → IsSpace (group_space set) → HasNests (OfFunction None ∷ []) (first_processor set firsts h)
first_nests set firsts h space = record { spaces = (record { space = space; frames = omega arith }, refl); frames = (tt, tt); numbers = omega arith }

module _ {W : Type 0} (next : W → Option (Step W)) (told : W → List Nest) where
  -- work that tells what an operation makes of the nests
  pub local_on : (set : Setting) (left : W) (p : Processor) (step : Step W) → TellsOn next told left step → HasNests (told left) p
      → class_of step.operation ≡ Local → HasNests (told (step.rest (is_onward step.operation p))) (local set step.operation p)
  local_on set left p step on h e =
      subst (λ (nests : List Nest). HasNests nests (local set step.operation p)) (sym (on.on (is_onward step.operation p)))
      (local_keeps set step.operation (told left) p e on.may h)

  pub request_on : (v : ℕ) (left : W) (p : Processor) (step : Step W) → TellsOn next told left step → HasNests (told left) p
      → class_of step.operation ≡ Request → HasNests (told (step.rest true)) (with_answer step.operation v p)
  request_on v left p step on h e =
      subst (λ (nests : List Nest). HasNests nests (with_answer step.operation v p)) (sym (on.on true)) (request_keeps v step.operation (told left) p e h)

  pub tree_on : (highest lowest size : ℕ) (left : W) (p : Processor) (step : Step W) → TellsOn next told left step → HasNests (told left) p
      → class_of step.operation ≡ Tree → has_room step.operation p ≡ true → HasNests (told (step.rest (goes_onward step.operation highest lowest p))) (does step.operation highest size p)
  tree_on highest lowest size left p step on h e room =
      subst (λ (nests : List Nest). HasNests nests (does step.operation highest size p)) (sym (on.on (goes_onward step.operation highest lowest p)))
      (step_keeps highest lowest size step.operation (told left) p e on.may room h)

  -- the next operation of work that tells its nests
  tells : (left : W) (step : Step W) → IsTold next told left → next left ≡ Some step → TellsOn next told left step
  tells left step is due = (subst (ToldNext next told (ToldFor next told zero) left) due (is (suc zero))).0

  rest_tells : (left : W) (step : Step W) → IsTold next told left → next left ≡ Some step → (onward : Bool) → IsTold next told (step.rest onward)
  rest_tells left step is due onward n = (subst (ToldNext next told (ToldFor next told n) left) due (is (suc n))).1 onward

  abbrev FitsAt : W → Processor → Type 0
  FitsAt left p = IsTold next told left × HasNests (told left) p

  after_local : (set : Setting) (left : W) (p : Processor) (step : Step W) → FitsAt left p → next left ≡ Some step
      → class_of step.operation ≡ Local → FitsAt (step.rest (is_onward step.operation p)) (local set step.operation p)
  after_local set left p step fits due e =
      (rest_tells left step fits.0 due (is_onward step.operation p), local_on set left p step (tells left step fits.0 due) fits.1 e)

  after_request : (s s' : Store) (v : ℕ) (left : W) (p : Processor) (step : Step W) → FitsAt left p → next left ≡ Some step
      → class_of step.operation ≡ Request → serve (request step.operation p) s p.number ≡ Served s' v → FitsAt (step.rest true) (with_answer step.operation v p)
  after_request s s' v left p step fits due e served =
      (rest_tells left step fits.0 due true, request_on v left p step (tells left step fits.0 due) fits.1 e)

  after_tree : (highest lowest size : ℕ) (left : W) (p : Processor) (step : Step W) → FitsAt left p → next left ≡ Some step
      → class_of step.operation ≡ Tree → has_room step.operation p ≡ true → FitsAt (step.rest (goes_onward step.operation highest lowest p)) (does step.operation highest size p)
  after_tree highest lowest size left p step fits due e room = (
    rest_tells left step fits.0 due (goes_onward step.operation highest lowest p),
    tree_on highest lowest size left p step (tells left step fits.0 due) fits.1 e room,
  )

  abbrev AllFit : List (Runner W) → Type 0
  AllFit rs = AllAre (RunnerFits next FitsAt after_local after_request after_tree) rs

  first : (program : W) → told program ≡ OfFunction None ∷ [] → IsTold next told program → (set : Setting) (firsts : Memory) (h count : ℕ) → IsSpace (group_space set)
      → AllFit (beginners set firsts program h count)
  first program begins is set firsts h zero space = tt
  first program begins is set firsts h (suc count) space = (
    (is, subst (λ (nests : List Nest). HasNests nests (first_processor set firsts h)) (sym begins) (first_nests set firsts h space)),
    first program begins is set firsts (suc h) count space,
  )

pub frames_are_as_told : (W : Type 0) → FramesAreAsTold W
frames_are_as_told W next told program begins is setting schedule processors globals input firsts space h r here =
    let all = runs next (FitsAt next told) (after_local next told) (after_request next told) (after_tree next told) setting schedule
    (opening processors globals input firsts program) (first next told program begins is (setting_of processors globals input) firsts 0 processors space) in
    (all_at (RunnerFits next (FitsAt next told) (after_local next told) (after_request next told) (after_tree next told)) _ h r all here).1
