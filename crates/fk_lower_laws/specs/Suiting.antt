-- Flat lists suit frames that keep their live words.
use Rattle.std.specs.Prelude.{◌≡◌, ℕ, Bool, false, List, Option, None}
use Rattle.fk_meaning_forms.specs.Code.{Code}
use Rattle.fk_meaning.specs.Shape.{of_function, Shape}
use Rattle.fk_core.specs.declared.op.CoreOp.{CoreOp}
use Rattle.fk_sim_block.specs.Stands.{Frames}
use Rattle.fk_sim_block.specs.Suits.{Suits}
use Rattle.fk_core_liveness.specs.declared.places.FunctionKind.{FunctionKind}
use Rattle.fk_core_liveness.specs.declared.places.FunctionKind.TheVariants.{Main}
use Rattle.fk_core_liveness.specs.Live.{IsLive, IsLeast}
use Rattle.fk_core_typing.specs.Laws.{IsTypedList, HasHeightsOf}
use Rattle.fk_core_counting.specs.Laws.{IsRun}
use Rattle.fk_lower_laws.specs.Rooms.{HaveRoom}
use Rattle.fk_lower_laws.specs.Levels.{HasRooms}

-- A list suits frames that keep these words, with this many private variables of file scope, and
-- that have room for its levels.
pub record SuitsFrames (core : List CoreOp) (keeps : (index word : ℕ) → Bool)
    (firsts main : ℕ) : Type 0 where
  pub frames : Frames
  pub of_file : frames.of_file ≡ firsts
  pub keeps_are : frames.keeps ≡ keeps
  pub suits : Suits core frames main
  pub rooms : HasRooms core frames main

-- A flat list of well typed functions, whose parts are nested and are those of groups, with the
-- depths of its code and room in frames, suits frames that keep the fewest words that are live in
-- it. `main` has no group frame.
abbrev pub LiveWordsSuit : Type 0
LiveWordsSuit =
    (bodies : (binding : ℕ) → Code ℕ) (core : List CoreOp) (entry : ℕ → ℕ)
    (place_of : (binding : ℕ) → FunctionKind) (frame_of : (binding : ℕ) → Option ℕ) (firsts : ℕ)
    (may_call : (in_group : Bool) → (function : ℕ) → Bool)
    → IsTypedList bodies core entry place_of frame_of → HasHeightsOf bodies core place_of
    → HaveRoom bodies place_of firsts
    → ((binding : ℕ) → Shape false false of_function (bodies binding))
    → ((binding : ℕ) → IsRun may_call (place_of binding) (bodies binding))
    → (keeps : (index word : ℕ) → Bool) → IsLive core keeps → IsLeast core keeps
    → (main : ℕ) → place_of main ≡ Main → frame_of main ≡ None
    → SuitsFrames core keeps firsts (entry main)
