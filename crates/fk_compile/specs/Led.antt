-- The code of programs in place.
use Rattle.std.specs.Prelude.{◌≡◌, ℕ, Bool, None}
use Rattle.fk_syntax.specs.Program.{ProgramTree}
use Rattle.fk_meaning_forms.specs.Tables.{Tables, frame_at}
use Rattle.fk_meaning_forms.specs.Program.{functions_of, no_signature, bodies_of, main_of}
use Rattle.fk_core_flat.specs.Laws.{AreShaped}
use Rattle.fk_lockstep_structure.specs.InPlace.{IsInPlace}
use Rattle.fk_lockstep_structure.specs.Inner.{FunctionsInner}
use Rattle.fk_lockstep_tree.specs.Led.{AreLed}

-- The code of a program in place leads each processor from place to place, if only groups call
-- functions with a frame.
abbrev pub ProgramsAreLed : Type 0
ProgramsAreLed =
    (tables : Tables) (program : ProgramTree) (may_call : (in_group : Bool) → (function : ℕ) → Bool)
    → IsInPlace tables program may_call
    → FunctionsInner tables may_call (functions_of program.items)
    → frame_at tables no_signature.at 0 ≡ None
    → AreShaped (bodies_of tables program)
    → AreLed may_call (bodies_of tables program) (main_of tables program)
