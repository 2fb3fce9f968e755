-- Programs that are as well typed code asks, and whose parts and loops are nested, have well typed
-- code. `main` is where it begins.
use Rattle.std.specs.Prelude.{◌≡◌, ◌⊎◌, ℕ, ◌==◌, true, List, [], ◌∷◌}
use Rattle.fk_syntax.specs.Program.{FunctionTree, ProgramTree}
use Rattle.fk_meaning_forms.specs.Tables.{Tables}
use Rattle.fk_meaning.specs.Shaped.{ProgramShaped}
use Rattle.fk_meaning_forms.specs.Program.{functions_of, binding_of, is_main, bodies_of, main_of}
use Rattle.fk_core_liveness.specs.declared.places.FunctionKind.TheVariants.{Main}
use Rattle.fk_core_typing.specs.Typed.{AreTyped}
use Rattle.fk_lower_laws.specs.Asked.{place_of, frame_of, ProgramAsked}

abbrev pub FormsAreTyped : Type 0
FormsAreTyped =
    (tables : Tables) (program : ProgramTree) → ProgramAsked tables program
    → ProgramShaped tables program
    → AreTyped (place_of tables program) (frame_of tables program) (bodies_of tables program)

-- There is a `main`, and no other function has its binding.
abbrev pub HasMain : List FunctionTree → Type 0
HasMain [] = ⊥
HasMain (f ∷ fs) = (is_main f ≡ true) ⊎ HasMain fs

abbrev pub IsMainAlone : Tables → (main : ℕ) → List FunctionTree → Type 0
IsMainAlone tables main [] = Unit {0}
IsMainAlone tables main (f ∷ fs) = ((binding_of tables f == main) ≡ is_main f)
    × IsMainAlone tables main fs

-- The binding of `main` means `main` then, and every other one means a function that is called.
abbrev pub MainHasItsPlace : Type 0
MainHasItsPlace =
    (tables : Tables) (program : ProgramTree)
    → HasMain (functions_of program.items)
    → IsMainAlone tables (main_of tables program) (functions_of program.items)
    → (place_of tables program (main_of tables program) ≡ Main)
    × ((binding : ℕ) → place_of tables program binding ≡ Main → binding ≡ main_of tables program)
