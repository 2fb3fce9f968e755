-- Programs that keep all rules and have a layout are as well typed code asks.
use Rattle.std.specs.Prelude.{◌≡◌, ℕ}
use Rattle.fk_syntax.specs.declared.facts.Facts.{Facts}
use Rattle.fk_syntax.specs.Program.{ProgramTree}
use Rattle.fk_meaning_forms.specs.Program.{main_of}
use Rattle.fk_core_liveness.specs.declared.places.FunctionKind.TheVariants.{Main}
use Rattle.fk_layout.specs.Layout.{tables_by}
use Rattle.fk_layout.specs.Refusal.{Fits}
use Rattle.fk_parse_laws.specs.Trim.{ProgramIsTrim}
use Rattle.fk_check_laws.specs.Correct.{IsCorrect}
use Rattle.fk_lower_laws.specs.Asked.{place_of, ProgramAsked}
use Rattle.fk_lower_names.specs.Proper.{ProgramIsProper}

abbrev pub CorrectProgramsAreAsked : Type 0
CorrectProgramsAreAsked =
    (program : ProgramTree) (facts : Facts) → IsCorrect program facts → ProgramIsTrim program
    → ProgramIsProper program
    → Fits (tables_by program facts) program.items → ProgramAsked (tables_by program facts) program

-- The binding of `main` means `main`, and every other one means a function that is called.
abbrev pub MainsHaveTheirPlace : Type 0
MainsHaveTheirPlace =
    (program : ProgramTree) (facts : Facts) → IsCorrect program facts
    → let tables = tables_by program facts in
    (place_of tables program (main_of tables program) ≡ Main)
    × ((binding : ℕ) → place_of tables program binding ≡ Main → binding ≡ main_of tables program)
