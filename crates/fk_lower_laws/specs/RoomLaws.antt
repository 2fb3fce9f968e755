-- Programs that keep all rules and have a layout have room in frames of 64 words.
use Rattle.std.specs.Prelude.{ℕ, ◌+◌, ◌*◌, ◌≤◌}
use Rattle.fk_syntax.specs.declared.facts.Facts.{Facts}
use Rattle.fk_syntax.specs.Program.{ProgramTree}
use Rattle.fk_meaning_forms.specs.Code.{Code}
use Rattle.fk_meaning_forms.specs.Tables.{Tables}
use Rattle.fk_meaning_forms.specs.Program.{functions_of, bodies_of}
use Rattle.fk_layout.specs.Frames.{file_privates, values_of, nesting_of}
use Rattle.fk_layout.specs.Layout.{tables_by}
use Rattle.fk_layout.specs.Refusal.{Fits}
use Rattle.fk_core_liveness.specs.declared.places.FunctionKind.{FunctionKind}
use Rattle.fk_lower_laws.specs.Rooms.{HasWords, ahead_in, HaveRoom}
use Rattle.fk_parse_laws.specs.Trim.{ProgramIsTrim}
use Rattle.fk_check_laws.specs.Correct.{IsCorrect}
use Rattle.fk_lower_laws.specs.Asked.{place_of}
use Rattle.fk_lower_laws.specs.Named.{words_in}
use Rattle.fk_lower_laws.specs.Room.{HasFew, HasParts, own_words}
use Rattle.fk_lower_names.specs.Proper.{ProgramIsProper}

-- The number of private words of the function of a binding, without those of file scope.
abbrev pub words_of : Tables → ProgramTree → (binding : ℕ) → ℕ
words_of tables program b =
    words_in tables (own_words tables program.items) (functions_of program.items) b

-- The number of values of the function of a binding.
abbrev pub values_in : Tables → ProgramTree → (binding : ℕ) → ℕ
values_in tables program b =
    words_in tables (values_of tables program.items) (functions_of program.items) b

-- The number of parts and bodies around the deepest place of the function of a binding.
abbrev pub nested_in : Tables → ProgramTree → (binding : ℕ) → ℕ
nested_in tables program b =
    words_in tables (nesting_of tables program.items) (functions_of program.items) b

-- The private words of each function, its values and the levels of its parts have room beside the
-- words before them and the 8 words that a layout counts.
pub record HaveValues (bodies : (binding : ℕ) → Code ℕ) (place_of : (binding : ℕ) → FunctionKind)
    (firsts : ℕ) (words most nested : (binding : ℕ) → ℕ) : Type 0 where
  pub room : (f : ℕ) → ahead_in firsts (place_of f) + 8 + words f + most f + 4 * nested f ≤ 64
  pub few : (f : ℕ) → HasFew place_of (most f) 0 (bodies f)
  pub parts : (f : ℕ) → HasParts (nested f) 0 (bodies f)

abbrev pub ValuesHaveRoom : Type 0
ValuesHaveRoom =
    (program : ProgramTree) (facts : Facts) → IsCorrect program facts → ProgramIsTrim program
    → ProgramIsProper program
    → let tables = tables_by program facts in
    Fits tables program.items
    → HaveValues (bodies_of tables program) (place_of tables program) (file_privates program.items)
    (words_of tables program) (values_in tables program) (nested_in tables program)

-- Each private word that is named in the code of a function exists, among the function's own or
-- those of file scope.
abbrev pub NamesHaveWords : Type 0
NamesHaveWords =
    (program : ProgramTree) (facts : Facts) → IsCorrect program facts → ProgramIsTrim program
    → let tables = tables_by program facts in
    Fits tables program.items
    → (binding : ℕ) → HasWords (file_privates program.items) (words_of tables program)
    (values_in tables program) (words_of tables program binding)
    (bodies_of tables program binding)

-- The private words, the values and the levels of each function have room in its frame.
abbrev pub CorrectProgramsHaveRoom : Type 0
CorrectProgramsHaveRoom =
    (program : ProgramTree) (facts : Facts) → IsCorrect program facts → ProgramIsTrim program
    → ProgramIsProper program
    → let tables = tables_by program facts in
    Fits tables program.items
    → HaveRoom (bodies_of tables program) (place_of tables program) (file_privates program.items)
