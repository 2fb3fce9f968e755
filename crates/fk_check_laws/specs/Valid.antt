-- Programs that keep all rules and whose `fork` expressions give one value each are in place, and
-- so their groups have one remaining program.
use Rattle.std.specs.Prelude.{◌≡◌, ℕ, ◌≤◌, ◌^◌, Bool, true, not, ◌&&◌, List, Option, Some}
use Rattle.std.specs.Prelude.{None, slice_get}
use Rattle.fk_syntax.specs.declared.facts.Facts.{Facts}
use Rattle.fk_syntax.specs.declared.program.Mode.{Mode}
use Rattle.fk_syntax.specs.declared.program.Mode.TheVariants.{Sync, Async, Straight}
use Rattle.fk_syntax.specs.Program.{ProgramTree}
use Rattle.fk_syntax.specs.WellFormed.{IsWellFormed}
use Rattle.fk_meaning.specs.Processor.{Setting}
use Rattle.fk_meaning.specs.Schedule.{Schedule, run, ArePossible}
use Rattle.fk_meaning.specs.Shaped.{ProgramShaped}
use Rattle.fk_meaning_forms.specs.Program.{functions_of, signature_in, is_main, main_of}
use Rattle.fk_meaning.specs.Program.{next_in, program_opening}
use Rattle.fk_types_names.specs.Outline.{DeclarationTree, Variable, Header, declarations}
use Rattle.fk_check.specs.Known.{AreAllFacts}
use Rattle.fk_layout.specs.Layout.{tables_by}
use Rattle.fk_meaning_forms.specs.Tables.{Tables, frame_at}
use Rattle.fk_lockstep.specs.OneProgram.{KeepOneProgram}
use Rattle.fk_lockstep.specs.OneSpace.{KeepOneSpace}
use Rattle.fk_lockstep_structure.specs.Forks.{ForksAreValued}
use Rattle.fk_lockstep_structure.specs.InPlace.{IsInPlace, FunctionsInPlace}
use Rattle.fk_check_laws.specs.Correct.{IsCorrect}

-- a function with this mode may be called by a group, or by processors by themselves
abbrev pub may_run : (in_group : Bool) → Mode → Bool
may_run in_group Sync = in_group
may_run in_group Async = not in_group
may_run in_group Straight = true

-- the functions that may be called: those with such a mode, other than `main`. A name of anything
-- else isn't a call
abbrev pub callable : (in_group : Bool) → Option DeclarationTree → Bool
callable in_group None = true
callable in_group (Some (Variable variable)) = true
callable in_group (Some (Header function)) =
    not (is_main function) && may_run in_group function.mode

abbrev pub may_call : ProgramTree → (in_group : Bool) → (binding : ℕ) → Bool
may_call program in_group binding = callable in_group (slice_get (declarations program) binding)

-- a program of at most 2^20 tokens that keeps all rules and whose `fork` expressions give one value
-- each, with its facts
pub record IsValid (program : ProgramTree) (facts : Facts) : Type 0 where
  pub well_formed : IsWellFormed program
  pub small : program.tokens ≤ 2 ^ 20
  pub known : AreAllFacts program facts
  pub valued : ForksAreValued (tables_by program facts) (signature_in (tables_by program facts)
      (functions_of program.items)) (functions_of program.items)

-- the parts, bodies and loops of a program are nested, and only groups split. Nothing is said of
-- the values of a `fork`
pub record StandsInPlace (tables : Tables) (program : ProgramTree)
    (may_call : (in_group : Bool) → (function : ℕ) → Bool) : Type 0 where
  pub shaped : ProgramShaped tables program
  pub in_place : FunctionsInPlace tables may_call (main_of tables program)
      (functions_of program.items)

abbrev pub CorrectProgramsStandInPlace : Type 0
CorrectProgramsStandInPlace = (program : ProgramTree) (facts : Facts) → IsCorrect program facts
    → StandsInPlace (tables_by program facts) program (may_call program)

-- a valid program is in place, by its names, its types and the slots of its variables
abbrev pub ValidProgramsAreInPlace : Type 0
ValidProgramsAreInPlace = (program : ProgramTree) (facts : Facts) → IsValid program facts
    → IsInPlace (tables_by program facts) program (may_call program)

-- after schedules of possible rounds the groups of such a program have one remaining program
abbrev pub ValidProgramsHaveOneProgram : Type 0
ValidProgramsHaveOneProgram =
    (program : ProgramTree) (facts : Facts) → IsValid program facts
    → (setting : Setting) (schedule : Schedule) (words firsts input : List ℕ) (processors : ℕ)
    → 1 ≤ processors
    → let next = next_in (tables_by program facts) program in
    let first = program_opening (tables_by program facts) program words firsts input processors in
    ArePossible next setting schedule first
    → (run next setting schedule first).fault ≡ None
    → KeepOneProgram next processors (run next setting schedule first)

-- then all members of a group in lockstep have levels that differ in `$` alone, and so have
-- processors that wait at one node. No function, and no statement with a frame, is at the first
-- token of a text
abbrev pub ValidProgramsHaveOneSpace : Type 0
ValidProgramsHaveOneSpace =
    (program : ProgramTree) (facts : Facts) → IsValid program facts
    → frame_at (tables_by program facts) 0 0 ≡ None
    → (setting : Setting) (schedule : Schedule) (words firsts input : List ℕ) (processors : ℕ)
    → 1 ≤ processors
    → let first = program_opening (tables_by program facts) program words firsts input processors in
    ArePossible (next_in (tables_by program facts) program) setting schedule first
    → (run (next_in (tables_by program facts) program) setting schedule first).fault ≡ None
    → KeepOneSpace (run (next_in (tables_by program facts) program) setting schedule first)
