-- The lists of programs that keep all rules and have a layout.
use Rattle.std.specs.Prelude.{ℕ, List, length}
use Rattle.fk_syntax.specs.declared.facts.Facts.{Facts}
use Rattle.fk_syntax.specs.Program.{ProgramTree}
use Rattle.fk_meaning_forms.specs.Tables.{Tables}
use Rattle.fk_meaning_forms.specs.Program.{bodies_of, main_of}
use Rattle.fk_layout_globals.specs.Constants.{told}
use Rattle.fk_layout_globals.specs.Rows.{firsts}
use Rattle.fk_layout_walk.specs.declared.known.ProgramTables.{ProgramTables}
use Rattle.fk_layout_walk_statements.specs.Texts.{functions_in}
use Rattle.fk_core.specs.declared.op.CoreOp.{CoreOp}
use Rattle.fk_core.specs.WellFormed.{HasDepths}
use Rattle.fk_core_flat.specs.Laws.{IsFlat}
use Rattle.fk_layout.specs.Layout.{tables_by}
use Rattle.fk_layout.specs.Refusal.{Fits}
use Rattle.fk_lower.specs.Depths.{AreTold}
use Rattle.fk_lower_text.specs.Depths.{depths_of}
use Rattle.fk_core_liveness.specs.declared.set.Set.{Set}
use Rattle.fk_core_liveness.specs.Live.{IsLive, IsLeast, words_in}
use Rattle.fk_parse_laws.specs.Trim.{ProgramIsTrim}
use Rattle.fk_check_laws.specs.Correct.{IsCorrect}
use Rattle.fk_core_typing.specs.Laws.{HasHeightsOf}
use Rattle.fk_core_typing.specs.LocalAddresses.{HasKnowledge}
use Rattle.fk_lockstep_frames.specs.Lists.{HasLocalFrames}
use Rattle.fk_core_counting.specs.Laws.{TellsLevels}
use Rattle.fk_lower_laws.specs.Asked.{place_of}
use Rattle.fk_lower_names.specs.Proper.{ProgramIsProper}
use Rattle.fk_lower_laws.specs.LoweringLaws.{IsKnownOf}
use Rattle.fk_lower_laws.specs.Certain.{IsSteady, HasEnough, HasFrames}

-- A list has the code of each function at its entry, with its depths, and these words are those
-- that are live in it.
pub record IsLowered (tables : Tables) (program : ProgramTree) (core : List CoreOp)
    (entry : (binding : ℕ) → ℕ) (kept : List Set) : Type 0 where
  pub flat : IsFlat (bodies_of tables program) core entry
  pub tall : HasHeightsOf (bodies_of tables program) core (place_of tables program)
  pub live : IsLive core (words_in kept)
  pub least : IsLeast core (words_in kept)

abbrev pub CorrectListsAreSteady : Type 0
CorrectListsAreSteady =
    (program : ProgramTree) (facts : Facts) → IsCorrect program facts → ProgramIsTrim program
    → ProgramIsProper program
    → let tables = tables_by program facts in
    Fits tables program.items
    → (core : List CoreOp) (entry : (binding : ℕ) → ℕ)
    → IsFlat (bodies_of tables program) core entry → IsSteady core (entry (main_of tables program))

-- The number of private variables of file scope of a text.
abbrev pub count_of_file : ProgramTree → Facts → ℕ
count_of_file program facts =
    length (firsts (told facts.notes.items facts.kinds.items) program.items)

abbrev pub CorrectListsHaveFrames : Type 0
CorrectListsHaveFrames =
    (program : ProgramTree) (facts : Facts) → IsCorrect program facts → ProgramIsTrim program
    → ProgramIsProper program
    → let tables = tables_by program facts in
    Fits tables program.items
    → (core : List CoreOp) (entry : (binding : ℕ) → ℕ) (kept : List Set)
    → IsLowered tables program core entry kept
    → HasFrames core kept (entry (main_of tables program)) (count_of_file program facts)

-- Each index of a list tells the nests of the running call, and what is known of constants there.
-- The list counts as many levels.
pub record TellsNests (core : List CoreOp) (main : ℕ) : Type 0 where
  pub local : HasLocalFrames core main
  pub knows : HasKnowledge core main local.nests
  pub levels : TellsLevels core main local

-- What the list of code with groups needs: its depths are those of all runs, each operation finds
-- its values, the list is steady and tells its nests, and it has frames that keep the words that
-- are live in it.
pub record CanHaveGroups (core : List CoreOp) (main firsts : ℕ) : Type 0 where
  pub depths : HasDepths core main
  pub enough : HasEnough core
  pub steady : IsSteady core main
  pub nests : TellsNests core main
  pub held : (kept : List Set) → IsLive core (words_in kept) → IsLeast core (words_in kept)
      → HasFrames core kept main firsts

abbrev pub LoweredListsCanHaveGroups : Type 0
LoweredListsCanHaveGroups =
    (program : ProgramTree) (facts : Facts) (known : ProgramTables) → IsKnownOf program facts known
    → IsCorrect program facts → ProgramIsTrim program → ProgramIsProper program
    → let tables = tables_by program facts in
    Fits tables program.items
    → (core : List CoreOp) (entry : (binding : ℕ) → ℕ)
    → IsFlat (bodies_of tables program) core entry
    → AreTold (depths_of known (functions_in known)) core
    → CanHaveGroups core (entry (main_of tables program)) (count_of_file program facts)
