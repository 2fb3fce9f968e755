-- A program and its flat list.
use Rattle.std.specs.Prelude.{ℕ, List}
use Rattle.fk_syntax.specs.Program.{ProgramTree}
use Rattle.fk_meaning.specs.Processor.{Setting}
use Rattle.fk_meaning.specs.Schedule.{Schedule}
use Rattle.fk_meaning.specs.Alike.{RunAlike}
use Rattle.fk_meaning_forms.specs.Tables.{Tables}
use Rattle.fk_meaning_forms.specs.Program.{bodies_of, main_of}
use Rattle.fk_meaning.specs.Program as source
use Rattle.fk_core.specs.declared.op.CoreOp.{CoreOp}
use Rattle.fk_core.specs.Next.{next, list_opening}
use Rattle.fk_core_flat.specs.Laws.{IsFlat}
use Rattle.fk_core_flat.specs.Fitting.{ProgramFits}

-- A schedule is lawful for both or for neither, and under it both have equal stores and equal
-- statuses.
abbrev pub FlatProgramsKeepRuns : Type 0
FlatProgramsKeepRuns =
    (tables : Tables) (program : ProgramTree) (core : List CoreOp) (entry : ℕ → ℕ)
    → ProgramFits tables program → IsFlat (bodies_of tables program) core entry
    → (words firsts input : List ℕ) (p : ℕ) (setting : Setting) (schedule : Schedule)
    → RunAlike (source.next_in tables program) (next core) setting schedule
    (source.program_opening tables program words firsts input p)
    (list_opening (entry (main_of tables program)) words firsts input p)
