-- A program, and a list that has its code.
use Rattle.std.specs.Prelude.{ℕ, List, length, None}
use Rattle.fk_syntax.specs.Program.{ProgramTree}
use Rattle.fk_meaning.specs.Processor.{Setting}
use Rattle.fk_meaning.specs.Schedule.{Schedule}
use Rattle.fk_meaning.specs.Alike.{RunAlike}
use Rattle.fk_meaning_forms.specs.Tables.{Tables}
use Rattle.fk_meaning_forms.specs.Program.{bodies_of, main_of}
use Rattle.fk_meaning.specs.Program as source
use Rattle.fk_core.specs.declared.op.CoreOp.{CoreOp}
use Rattle.fk_core.specs.Next.{next, list_opening}
use Rattle.fk_core.specs.CodeAt.{CodeAt}
use Rattle.fk_core.specs.WellFormed.{LeadsOn}

-- The list has the code of each function, from the function's entry on. A function without a body
-- has its entry at the end.
pub record HasCodeOf (tables : Tables) (program : ProgramTree) (core : List CoreOp)
    (entry : ℕ → ℕ) : Type 0 where
  pub leads_on : LeadsOn core
  pub stands : (binding : ℕ)
      → CodeAt core entry (bodies_of tables program binding) None (entry binding) (length core)

-- A schedule is lawful for both or for neither, and under it both have equal stores and equal
-- statuses.
abbrev pub FlatListsKeepRuns : Type 0
FlatListsKeepRuns =
    (tables : Tables) (program : ProgramTree) (core : List CoreOp) (entry : ℕ → ℕ)
    → HasCodeOf tables program core entry
    → (words firsts input : List ℕ) (p : ℕ) (setting : Setting) (schedule : Schedule)
    → RunAlike (source.next_in tables program) (next core) setting schedule
    (source.program_opening tables program words firsts input p)
    (list_opening (entry (main_of tables program)) words firsts input p)
