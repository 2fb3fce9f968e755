-- The flat list of a text.
use Rattle.std.specs.Prelude.{◌≡◌, ℕ, ◌+◌, ◌≤◌, List, length}
use Rattle.fk_syntax.specs.Program.{ProgramTree}
use Rattle.fk_meaning.specs.Processor.{Setting}
use Rattle.fk_meaning.specs.Schedule.{Schedule}
use Rattle.fk_meaning.specs.Alike.{RunAlike}
use Rattle.fk_meaning.specs.Program as source
use Rattle.fk_meaning_forms.specs.Ranks.{ranked}
use Rattle.fk_meaning_forms.specs.Program.{bodies_of, main_of}
use Rattle.fk_layout_walk.specs.declared.known.ProgramTables.{ProgramTables}
use Rattle.fk_layout_walk.specs.Known.{tables_of, items_in}
use Rattle.fk_layout_walk_statements.specs.Texts.{functions_in, sites_of_text}
use Rattle.fk_core.specs.declared.op.CoreOp.{CoreOp}
use Rattle.fk_core.specs.Next.{next, list_opening}
use Rattle.fk_core.specs.KeepsRuns.{HasCodeOf}
use Rattle.fk_core_flat.specs.Items.{Item, acts, jumps, calls}
use Rattle.fk_core_flat.specs.Laws.{AreShaped, IsFlat}
use Rattle.fk_lower.specs.declared.fault.LowerFault.{LowerFault}
use Rattle.fk_lower.specs.declared.fault.LowerFault.TheVariants.{TooLong, OutOfRange, Misplaced}
use Rattle.fk_lower.specs.declared.fault.LowerFault.TheVariants.{Memory}
use Rattle.fk_lower.specs.Lowered.{IsListOf}
use Rattle.fk_lower_text.specs.Whole.{AreWhole, AreNumbered}

-- A program of these items. Its code has the shape of flat lists, and each number of its operations
-- has room in a word.
pub record IsLowerable (known : ProgramTables) (program : ProgramTree) : Type 0 where
  pub items : program.items ≡ items_in known
  pub shaped : AreShaped (bodies_of (tables_of known) program)
  pub whole : AreWhole known (functions_in known)

module _ (known : ProgramTables) (program : ProgramTree) (core : List CoreOp)
    (entry : (binding : ℕ) → ℕ) where
  -- The list is flat, with the code of each function at its entry. So it has the code of the
  -- program.
  pub record HasProgram : Type 0 where
    pub flat : IsFlat (bodies_of (tables_of known) program) core entry
    pub code : HasCodeOf (tables_of known) program core entry

  -- A schedule is lawful for the program and the list or for neither, and under it both have equal
  -- stores and equal statuses.
  abbrev pub HasItsRuns : Type 0
  HasItsRuns =
      (words firsts input : List ℕ) (p : ℕ) (setting : Setting) (schedule : Schedule)
      → RunAlike (source.next_in (tables_of known) program) (next core) setting schedule
      (source.program_opening (tables_of known) program words firsts input p)
      (list_opening (entry (main_of (tables_of known) program)) words firsts input p)

-- The operations of the list are those of the text, in their order, each with its rank as its site,
-- and there are few jumps between them.
pub record HasSites (known : ProgramTables) (core : List CoreOp) : Type 0 where
  pub items : List Item
  pub are : IsListOf core items
  pub sites : acts items ≡ ranked 0 (sites_of_text known)
  pub few : jumps items ≤ length (acts items) + calls items

-- Why functions that can be laid have no list: an operation has no number, or there isn't enough
-- memory, which no clause can say.
abbrev pub IsTextFault : ProgramTables → LowerFault → Type 0
IsTextFault known TooLong = ⊥
IsTextFault known OutOfRange = AreNumbered known (functions_in known) → ⊥
IsTextFault known Misplaced = ⊥
IsTextFault known Memory = Unit {0}
