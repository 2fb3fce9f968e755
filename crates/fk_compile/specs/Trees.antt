-- Programs and their lists, of which the processors stay in the tree of groups.
use Rattle.std.specs.Prelude.{ℕ, List, []}
use Rattle.fk_syntax.specs.declared.facts.Facts.{Facts}
use Rattle.fk_syntax.specs.Program.{ProgramTree}
use Rattle.fk_meaning_forms.specs.Program.{bodies_of, main_of}
use Rattle.fk_layout_walk.specs.declared.known.ProgramTables.{ProgramTables}
use Rattle.fk_layout_walk_statements.specs.Texts.{functions_in}
use Rattle.fk_layout.specs.Layout.{tables_by}
use Rattle.fk_core.specs.declared.op.CoreOp.{CoreOp}
use Rattle.fk_core.specs.Next.{position, landing, next}
use Rattle.fk_core_flat.specs.Laws.{IsFlat}
use Rattle.fk_core_levels.specs.Forks.{level_forks}
use Rattle.fk_core_levels.specs.Levels.{AreLevels}
use Rattle.fk_lower.specs.Depths.{AreTold}
use Rattle.fk_lower_text.specs.Depths.{depths_of}
use Rattle.fk_lower_text.specs.Lowered.{HasSites}
use Rattle.fk_gen.specs.declared.placed.Levels.{Levels}
use Rattle.fk_gen_list.specs.Laws.{nestings_of}
use Rattle.fk_lockstep_frames.specs.Lists.{HasLocalFrames}
use Rattle.fk_lockstep_tree.specs.Runs.{AlwaysInTree}
use Rattle.fk_lockstep_tree.specs.Lists.{HasOwnSites}
use Rattle.fk_sim_block.specs.Node.{Gathering}
use Rattle.fk_sim_runs.specs.Lists.{IsOfTree}
use Rattle.fk_lower_laws.specs.LoweringLaws.{IsKnownOf}
use Rattle.fk_compile.specs.OneProgram.{IsLaidOut}

abbrev pub SitesAreOwn : Type 0
SitesAreOwn = (known : ProgramTables) (core : List CoreOp) → HasSites known core → HasOwnSites core

-- In each run of the list of a program, processors stay in the tree of groups.
abbrev pub ProgramsStayInTrees : Type 0
ProgramsStayInTrees =
    (program : ProgramTree) (facts : Facts) → IsLaidOut program facts
    → let tables = tables_by program facts in
    (core : List CoreOp) (entry : (binding : ℕ) → ℕ)
    → IsFlat (bodies_of tables program) core entry → HasOwnSites core
    → HasLocalFrames core (entry (main_of tables program))
    → AlwaysInTree (next core) (λ w. landing core w.at)
    (position (entry (main_of tables program)) [])

-- Such a list, with the levels that are found for it, is as the laws of machines require.
abbrev pub ListsAreOfTree : Type 0
ListsAreOfTree =
    (program : ProgramTree) (facts : Facts) (known : ProgramTables) → IsKnownOf program facts known
    → IsLaidOut program facts
    → let tables = tables_by program facts in
    (core : List CoreOp) (entry : (binding : ℕ) → ℕ)
    → IsFlat (bodies_of tables program) core entry
    → AreTold (depths_of known (functions_in known)) core → HasSites known core
    → (saved : List Levels) → AreLevels core saved → (start : Gathering)
    → IsOfTree core (nestings_of saved (level_forks core) start) (entry (main_of tables program))
