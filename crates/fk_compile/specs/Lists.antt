-- Flat lists that have the code of a program.
use Rattle.std.specs.Prelude.{◌≡◌, ℕ, List}
use Rattle.fk_syntax.specs.Program.{ProgramTree}
use Rattle.fk_meaning_forms.specs.Tables.{Tables}
use Rattle.fk_meaning_forms.specs.Program.{bodies_of, main_of}
use Rattle.fk_core.specs.declared.op.CoreOp.{CoreOp}
use Rattle.fk_core.specs.KeepsRuns.{HasCodeOf}
use Rattle.fk_core_flat.specs.Laws.{IsFlat}
use Rattle.fk_gen_list.specs.Generable.{HasBlocks}
use Rattle.fk_core_levels.specs.Forks.{level_forks}
use Rattle.fk_core_levels.specs.Levels.{AreLevels}
use Rattle.fk_gen.specs.declared.placed.Levels.{Levels}
use Rattle.fk_sim_block.specs.Node.{Gathering}
use Rattle.fk_gen_list.specs.Laws.{nestings_of}
use Rattle.fk_sim_runs.specs.Lists.{IsOfTree}
use Rattle.fk_lockstep_tree.specs.Lists.{HasOwnSites}
use Rattle.fk_lower_laws.specs.Laws.{CanHaveGroups}

-- The list is flat, has the code of each function at its entry, and that of `main` at this index.
pub record HasListOf (tables : Tables) (program : ProgramTree) (core : List CoreOp)
    (main : ℕ) : Type 0 where
  pub entry : ℕ → ℕ
  pub flat : IsFlat (bodies_of tables program) core entry
  pub code : HasCodeOf tables program core entry
  pub begins : main ≡ entry (main_of tables program)

-- What is known of the list of a text: code with groups can be made of it, its operations have
-- blocks, each has a site of its own, and with the levels that are found for it its processors stay
-- in the tree of groups.
pub record IsGrouped (core : List CoreOp) (main firsts : ℕ) : Type 0 where
  pub can : CanHaveGroups core main firsts
  pub blocks : HasBlocks core
  pub own : HasOwnSites core
  pub tree : (saved : List Levels) → AreLevels core saved → (start : Gathering)
      → IsOfTree core (nestings_of saved (level_forks core) start) main
