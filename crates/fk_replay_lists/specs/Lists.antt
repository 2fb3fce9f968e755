-- Lists that can be replayed.
use Rattle.std.specs.Prelude.{ℕ, ◌+◌, ◌≤◌, List, length}
use Rattle.fk_num.specs.Limits.{most_data_words}
use Rattle.fk_syntax.specs.declared.facts.Facts.{Facts}
use Rattle.fk_syntax.specs.Program.{ProgramTree}
use Rattle.fk_layout.specs.Layout.{tables_by}
use Rattle.fk_core.specs.declared.op.CoreOp.{CoreOp}
use Rattle.fk_lockstep_frames.specs.Lists.{HasLocalFrames}
use Rattle.fk_sim_block.specs.Lists.{AlwaysMay}
use Rattle.fk_lower_laws.specs.Laws.{count_of_file}
use Rattle.fk_replay.specs.Replay.{IsOrderly, IsSafe}
use Rattle.fk_compile.specs.OneProgram.{IsLaidOut}
use Rattle.fk_compile.specs.Lists.{HasListOf, IsGrouped}

-- the list is safe with every input that has room beside the globals
abbrev pub IsAlwaysSafe : (core : List CoreOp) → (main : ℕ) → Type 0
IsAlwaysSafe core main =
    (words firsts input : List ℕ) (p : ℕ) → length words + length input ≤ most_data_words
    → IsSafe core main words firsts input p

pub record CanBeReplayed (core : List CoreOp) (main : ℕ) : Type 0 where
  pub orderly : IsOrderly core main
  pub safe : IsAlwaysSafe core main

abbrev pub ListsAreSafe : Type 0
ListsAreSafe = (core : List CoreOp) (main : ℕ) → HasLocalFrames core main → AlwaysMay core main
    → IsAlwaysSafe core main

abbrev pub ListsCanBeReplayed : Type 0
ListsCanBeReplayed =
    (program : ProgramTree) (facts : Facts) → IsLaidOut program facts
    → (core : List CoreOp) (main : ℕ) → HasListOf (tables_by program facts) program core main
    → IsGrouped core main (count_of_file program facts) → CanBeReplayed core main
