-- The control words of the group to come, in runs of lists whose groups split: they are 0
-- when it begins.
use Rattle.std.specs.Prelude.{◌≡◌, ℕ, ◌^◌, ◌<◌, List, length, true}
use Rattle.fk_num.specs.Word.{Memory}
use Rattle.fk_space.specs.Space.{Space}
use Rattle.fk_tree.specs.Tree.{Tree}
use Rattle.fk_meaning.specs.Processor.{Setting, group_space}
use Rattle.fk_meaning.specs.Round.{State, result, is_possible}
use Rattle.fk_core.specs.declared.op.CoreOp.{CoreOp}
use Rattle.fk_core.specs.Next.{Position, next}
use Rattle.fk_image.specs.declared.Image.{Image}
use Rattle.fk_machine.specs.Cycle.{Machine, is_running, cycle}
use Rattle.fk_sim_match.specs.Stage.{Stage, counts_for}
use Rattle.fk_sim_block.specs.Stands.{Places}
use Rattle.fk_sim_block.specs.Node.{Nestings, IsAtRest}
use Rattle.fk_sim_block.specs.Law.{Cycles, GroupLaw}
use Rattle.fk_sim_match.specs.Nodes.{first_of}
use Rattle.fk_sim_rounds.specs.Next.{HasRange}
use Rattle.fk_sim_rounds.specs.Machines.{GoesWith, GoesToStart}
use Rattle.fk_sim_rounds.specs.RestInRuns.{IsReadyForGroup}
use Rattle.fk_sim_runs.specs.Lists.{IsOfTree}
use Rattle.fk_sim_runs.specs.Reached.{IsReached}
use Rattle.fk_sim_runs.specs.Facts.{HasSpace, ranges_over}

-- A tree without a group is ready for one, at the beginning of the group space.
abbrev pub IsReady : Setting → Tree → (control : Memory) → Type 0
IsReady setting tree control = IsReadyForGroup tree (group_space setting).low control

-- A cycle of a machine that follows a state leaves the tree ready.
abbrev pub ReachedCyclesStayReady : Type 0
ReachedCyclesStayReady =
    (core : List CoreOp) (image : Image) (places : Places) (nestings : Nestings) (cycles : Cycles)
    (firsts : List ℕ) (main : ℕ) (setting : Setting)
    (s : State Position) (nodes : List ℕ) (printed : List ℕ) (stages : List Stage) (m : Machine)
    → let behind = result (next core) setting (counts_for stages) s in
    let spaces = ranges_over setting s behind in
    GroupLaw core image places nestings cycles firsts main → IsOfTree core nestings main
    → IsReached core nestings setting s → HasSpace setting
    → length m.harts < 2 ^ 31 → is_running m.stand ≡ true
    → GoesWith core image places nestings setting spaces s nodes printed stages m
    → is_possible (next core) setting (counts_for stages) s ≡ true
    → IsReady setting s.tree m.shared.control
    → IsReady setting behind.tree (cycle m).shared.control

-- The next group of a tree has all of the group space, and nobody is at its words.
pub record FindsHeader (setting : Setting) (tree : Tree) (spaces : ℕ → Space)
    (control : Memory) : Type 0 where
  pub rest : IsAtRest (first_of spaces tree.given) control
  pub range : HasRange (spaces tree.given) (group_space setting)

-- After each cycle, from the one in which all have met at the beginning of `start`, the next group
-- has all of the group space, and nobody is at its words.
abbrev pub ReachedStartsFindHeaders : Type 0
ReachedStartsFindHeaders =
    (core : List CoreOp) (image : Image) (places : Places) (nestings : Nestings) (main : ℕ)
    (setting : Setting)
    (s : State Position) (nodes : List ℕ) (printed : List ℕ) (stages : List Stage) (m : Machine)
    → let behind = result (next core) setting (counts_for stages) s in
    let spaces = ranges_over setting s behind in
    IsOfTree core nestings main → IsReached core nestings setting s
    → IsReached core nestings setting behind
    → HasSpace setting → length m.harts < 2 ^ 31 → is_running m.stand ≡ true
    → GoesToStart core image places nestings setting spaces s nodes printed stages m
    → is_possible (next core) setting (counts_for stages) s ≡ true
    → IsReady setting s.tree m.shared.control
    → FindsHeader setting s.tree spaces (cycle m).shared.control
    × IsReady setting behind.tree (cycle m).shared.control
