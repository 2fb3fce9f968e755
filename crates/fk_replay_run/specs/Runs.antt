-- A run in memory.
use Rattle.std.specs.Prelude.{◌≡◌, ◌≤◌, None, vec_len}
use Rattle.fk_tree.specs.View.{tree_of, processors}
use Rattle.fk_meaning_store.specs.View.{store_of, processors_of}
use Rattle.fk_meaning.specs.Round.{State}
use Rattle.fk_core.specs.Next.{Position}
use Rattle.fk_replay_rounds.specs.Own.{AreOwn}
use Rattle.fk_replay_phases.specs.Present.{AreNone}
use Rattle.fk_replay_phases.specs.Actors.{HaveNone, runners_of}
use Rattle.fk_replay_phases.specs.Modes.{HaveModes}
use Rattle.fk_replay_run.specs.declared.run.Run.{Run}

-- the state that a run holds, which hasn't faulted
abbrev pub state_of : Run → State Position
state_of run = record {
  store = store_of run.store;
  tree = tree_of run.tree;
  runners = runners_of run.actors.items;
  fault = None;
}

-- nobody is in a round, and all parts have the same processors
pub record IsRun (run : Run) : Type 0 where
  pub few : processors run.tree ≤ 1024
  pub setting : run.setting.processors ≡ processors run.tree
  pub store : processors_of run.store ≡ processors run.tree
  pub actors : vec_len run.actors ≡ processors run.tree
  pub counts : AreNone (processors run.tree) run.counts.items
  pub free : HaveNone run.actors.items
  pub modes : HaveModes (tree_of run.tree) run.actors.items
  pub own : AreOwn (runners_of run.actors.items)
