-- A run in memory before its first round.
use Rattle.std.specs.Prelude.{◌≡◌, ℕ, ◌≤◌, List, [], None, Some, length, replicate}
use Rattle.std.specs.Prelude.{slice_get, slice_index}
use Rattle.fk_tree.specs.View.{tree_of, processors}
use Rattle.fk_meaning_state.specs.View.{setting_of}
use Rattle.fk_meaning.specs.Processor.{Setting}
use Rattle.fk_meaning.specs.Processor as processor
use Rattle.fk_meaning.specs.Processor as processor
use Rattle.fk_meaning.specs.Processor as processor
use Rattle.fk_meaning.specs.Processor as processor
use Rattle.fk_meaning.specs.Schedule.{first_processor}
use Rattle.fk_core.specs.Next.{position, list_opening}
use Rattle.fk_replay_rounds.specs.declared.mode.Mode.TheVariants.{Apart}
use Rattle.fk_replay_phases.specs.declared.actor.Actor.{Actor}
use Rattle.fk_replay_steps.specs.Steps.{runner_of}
use Rattle.fk_replay_run.specs.declared.run.Run.{Run}
use Rattle.fk_replay_run.specs.Arrivals.{NoneArrived}
use Rattle.fk_replay_run.specs.Runs.{IsRun, state_of}

module _ (set : Setting) (main : ℕ) (firsts : List ℕ) where
  -- a processor at the beginning of `main`
  pub record IsFirst (number : ℕ) (actor : Actor) : Type 0 where
    pub left : (runner_of actor.runner).left ≡ position main []
    pub has : (runner_of actor.runner).has ≡ first_processor set (slice_index firsts) number
    pub mode : actor.mode ≡ Apart
    pub free : actor.taken ≡ None

  -- all processors are there, in the order of their numbers
  pub record AreFirst (count : ℕ) (actors : List Actor) : Type 0 where
    pub many : length actors ≡ count
    pub each : (h : ℕ) (actor : Actor) → slice_get actors h ≡ Some actor → IsFirst h actor

pub record IsOpening (main : ℕ) (words firsts input : List ℕ) (p : ℕ) (r : Run) : Type 0 where
  pub run : IsRun r
  pub tree : processors r.tree ≡ p
  pub setting : setting_of r.setting ≡ processor.setting_of p words input
  pub state : state_of r ≡ list_opening main words firsts input p
  pub given : (tree_of r.tree).given ≤ 1
  pub pace : r.pace ≡ replicate p None
  pub arrived : NoneArrived p r.arrived.items
