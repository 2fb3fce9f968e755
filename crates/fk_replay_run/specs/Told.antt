-- Who could act, as a run in memory tells it.
use Rattle.std.specs.Prelude.{◌≡◌, ℕ, List, [], length}
use Rattle.fk_tree.specs.View.{processors}
use Rattle.fk_meaning_state.specs.View.{setting_of}
use Rattle.fk_core.specs.declared.op.CoreOp.{CoreOp}
use Rattle.fk_core.specs.Next.{next}
use Rattle.fk_replay_schedules.specs.Paced.{Begins}
use Rattle.fk_replay_able.specs.Known.{KnowsAble}
use Rattle.fk_replay_steps.specs.Pace.{since}
use Rattle.fk_replay_arrivals.specs.Arrived.{arrived_in, is_known}
use Rattle.fk_replay_run.specs.declared.run.Run.{Run}
use Rattle.fk_replay_run.specs.Runs.{state_of}

module _ (core : List CoreOp) where
  -- it is known who could act, but for what is changed by those who are still to come
  pub record KnowsAbout (run : Run) (coming : List ℕ) : Type 0 where
    pub pace : length run.pace ≡ processors run.tree
    pub arrived : length run.arrived.items ≡ processors run.tree
    pub able : KnowsAble (next core) (state_of run) coming (is_known run.pace)
        (arrived_in run.arrived.items)

  -- all those who could act before a round are told
  pub record HasTold (round : ℕ) (old new : Run) : Type 0 where
    pub kept : new ≡ record old { pace = new.pace; arrived = new.arrived }
    pub begins : Begins (next core) (setting_of old.setting) (state_of old) round
        (since old.pace) (since new.pace)
    pub knows : KnowsAbout new []
