-- The moments so far are passed.
use Rattle.fk_meaning_state.specs.View.{setting_of}
use Rattle.fk_replay_run.specs.Runs.{state_of}
use Rattle.fk_replay.proofs.Traces.{IsFollowing}
use Rattle.fk_replay.proofs.replay.follow.Given as goal

abbrev pub invariant-loop-moment : goal.invariant-loop-moment
invariant-loop-moment l = IsFollowing l.ops (setting_of l.fn.run.setting) (state_of l.fn.run) l.trace.harts l.trace.cycles l.trace.moments.items l.moment-index l.behind l.run
