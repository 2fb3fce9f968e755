-- Those so far are at the beginning.
use Rattle.fk_meaning_state.specs.View.{setting_of}
use Rattle.fk_replay_run.specs.Openings.{AreFirst}
use Rattle.fk_replay_run.proofs.run.first_actors.Given as goal

abbrev pub invariant-loop-number : goal.invariant-loop-number
invariant-loop-number l = AreFirst (setting_of l.setting) l.main l.firsts l.number l.actors.items
