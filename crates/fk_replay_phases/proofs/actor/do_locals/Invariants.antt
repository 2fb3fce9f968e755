-- So many operations are left.
use Rattle.std.proofs.Common.{◌-◌}
use Rattle.fk_meaning_state.specs.View.{setting_of}
use Rattle.fk_replay_phases.proofs.Begins.{DoesLocals}
use Rattle.fk_replay_phases.proofs.actor.do_locals.Given as goal

abbrev pub invariant-loop-done : goal.invariant-loop-done
invariant-loop-done l = DoesLocals l.ops (setting_of l.setting) l.count (l.count - l.done) l.fn.runner l.runner
