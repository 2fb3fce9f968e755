-- Those so far have begun.
use Rattle.fk_meaning_state.specs.View.{setting_of}
use Rattle.fk_replay_phases.proofs.Begins.{BeginsAt}
use Rattle.fk_replay_phases.proofs.phases.begin_all.Given as goal

abbrev pub invariant-loop-member : goal.invariant-loop-member
invariant-loop-member l = BeginsAt l.ops (setting_of l.setting) l.counts l.acting l.fn.actors.items l.member-index l.actors.items
