-- A run without a fault is finished if all processors have ended.
use Rattle.std.proofs.Common.{Bool, sym, ap, ◌∙◌, if◌then◌else◌}
use Rattle.fk_meaning.specs.Schedule.{SourceStand, SourceRunning, SourceFinished}
use Rattle.fk_replay.proofs.end.end_of.Goals as goal

abbrev stand_if : Bool → SourceStand
stand_if done = if done then SourceFinished else SourceRunning

pub returns-in-None : goal.returns-in-None
returns-in-None c = λ setting. rw c.in-None.is (ap stand_if (sym c.if-have_ended.true ∙ c.have_ended.ensures setting))

pub returns-in-None-2 : goal.returns-in-None-2
returns-in-None-2 c = λ setting. rw c.in-None-2.is (ap stand_if (sym c.if-have_ended.false ∙ c.have_ended.ensures setting))
