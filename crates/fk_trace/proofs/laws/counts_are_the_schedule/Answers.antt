use Rattle.fk_trace.proofs.Schedules.{counts_are}
use Rattle.fk_trace.proofs.laws.counts_are_the_schedule.Goals as goal

pub returns : goal.returns
returns c = counts_are
