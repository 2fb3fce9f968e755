use Rattle.fk_replay_schedules.proofs.Moments.{traces_have_moments}
use Rattle.fk_replay_schedules.proofs.laws.traces_have_moments.Goals as goal

pub returns : goal.returns
returns c = traces_have_moments
