use Rattle.fk_replay_source.proofs.Accepted.{traces_are_accepted}
use Rattle.fk_replay_source.proofs.laws.traces_are_accepted.Goals as goal

pub returns : goal.returns
returns c = traces_are_accepted
