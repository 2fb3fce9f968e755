use Rattle.fk_replay_rounds.proofs.Fitting.{tell}
use Rattle.fk_replay_rounds.proofs.laws.lowest_members_tell.Goals as goal

pub returns : goal.returns
returns c = tell
