use Rattle.fk_replay_rounds.proofs.Joints.{whole_fit}
use Rattle.fk_replay_rounds.proofs.laws.whole_rounds_fit.Goals as goal

pub returns : goal.returns
returns c = whole_fit
