use Rattle.fk_replay_rounds.proofs.Joints.{taken_stay}
use Rattle.fk_replay_rounds.proofs.laws.taken_joints_stay.Goals as goal

pub returns : goal.returns
returns g c = taken_stay g.row.W.Denot
