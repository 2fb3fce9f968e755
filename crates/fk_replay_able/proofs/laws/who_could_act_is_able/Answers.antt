use Rattle.fk_replay_able.proofs.Able as able
use Rattle.fk_replay_able.proofs.laws.who_could_act_is_able.Goals as goal

pub returns : goal.returns
returns g c = able.who_could_act_is_able g.row.W.Denot g.row.X.Denot
