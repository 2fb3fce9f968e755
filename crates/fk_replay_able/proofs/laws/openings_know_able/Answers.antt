use Rattle.fk_replay_able.proofs.Arrivals as arrivals
use Rattle.fk_replay_able.proofs.laws.openings_know_able.Goals as goal

pub returns : goal.returns
returns g c = arrivals.openings_know_able g.row.W.Denot g.row.X.Denot
