use Rattle.fk_replay_able.proofs.Arrivals as arrivals
use Rattle.fk_replay_able.proofs.laws.arrivals_know_able.Goals as goal

pub returns : goal.returns
returns g c = arrivals.arrivals_know_able g.row.W.Denot g.row.X.Denot
