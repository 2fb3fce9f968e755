use Rattle.fk_replay_able.proofs.Counted as counted
use Rattle.fk_replay_able.proofs.laws.rounds_know_able.Goals as goal

pub returns : goal.returns
returns g c = counted.rounds_know_able g.row.W.Denot g.row.X.Denot
