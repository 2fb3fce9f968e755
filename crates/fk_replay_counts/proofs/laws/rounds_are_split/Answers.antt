use Rattle.fk_replay_counts.proofs.Singles as singles
use Rattle.fk_replay_counts.proofs.laws.rounds_are_split.Goals as goal

pub returns : goal.returns
returns g c = singles.rounds_are_split g.row.W.Denot
