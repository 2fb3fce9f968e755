use Rattle.fk_replay_counts.proofs.Singles as singles
use Rattle.fk_replay_counts.proofs.laws.schedules_are_single.Goals as goal

pub returns : goal.returns
returns g c = singles.schedules_are_single g.row.W.Denot
