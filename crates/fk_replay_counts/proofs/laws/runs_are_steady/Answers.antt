use Rattle.fk_replay_counts.proofs.Steady as steady
use Rattle.fk_replay_counts.proofs.laws.runs_are_steady.Goals as goal

pub returns : goal.returns
returns g c = steady.runs_are_steady g.row.W.Denot g.row.X.Denot
