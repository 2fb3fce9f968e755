use Rattle.fk_locks_runs.proofs.Rounds as rounds
use Rattle.fk_locks_runs.proofs.laws.runs_exclude.Goals as goal

pub returns : goal.returns
returns g c = rounds.runs_exclude g.row.W.Denot
