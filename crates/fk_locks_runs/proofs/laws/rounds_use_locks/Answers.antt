use Rattle.fk_locks_runs.proofs.Rounds as rounds
use Rattle.fk_locks_runs.proofs.laws.rounds_use_locks.Goals as goal

pub returns : goal.returns
returns g c = rounds.rounds_use_locks g.row.W.Denot
