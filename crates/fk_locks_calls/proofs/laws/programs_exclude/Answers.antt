use Rattle.fk_locks_calls.proofs.Runs as runs
use Rattle.fk_locks_calls.proofs.laws.programs_exclude.Goals as goal

pub returns : goal.returns
returns c = runs.programs_exclude
