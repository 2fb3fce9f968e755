use Rattle.fk_core.proofs.KeepsRuns.{flat_lists_keep_runs}
use Rattle.fk_core.proofs.laws.flat_lists_keep_runs.Goals as goal

pub returns : goal.returns
returns c = flat_lists_keep_runs
