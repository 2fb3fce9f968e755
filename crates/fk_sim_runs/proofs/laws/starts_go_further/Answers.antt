use Rattle.fk_sim_runs.proofs.Runs.{starts_go_further}
use Rattle.fk_sim_runs.proofs.laws.starts_go_further.Goals as goal

pub returns : goal.returns
returns c = starts_go_further
