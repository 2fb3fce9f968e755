use Rattle.fk_sim_runs.proofs.Runs.{orderly_rounds_go_further}
use Rattle.fk_sim_runs.proofs.laws.orderly_rounds_go_further.Goals as goal

pub returns : goal.returns
returns c = orderly_rounds_go_further
