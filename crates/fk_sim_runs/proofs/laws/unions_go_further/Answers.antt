use Rattle.fk_sim_runs.proofs.Runs.{unions_go_further}
use Rattle.fk_sim_runs.proofs.laws.unions_go_further.Goals as goal

pub returns : goal.returns
returns c = unions_go_further
