use Rattle.fk_sim_runs.proofs.ReachedStages.{reached_stages_go_on}
use Rattle.fk_sim_runs.proofs.laws.reached_stages_go_on.Goals as goal

pub returns : goal.returns
returns c = reached_stages_go_on
