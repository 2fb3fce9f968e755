use Rattle.fk_sim_runs.proofs.Behind.{reached_rounds_go_on}
use Rattle.fk_sim_runs.proofs.laws.reached_rounds_go_on.Goals as goal

pub returns : goal.returns
returns c = reached_rounds_go_on
