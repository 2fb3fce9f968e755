use Rattle.fk_sim_runs.proofs.Known.{reached_rounds_are_known}
use Rattle.fk_sim_runs.proofs.laws.reached_rounds_are_known.Goals as goal

pub returns : goal.returns
returns c = reached_rounds_are_known
