use Rattle.fk_sim_runs.proofs.Ready.{reached_cycles_stay_ready}
use Rattle.fk_sim_runs.proofs.laws.reached_cycles_stay_ready.Goals as goal

pub returns : goal.returns
returns c = reached_cycles_stay_ready
