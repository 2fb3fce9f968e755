use Rattle.fk_sim_runs.proofs.Over.{reached_ranges_stay}
use Rattle.fk_sim_runs.proofs.laws.reached_ranges_stay.Goals as goal

pub returns : goal.returns
returns c = reached_ranges_stay
