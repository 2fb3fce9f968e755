use Rattle.fk_sim_runs.proofs.Begins.{reached_beginners_land_at_one_index}
use Rattle.fk_sim_runs.proofs.laws.reached_beginners_land_at_one_index.Goals as goal

pub returns : goal.returns
returns c = reached_beginners_land_at_one_index
