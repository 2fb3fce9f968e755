use Rattle.fk_sim_runs.proofs.Reached.{runs_reach}
use Rattle.fk_sim_runs.proofs.laws.runs_reach.Goals as goal

pub returns : goal.returns
returns c = runs_reach c.lists_stay_in_range.ensures
