use Rattle.fk_sim_runs.proofs.ReachedRuns.{runs_reach_rounds}
use Rattle.fk_sim_runs.proofs.laws.runs_reach_rounds.Goals as goal

pub returns : goal.returns
returns c = runs_reach_rounds c.runs_reach.ensures
