use Rattle.fk_sim_runs.proofs.Whole.{machines_follow_trees}
use Rattle.fk_sim_runs.proofs.laws.machines_follow_trees.Goals as goal

pub returns : goal.returns
returns c = machines_follow_trees c.runs_reach.ensures c.runs_reach_rounds.ensures
