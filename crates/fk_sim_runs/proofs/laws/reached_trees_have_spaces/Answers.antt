use Rattle.fk_sim_runs.proofs.Trees.{reached_trees_have_spaces}
use Rattle.fk_sim_runs.proofs.laws.reached_trees_have_spaces.Goals as goal

pub returns : goal.returns
returns c = reached_trees_have_spaces
