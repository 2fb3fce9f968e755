use Rattle.fk_sim_nodes.proofs.Runs.{private_runs_are_node_runs}
use Rattle.fk_sim_nodes.proofs.laws.private_runs_are_node_runs.Goals as goal

pub returns : goal.returns
returns c = private_runs_are_node_runs
