use Rattle.fk_sim_nodes.proofs.Runs.{node_runs_join}
use Rattle.fk_sim_nodes.proofs.laws.node_runs_join.Goals as goal

pub returns : goal.returns
returns c = node_runs_join
