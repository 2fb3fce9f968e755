use Rattle.fk_sim_match.proofs.Nodes.{nodes_own_apart}
use Rattle.fk_sim_match.proofs.laws.nodes_own_apart.Goals as goal

pub returns : goal.returns
returns c = nodes_own_apart
