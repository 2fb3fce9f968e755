use Rattle.fk_lockstep_nodes.proofs.Nodes as nodes
use Rattle.fk_lockstep_nodes.proofs.laws.rounds_step_nodes.Goals as goal

pub returns : goal.returns
returns g c = nodes.rounds_step_nodes g.row.W.Denot
