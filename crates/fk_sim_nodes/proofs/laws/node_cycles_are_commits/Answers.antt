use Rattle.fk_sim_nodes.proofs.Members as members
use Rattle.fk_sim_nodes.proofs.laws.node_cycles_are_commits.Goals as goal

pub returns : goal.returns
returns g c = members.node_cycles_are_commits g.row.S.Denot g.row.P.Denot g.row.D.Denot
