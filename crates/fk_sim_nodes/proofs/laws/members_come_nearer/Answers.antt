use Rattle.fk_sim_nodes.proofs.Members as members
use Rattle.fk_sim_nodes.proofs.laws.members_come_nearer.Goals as goal

pub returns : goal.returns
returns g c = members.members_come_nearer g.row.S.Denot g.row.P.Denot g.row.D.Denot
