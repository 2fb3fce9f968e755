use Rattle.fk_sim_nodes.proofs.Members as members
use Rattle.fk_sim_nodes.proofs.laws.lowest_faults_for_all.Goals as goal

pub returns : goal.returns
returns g c = members.lowest_faults_for_all g.row.S.Denot g.row.P.Denot g.row.D.Denot
