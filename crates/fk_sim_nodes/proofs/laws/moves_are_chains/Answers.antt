use Rattle.fk_sim_nodes.proofs.Members as members
use Rattle.fk_sim_nodes.proofs.laws.moves_are_chains.Goals as goal

pub returns : goal.returns
returns g c = members.moves_are_chains g.row.S.Denot g.row.P.Denot g.row.D.Denot
