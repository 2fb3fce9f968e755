use Rattle.fk_sim_nodes.proofs.Members as members
use Rattle.fk_sim_nodes.proofs.laws.members_rest_on_own_words.Goals as goal

pub returns : goal.returns
returns g c = members.members_rest_on_own_words g.row.S.Denot g.row.P.Denot g.row.D.Denot
