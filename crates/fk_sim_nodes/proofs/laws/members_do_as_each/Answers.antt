use Rattle.fk_sim_nodes.proofs.OneHart as one
use Rattle.fk_sim_nodes.proofs.laws.members_do_as_each.Goals as goal

pub returns : goal.returns
returns g c = one.members_do_as_each g.row.S.Denot g.row.P.Denot g.row.D.Denot
