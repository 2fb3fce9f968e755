use Rattle.fk_sim_match.proofs.Left as left
use Rattle.fk_sim_match.proofs.laws.cycles_leave.Goals as goal

pub returns : goal.returns
returns g c = left.cycles_leave g.row.S.Denot g.row.P.Denot g.row.D.Denot
