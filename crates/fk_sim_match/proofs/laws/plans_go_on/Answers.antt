use Rattle.fk_sim_match.proofs.Changes as changes
use Rattle.fk_sim_match.proofs.laws.plans_go_on.Goals as goal

pub returns : goal.returns
returns g c = changes.plans_go_on g.row.S.Denot g.row.P.Denot g.row.D.Denot
