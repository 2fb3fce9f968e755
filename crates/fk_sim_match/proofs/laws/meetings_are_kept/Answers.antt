use Rattle.fk_sim_match.proofs.Left as left
use Rattle.fk_sim_match.proofs.laws.meetings_are_kept.Goals as goal

pub returns : goal.returns
returns g c = left.meetings_are_kept g.row.S.Denot g.row.P.Denot g.row.D.Denot
