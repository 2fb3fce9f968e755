use Rattle.fk_sim_match.proofs.Cycles as cycles
use Rattle.fk_sim_match.proofs.laws.cycles_are_planned.Goals as goal

pub returns : goal.returns
returns g c = cycles.cycles_are_planned g.row.S.Denot g.row.P.Denot g.row.D.Denot
