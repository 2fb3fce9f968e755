use Rattle.fk_sim_runs.proofs.Turning as turning
use Rattle.fk_sim_runs.proofs.laws.plans_turn.Goals as goal

pub returns : goal.returns
returns g c = turning.plans_turn g.row.S.Denot g.row.P.Denot g.row.D.Denot
