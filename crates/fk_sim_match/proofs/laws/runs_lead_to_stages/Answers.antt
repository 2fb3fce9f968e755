use Rattle.fk_sim_match.proofs.Changes as changes
use Rattle.fk_sim_match.proofs.laws.runs_lead_to_stages.Goals as goal

pub returns : goal.returns
returns g c = changes.runs_lead_to_stages g.row.S.Denot g.row.P.Denot g.row.D.Denot
