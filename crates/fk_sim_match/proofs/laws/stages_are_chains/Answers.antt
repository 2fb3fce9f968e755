use Rattle.fk_sim_match.proofs.Stages as stages
use Rattle.fk_sim_match.proofs.laws.stages_are_chains.Goals as goal

pub returns : goal.returns
returns g c = stages.stages_are_chains g.row.S.Denot g.row.P.Denot g.row.D.Denot
