use Rattle.fk_sim_rounds.proofs.RestInRuns.{openings_are_ready}
use Rattle.fk_sim_rounds.proofs.laws.openings_are_ready.Goals as goal

pub returns : goal.returns
returns c = openings_are_ready
