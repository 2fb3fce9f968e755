use Rattle.fk_sim_rounds.proofs.RestInRuns.{starts_stay_ready}
use Rattle.fk_sim_rounds.proofs.laws.starts_stay_ready.Goals as goal

pub returns : goal.returns
returns c = starts_stay_ready
