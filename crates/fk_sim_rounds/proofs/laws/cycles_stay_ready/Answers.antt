use Rattle.fk_sim_rounds.proofs.RestInRuns.{cycles_stay_ready}
use Rattle.fk_sim_rounds.proofs.laws.cycles_stay_ready.Goals as goal

pub returns : goal.returns
returns c = cycles_stay_ready
