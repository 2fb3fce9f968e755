use Rattle.fk_sim_runs.proofs.Able.{who_has_united_will}
use Rattle.fk_sim_runs.proofs.laws.who_has_united_will.Goals as goal

pub returns : goal.returns
returns c = who_has_united_will
