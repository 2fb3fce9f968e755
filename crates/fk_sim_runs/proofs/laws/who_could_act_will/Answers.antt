use Rattle.fk_sim_runs.proofs.Able.{who_could_act_will}
use Rattle.fk_sim_runs.proofs.laws.who_could_act_will.Goals as goal

pub returns : goal.returns
returns c = who_could_act_will
