use Rattle.fk_sim_match.proofs.Pace.{who_is_near_acts}
use Rattle.fk_sim_match.proofs.laws.who_is_near_acts.Goals as goal

pub returns : goal.returns
returns c = who_is_near_acts
