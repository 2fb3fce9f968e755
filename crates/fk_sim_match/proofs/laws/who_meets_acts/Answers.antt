use Rattle.fk_sim_match.proofs.Pace.{who_meets_acts}
use Rattle.fk_sim_match.proofs.laws.who_meets_acts.Goals as goal

pub returns : goal.returns
returns c = who_meets_acts
