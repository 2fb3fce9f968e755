use Rattle.fk_sim_rounds.proofs.Homes.{homes_stay}
use Rattle.fk_sim_rounds.proofs.laws.homes_stay.Goals as goal

pub returns : goal.returns
returns c = homes_stay
