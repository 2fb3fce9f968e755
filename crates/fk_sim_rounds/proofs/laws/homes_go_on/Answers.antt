use Rattle.fk_sim_rounds.proofs.Homes.{homes_go_on}
use Rattle.fk_sim_rounds.proofs.laws.homes_go_on.Goals as goal

pub returns : goal.returns
returns c = homes_go_on
