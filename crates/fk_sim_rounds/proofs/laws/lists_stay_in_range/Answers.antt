use Rattle.fk_sim_rounds.proofs.Keeps.{lists_stay_in_range}
use Rattle.fk_sim_rounds.proofs.laws.lists_stay_in_range.Goals as goal

pub returns : goal.returns
returns c = lists_stay_in_range
