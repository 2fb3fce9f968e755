use Rattle.fk_sim_rounds.proofs.Follow.{cycles_follow_rounds}
use Rattle.fk_sim_rounds.proofs.laws.cycles_follow_rounds.Goals as goal

pub returns : goal.returns
returns c = cycles_follow_rounds
