use Rattle.fk_sim_match.proofs.Meeters.{meeters_turn}
use Rattle.fk_sim_match.proofs.laws.meeters_turn.Goals as goal

pub returns : goal.returns
returns c = meeters_turn
