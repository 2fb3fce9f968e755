use Rattle.fk_sim_match.proofs.Standing.{meeters_set_out}
use Rattle.fk_sim_match.proofs.laws.meeters_set_out.Goals as goal

pub returns : goal.returns
returns c = meeters_set_out
