use Rattle.fk_sim_match.proofs.Standing.{starters_set_out}
use Rattle.fk_sim_match.proofs.laws.starters_set_out.Goals as goal

pub returns : goal.returns
returns c = starters_set_out
