use Rattle.fk_sim_match.proofs.Standing.{groups_divide_together}
use Rattle.fk_sim_match.proofs.laws.groups_divide_together.Goals as goal

pub returns : goal.returns
returns c = groups_divide_together
