use Rattle.fk_sim_match.proofs.Standing.{groups_shrink_together}
use Rattle.fk_sim_match.proofs.laws.groups_shrink_together.Goals as goal

pub returns : goal.returns
returns c = groups_shrink_together
