use Rattle.fk_sim_match.proofs.Standing.{groups_end_together}
use Rattle.fk_sim_match.proofs.laws.groups_end_together.Goals as goal

pub returns : goal.returns
returns c = groups_end_together
