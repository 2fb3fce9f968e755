use Rattle.fk_sim_match.proofs.Standing.{groups_start_together}
use Rattle.fk_sim_match.proofs.laws.groups_start_together.Goals as goal

pub returns : goal.returns
returns c = groups_start_together
