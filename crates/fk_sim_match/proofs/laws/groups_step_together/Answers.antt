use Rattle.fk_sim_match.proofs.Standing.{groups_step_together}
use Rattle.fk_sim_match.proofs.laws.groups_step_together.Goals as goal

pub returns : goal.returns
returns c = groups_step_together
