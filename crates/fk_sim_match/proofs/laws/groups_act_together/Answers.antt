use Rattle.fk_sim_match.proofs.Standing.{groups_act_together}
use Rattle.fk_sim_match.proofs.laws.groups_act_together.Goals as goal

pub returns : goal.returns
returns c = groups_act_together
