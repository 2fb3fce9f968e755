use Rattle.fk_lockstep.proofs.Keep.{groups_stay_together}
use Rattle.fk_lockstep.proofs.laws.groups_stay_together.Goals as goal

pub returns : goal.returns
returns c = groups_stay_together
