use Rattle.fk_lockstep.proofs.Steps.{stays_in_step}
use Rattle.fk_lockstep.proofs.laws.stays_in_step.Goals as goal

pub returns : goal.returns
returns c = stays_in_step
