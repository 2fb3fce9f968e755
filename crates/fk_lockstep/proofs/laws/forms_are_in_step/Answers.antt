use Rattle.fk_lockstep.proofs.Statements.{forms_are_in_step}
use Rattle.fk_lockstep.proofs.laws.forms_are_in_step.Goals as goal

pub returns : goal.returns
returns c = forms_are_in_step
