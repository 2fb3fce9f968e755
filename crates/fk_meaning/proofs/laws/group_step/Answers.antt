use Rattle.fk_meaning.proofs.GroupSteps as steps
use Rattle.fk_meaning.proofs.laws.group_step.Goals as goal

pub returns : goal.returns
returns g c = steps.group_step g.row.W.Denot
