use Rattle.fk_lockstep.proofs.AnyForm as any
use Rattle.fk_lockstep.proofs.laws.forms_go_on.Goals as goal

pub returns : goal.returns
returns g c = any.forms_go_on g.row.W.Denot
