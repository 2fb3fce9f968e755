use Rattle.fk_lockstep.proofs.AnyForm.{entries_go_as_code}
use Rattle.fk_lockstep.proofs.laws.entries_go_as_code.Goals as goal

pub returns : goal.returns
returns c = entries_go_as_code
