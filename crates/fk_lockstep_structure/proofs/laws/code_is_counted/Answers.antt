use Rattle.fk_lockstep_structure.proofs.Pending.{code_is_counted}
use Rattle.fk_lockstep_structure.proofs.laws.code_is_counted.Goals as goal

pub returns : goal.returns
returns c = code_is_counted
