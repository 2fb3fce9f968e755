use Rattle.fk_lockstep_tree.proofs.Run.{code_goes}
use Rattle.fk_lockstep_tree.proofs.laws.code_goes.Goals as goal

pub returns : goal.returns
returns c = code_goes
