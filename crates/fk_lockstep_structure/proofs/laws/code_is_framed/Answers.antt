use Rattle.fk_lockstep_structure.proofs.Whole.{code_is_framed}
use Rattle.fk_lockstep_structure.proofs.laws.code_is_framed.Goals as goal

pub returns : goal.returns
returns c = code_is_framed
