use Rattle.fk_lockstep_structure.proofs.Main.{code_follows}
use Rattle.fk_lockstep_structure.proofs.laws.code_follows.Goals as goal

pub returns : goal.returns
returns c = code_follows
