use Rattle.fk_compile.proofs.Aims.{straight_has_no_target}
use Rattle.fk_compile.proofs.laws.straight_has_no_target.Goals as goal

pub returns : goal.returns
returns c = straight_has_no_target
