use Rattle.fk_check.proofs.Apart.{breaks_one_first}
use Rattle.fk_check.proofs.laws.breaks_one_first.Goals as goal

pub returns : goal.returns
returns c = breaks_one_first
