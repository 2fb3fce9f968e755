use Rattle.fk_check.proofs.Apart.{keeps_or_breaks}
use Rattle.fk_check.proofs.laws.keeps_or_breaks.Goals as goal

pub returns : goal.returns
returns c = keeps_or_breaks
