use Rattle.fk_lower_laws.proofs.Firsts.{firsts_are_few}
use Rattle.fk_lower_laws.proofs.laws.firsts_are_few.Goals as goal

pub returns : goal.returns
returns c = firsts_are_few
