use Rattle.fk_lower_laws.proofs.Apart.{flat_lists_are_apart}
use Rattle.fk_lower_laws.proofs.laws.flat_lists_are_apart.Goals as goal

pub returns : goal.returns
returns c = flat_lists_are_apart
