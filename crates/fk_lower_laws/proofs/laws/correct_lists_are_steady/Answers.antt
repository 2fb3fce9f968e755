use Rattle.fk_lower_laws.proofs.Lists.{correct_lists_are_steady}
use Rattle.fk_lower_laws.proofs.laws.correct_lists_are_steady.Goals as goal

pub returns : goal.returns
returns c = correct_lists_are_steady
