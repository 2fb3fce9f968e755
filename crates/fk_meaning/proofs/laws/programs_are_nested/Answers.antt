use Rattle.fk_meaning.proofs.NestedPrograms.{programs_are_nested}
use Rattle.fk_meaning.proofs.laws.programs_are_nested.Goals as goal

pub returns : goal.returns
returns c = programs_are_nested
