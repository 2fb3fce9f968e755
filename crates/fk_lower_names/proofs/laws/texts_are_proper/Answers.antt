use Rattle.fk_lower_names.proofs.Proper.{texts_are_proper}
use Rattle.fk_lower_names.proofs.laws.texts_are_proper.Goals as goal

pub returns : goal.returns
returns c = texts_are_proper
