use Rattle.fk_parse_laws.proofs.Levels.{texts_are_shallow}
use Rattle.fk_parse_laws.proofs.laws.texts_are_shallow.Goals as goal

pub returns : goal.returns
returns c = texts_are_shallow
