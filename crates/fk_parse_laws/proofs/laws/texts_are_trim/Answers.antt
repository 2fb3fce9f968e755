use Rattle.fk_parse_laws.proofs.TrimPrograms.{texts_are_trim}
use Rattle.fk_parse_laws.proofs.laws.texts_are_trim.Goals as goal

pub returns : goal.returns
returns c = texts_are_trim
