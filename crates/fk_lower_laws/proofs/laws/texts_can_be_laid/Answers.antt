use Rattle.fk_lower_laws.proofs.Laid.{texts_can_be_laid}
use Rattle.fk_lower_laws.proofs.laws.texts_can_be_laid.Goals as goal

pub returns : goal.returns
returns c = texts_can_be_laid
