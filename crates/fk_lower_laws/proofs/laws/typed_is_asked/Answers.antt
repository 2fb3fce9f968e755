use Rattle.fk_lower_laws.proofs.Typing.{typed_is_asked}
use Rattle.fk_lower_laws.proofs.laws.typed_is_asked.Goals as goal

pub returns : goal.returns
returns c = typed_is_asked
