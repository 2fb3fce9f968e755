use Rattle.fk_lower_laws.proofs.TypedPrograms.{forms_are_typed}
use Rattle.fk_lower_laws.proofs.laws.forms_are_typed.Goals as goal

pub returns : goal.returns
returns c = forms_are_typed
