use Rattle.fk_core_flat.proofs.Programs.{forms_are_shaped}
use Rattle.fk_core_flat.proofs.laws.forms_are_shaped.Goals as goal

pub returns : goal.returns
returns c = forms_are_shaped
