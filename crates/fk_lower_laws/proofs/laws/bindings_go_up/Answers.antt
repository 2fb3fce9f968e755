use Rattle.fk_lower_laws.proofs.Bindings.{bindings_go_up}
use Rattle.fk_lower_laws.proofs.laws.bindings_go_up.Goals as goal

pub returns : goal.returns
returns c = bindings_go_up
