use Rattle.fk_core_flat.proofs.Programs.{functions_are_closed}
use Rattle.fk_core_flat.proofs.laws.functions_are_closed.Goals as goal

pub returns : goal.returns
returns c = functions_are_closed
