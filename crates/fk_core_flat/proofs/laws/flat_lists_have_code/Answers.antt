use Rattle.fk_core_flat.proofs.FlatCode.{flat_lists_have_code}
use Rattle.fk_core_flat.proofs.laws.flat_lists_have_code.Goals as goal

pub returns : goal.returns
returns c = flat_lists_have_code
