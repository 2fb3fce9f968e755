use Rattle.fk_lower_laws.proofs.Lists.{lowered_lists_can_have_groups}
use Rattle.fk_lower_laws.proofs.laws.lowered_lists_can_have_groups.Goals as goal

pub returns : goal.returns
returns c = lowered_lists_can_have_groups
