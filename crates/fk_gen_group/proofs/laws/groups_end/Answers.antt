use Rattle.fk_gen_group.proofs.Ends.{groups_end}
use Rattle.fk_gen_group.proofs.laws.groups_end.Goals as goal

pub returns : goal.returns
returns c = groups_end
