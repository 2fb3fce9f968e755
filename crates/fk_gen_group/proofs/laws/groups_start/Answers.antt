use Rattle.fk_gen_group.proofs.Starts.{groups_start}
use Rattle.fk_gen_group.proofs.laws.groups_start.Goals as goal

pub returns : goal.returns
returns c = groups_start
