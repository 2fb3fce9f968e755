use Rattle.fk_gen_group.proofs.Farms.{groups_set_free}
use Rattle.fk_gen_group.proofs.laws.groups_set_free.Goals as goal

pub returns : goal.returns
returns c = groups_set_free
