use Rattle.fk_gen_group.proofs.Divides.{groups_divide}
use Rattle.fk_gen_group.proofs.laws.groups_divide.Goals as goal

pub returns : goal.returns
returns c = groups_divide
