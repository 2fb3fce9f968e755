use Rattle.fk_gen_group.proofs.Agree.{groups_agree}
use Rattle.fk_gen_group.proofs.laws.groups_agree.Goals as goal

pub returns : goal.returns
returns c = groups_agree
