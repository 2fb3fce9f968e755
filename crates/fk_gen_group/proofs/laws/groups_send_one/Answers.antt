use Rattle.fk_gen_group.proofs.Seqs.{groups_send_one}
use Rattle.fk_gen_group.proofs.laws.groups_send_one.Goals as goal

pub returns : goal.returns
returns c = groups_send_one
