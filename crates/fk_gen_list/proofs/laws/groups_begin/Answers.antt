use Rattle.fk_gen_list.proofs.Opening.{groups_begin}
use Rattle.fk_gen_list.proofs.laws.groups_begin.Goals as goal

pub returns : goal.returns
returns c = groups_begin
