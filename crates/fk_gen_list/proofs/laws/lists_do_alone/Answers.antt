use Rattle.fk_gen_list.proofs.Law.{lists_do_alone}
use Rattle.fk_gen_list.proofs.laws.lists_do_alone.Goals as goal

pub returns : goal.returns
returns c = lists_do_alone
