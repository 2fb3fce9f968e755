use Rattle.fk_gen_list.proofs.Groups.{lists_have_the_law}
use Rattle.fk_gen_list.proofs.laws.lists_have_the_law.Goals as goal

pub returns : goal.returns
returns c = lists_have_the_law
