use Rattle.fk_gen_list.proofs.WholeGroups.{code_has_the_law}
use Rattle.fk_gen_list.proofs.laws.code_has_the_law.Goals as goal

pub returns : goal.returns
returns c = code_has_the_law
