use Rattle.fk_compile.proofs.GroupSteps.{texts_act_as_one}
use Rattle.fk_compile.proofs.laws.texts_act_as_one.Goals as goal

pub returns : goal.returns
returns c = texts_act_as_one c.texts_are_trim.ensures c.texts_are_proper.ensures
