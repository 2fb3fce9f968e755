use Rattle.fk_compile.proofs.OneProgram.{texts_have_one_space}
use Rattle.fk_compile.proofs.laws.texts_have_one_space.Goals as goal

pub returns : goal.returns
returns c = texts_have_one_space c.texts_are_trim.ensures c.texts_are_proper.ensures
