use Rattle.fk_locks.proofs.Texts.{texts_exclude}
use Rattle.fk_locks.proofs.laws.one_inside.Goals as goal

pub returns : goal.returns
returns c = texts_exclude c.texts_have_locks.ensures c.texts_are_correct.ensures c.programs_exclude.ensures c.correct_programs_fit.ensures c.texts_are_trim.ensures
