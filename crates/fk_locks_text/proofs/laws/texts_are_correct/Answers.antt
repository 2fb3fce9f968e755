use Rattle.fk_locks_text.proofs.Correct as correct
use Rattle.fk_locks_text.proofs.laws.texts_are_correct.Goals as goal

pub returns : goal.returns
returns c = correct.texts_are_correct
