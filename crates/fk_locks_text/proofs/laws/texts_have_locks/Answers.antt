use Rattle.fk_locks_text.proofs.Locks as locks
use Rattle.fk_locks_text.proofs.laws.texts_have_locks.Goals as goal

pub returns : goal.returns
returns c = locks.texts_have_locks
