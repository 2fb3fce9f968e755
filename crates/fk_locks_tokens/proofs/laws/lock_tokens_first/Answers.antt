use Rattle.fk_locks_tokens.proofs.Scanned as scanned
use Rattle.fk_locks_tokens.proofs.laws.lock_tokens_first.Goals as goal

pub returns : goal.returns
returns c = scanned.lock_tokens_first
