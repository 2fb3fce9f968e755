use Rattle.fk_locks_tree.proofs.Items as items
use Rattle.fk_locks_tree.proofs.laws.lock_items_first.Goals as goal

pub returns : goal.returns
returns c = items.lock_items_first
