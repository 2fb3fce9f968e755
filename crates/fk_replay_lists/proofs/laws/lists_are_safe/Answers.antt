use Rattle.fk_replay_lists.proofs.Safe as safe
use Rattle.fk_replay_lists.proofs.laws.lists_are_safe.Goals as goal

pub returns : goal.returns
returns c = safe.lists_are_safe
