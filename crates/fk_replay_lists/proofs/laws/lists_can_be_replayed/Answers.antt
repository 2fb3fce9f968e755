use Rattle.fk_replay_lists.proofs.Lists as lists
use Rattle.fk_replay_lists.proofs.laws.lists_can_be_replayed.Goals as goal

pub returns : goal.returns
returns c = lists.lists_can_be_replayed
