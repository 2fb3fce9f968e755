use Rattle.fk_replay_source.proofs.Forms.{lists_allow_the_same}
use Rattle.fk_replay_source.proofs.laws.lists_allow_the_same.Goals as goal

pub returns : goal.returns
returns c = lists_allow_the_same
