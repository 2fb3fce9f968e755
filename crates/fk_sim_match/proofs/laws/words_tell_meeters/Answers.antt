use Rattle.fk_sim_match.proofs.Nodes.{words_tell_meeters}
use Rattle.fk_sim_match.proofs.laws.words_tell_meeters.Goals as goal

pub returns : goal.returns
returns c = words_tell_meeters
