use Rattle.fk_sim_nodes.proofs.Between.{words_open_at_zero}
use Rattle.fk_sim_nodes.proofs.laws.words_open_at_zero.Goals as goal

pub returns : goal.returns
returns c = words_open_at_zero
