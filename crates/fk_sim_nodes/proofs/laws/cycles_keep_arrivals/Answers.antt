use Rattle.fk_sim_nodes.proofs.Leaving.{cycles_keep_arrivals}
use Rattle.fk_sim_nodes.proofs.laws.cycles_keep_arrivals.Goals as goal

pub returns : goal.returns
returns c = cycles_keep_arrivals
