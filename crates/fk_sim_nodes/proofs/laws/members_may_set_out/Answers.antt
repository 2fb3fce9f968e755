use Rattle.fk_sim_nodes.proofs.Between.{members_may_set_out}
use Rattle.fk_sim_nodes.proofs.laws.members_may_set_out.Goals as goal

pub returns : goal.returns
returns c = members_may_set_out
