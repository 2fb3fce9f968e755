use Rattle.fk_gen_group.proofs.InNode.{jumps_stay_in_node}
use Rattle.fk_gen_group.proofs.laws.jumps_stay_in_node.Goals as goal

pub returns : goal.returns
returns c = jumps_stay_in_node
