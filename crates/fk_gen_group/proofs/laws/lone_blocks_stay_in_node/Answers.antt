use Rattle.fk_gen_group.proofs.Alone.{lone_blocks_stay_in_node}
use Rattle.fk_gen_group.proofs.laws.lone_blocks_stay_in_node.Goals as goal

pub returns : goal.returns
returns c = lone_blocks_stay_in_node
