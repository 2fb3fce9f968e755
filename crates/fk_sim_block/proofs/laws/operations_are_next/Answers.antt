use Rattle.fk_sim_block.proofs.Standing.{operations_are_next}
use Rattle.fk_sim_block.proofs.laws.operations_are_next.Goals as goal

pub returns : goal.returns
returns c = operations_are_next
