use Rattle.fk_gen_flow.proofs.Law.{flow_blocks_do}
use Rattle.fk_gen_flow.proofs.laws.flow_blocks_do.Goals as goal

pub returns : goal.returns
returns c = flow_blocks_do
