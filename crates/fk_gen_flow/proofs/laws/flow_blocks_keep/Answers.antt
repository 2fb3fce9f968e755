use Rattle.fk_gen_flow.proofs.Law.{flow_blocks_keep}
use Rattle.fk_gen_flow.proofs.laws.flow_blocks_keep.Goals as goal

pub returns : goal.returns
returns c = flow_blocks_keep
