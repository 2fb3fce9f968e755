use Rattle.fk_compile.proofs.Blocks.{lists_have_blocks}
use Rattle.fk_compile.proofs.laws.lists_have_blocks.Goals as goal

pub returns : goal.returns
returns c = lists_have_blocks
