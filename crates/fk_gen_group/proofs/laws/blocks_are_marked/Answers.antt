use Rattle.fk_gen_group.proofs.Marked.{blocks_are_marked}
use Rattle.fk_gen_group.proofs.laws.blocks_are_marked.Goals as goal

pub returns : goal.returns
returns c = blocks_are_marked
