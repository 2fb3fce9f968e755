use Rattle.fk_gen_group.proofs.Shallocs.{groups_take_blocks}
use Rattle.fk_gen_group.proofs.laws.groups_take_blocks.Goals as goal

pub returns : goal.returns
returns c = groups_take_blocks
