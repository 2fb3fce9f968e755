use Rattle.fk_gen_group.proofs.Shrinks.{parts_shrink}
use Rattle.fk_gen_group.proofs.laws.parts_shrink.Goals as goal

pub returns : goal.returns
returns c = parts_shrink
