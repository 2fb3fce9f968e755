use Rattle.fk_gen_group.proofs.PartEnds.{parts_end}
use Rattle.fk_gen_group.proofs.laws.parts_end.Goals as goal

pub returns : goal.returns
returns c = parts_end
