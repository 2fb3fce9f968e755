use Rattle.fk_gen_group.proofs.Phases.{blocks_meet}
use Rattle.fk_gen_group.proofs.laws.blocks_meet.Goals as goal

pub returns : goal.returns
returns c = blocks_meet
