use Rattle.fk_gen_group.proofs.Steps.{harts_arrive}
use Rattle.fk_gen_group.proofs.laws.harts_arrive.Goals as goal

pub returns : goal.returns
returns c = harts_arrive
