use Rattle.fk_gen_group.proofs.Steps.{harts_move}
use Rattle.fk_gen_group.proofs.laws.harts_move.Goals as goal

pub returns : goal.returns
returns c = harts_move
