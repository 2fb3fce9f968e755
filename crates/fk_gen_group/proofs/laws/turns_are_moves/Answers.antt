use Rattle.fk_gen_group.proofs.Turns.{turns_are_moves}
use Rattle.fk_gen_group.proofs.laws.turns_are_moves.Goals as goal

pub returns : goal.returns
returns c = turns_are_moves
