use Rattle.std.proofs.Common.{length}
use Rattle.fk_machine.proofs.turns.+take_turns.Given as goal

abbrev pub decreases-take_turns : goal.decreases-take_turns
decreases-take_turns l = length l.harts.now
