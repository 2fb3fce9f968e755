use Rattle.std.proofs.Common.{◌-◌, length, map, drop}
use Rattle.fk_lex.specs.View.{spelled}
use Rattle.fk_lex.proofs.Reached.{Reached}
use Rattle.fk_lex.proofs.lex.lex.Given as goal

abbrev pub invariant-loop-at : goal.invariant-loop-at
invariant-loop-at l = Reached l.source (map spelled l.tokens.items) l.at (drop l.at.offset l.source)

abbrev pub decreases-loop-at : goal.decreases-loop-at
decreases-loop-at l = length l.source - l.at.offset
