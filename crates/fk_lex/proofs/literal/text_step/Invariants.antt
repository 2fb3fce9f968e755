use Rattle.std.proofs.Common.{length, ◌-◌}
use Rattle.fk_lex.proofs.Parts.{Walked}
use Rattle.fk_lex.proofs.literal.text_step.Given as goal

abbrev pub invariant-loop-at : goal.invariant-loop-at
invariant-loop-at l = Walked l.body l.at l.bad

abbrev pub decreases-loop-at : goal.decreases-loop-at
decreases-loop-at l = length l.body - l.at
