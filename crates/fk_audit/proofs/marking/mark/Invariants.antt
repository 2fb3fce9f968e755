use Rattle.std.proofs.Common.{take}
use Rattle.fk_audit.specs.Mark.{counted}
use Rattle.fk_audit.proofs.Marked.{AreMarked}
use Rattle.fk_audit.proofs.marking.mark.Given as goal

abbrev pub invariant-loop-touch : goal.invariant-loop-touch
invariant-loop-touch l = AreMarked l.cycle l.other (counted l.stand l.kind (take l.touch-index l.touches)) l.marks l.least
