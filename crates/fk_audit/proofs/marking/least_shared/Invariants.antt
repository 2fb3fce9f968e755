use Rattle.std.proofs.Common.{take}
use Rattle.fk_audit.specs.declared.access.AccessKind.TheVariants.{Read}
use Rattle.fk_audit.specs.Mark.{IsLeast, counted}
use Rattle.fk_audit.proofs.Marked.{IsShared}
use Rattle.fk_audit.proofs.marking.least_shared.Given as goal

abbrev pub invariant-loop-touch : goal.invariant-loop-touch
invariant-loop-touch l = IsLeast (IsShared l.cycle l.written (counted l.stand Read (take l.touch-index l.touches))) l.least
