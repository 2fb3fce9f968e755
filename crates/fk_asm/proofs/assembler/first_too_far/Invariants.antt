use Rattle.fk_asm.specs.Assembly.{AreNearBelow}
use Rattle.fk_asm.proofs.assembler.first_too_far.Given as goal

abbrev pub invariant-loop-k : goal.invariant-loop-k
invariant-loop-k l = AreNearBelow l.bound l.lines l.k
