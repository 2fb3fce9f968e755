use Rattle.std.proofs.Common.{arith}
use Rattle.fk_asm.proofs.Entries.{IsSound-entry}
use Rattle.fk_asm.proofs.assembler.Assembler.commit.Goals as goal

pub invariant_of-self-2 : goal.invariant_of-self-2
invariant_of-self-2 c =
    rw c.in_ok-push.ensures.items (IsSound-entry _ _ c.len.result c.args.count c.args.event c.self.invariant (rw (← c.self.view_is) at c.requires.free) (omega arith) c.requires.least c.requires.most c.requires.event)
