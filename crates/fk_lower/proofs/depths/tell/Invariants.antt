-- The operations that were gone over have the depths of their sites.
use Rattle.std.proofs.Common.{◌≡◌}
use Rattle.fk_lower.proofs.Told.{told_first}
use Rattle.fk_lower.proofs.depths.tell.Given as goal

abbrev pub invariant-loop-op : goal.invariant-loop-op
invariant-loop-op l = l.ops ≡ told_first l.depths l.op-index l.fn.ops
