-- The lengths so far and those that are left are those of all.
use Rattle.std.proofs.Common.{◌≡◌, ◌+◌, map, drop}
use Rattle.fk_lower.specs.View.{part_of}
use Rattle.fk_lower.specs.Lowered.{total}
use Rattle.fk_lower.proofs.functions.total.Given as goal

abbrev pub invariant-loop-body : goal.invariant-loop-body
invariant-loop-body l = l.end + total (map part_of (drop l.body-index l.bodies)) ≡ total (map part_of l.bodies)
