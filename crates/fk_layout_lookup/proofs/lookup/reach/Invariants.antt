-- The list is what it was, and then what fills it.
use Rattle.std.proofs.Common.{◌≡◌, ℕ, ◌+◌, ◌-◌, ◌++◌, length, replicate}
use Rattle.fk_layout_lookup.proofs.lookup.reach.Given as goal

abbrev pub invariant-loop-fill : goal.invariant-loop-fill
invariant-loop-fill g l = (n : ℕ) × (l.list.items ≡ l.fn.list.items ++ replicate n l.fill)

abbrev pub decreases-loop-fill : goal.decreases-loop-fill
decreases-loop-fill g l = l.index + 1 - length l.list.items
