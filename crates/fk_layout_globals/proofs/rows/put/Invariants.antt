-- What the variable has still to come is missing, and nothing else.
use Rattle.std.proofs.Common.{◌≡◌, ◌-◌, ◌++◌}
use Rattle.fk_layout_globals.specs.Rows.{begun}
use Rattle.fk_layout_globals.proofs.rows.put.Given as goal

abbrev pub invariant-loop : goal.invariant-loop
invariant-loop l = l.words.items ++ begun (l.count - l.counter) l.next ≡ l.fn.words.items ++ begun l.count l.value
