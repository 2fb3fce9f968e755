use Rattle.std.proofs.Common.{◌+◌, not, length, count_by}
use Rattle.fk_types_graph.specs.Marks.{IsSearch}
use Rattle.fk_types_graph.proofs.marks.search.Given as goal

abbrev pub invariant-loop-next : goal.invariant-loop-next
invariant-loop-next l = IsSearch l.graph l.vertex l.marks l.waiting.items

abbrev pub decreases-loop-next : goal.decreases-loop-next
decreases-loop-next l = length l.waiting.items + count_by not l.marks
