use Rattle.std.proofs.Common.{◌+◌, not, length, count_by}
use Rattle.fk_types_graph.proofs.ranks.rank_waiting.Given as goal

abbrev pub decreases-loop-vertex : goal.decreases-loop-vertex
decreases-loop-vertex l = length l.waiting.items + count_by not l.marks
