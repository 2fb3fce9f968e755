use Rattle.std.proofs.Common.{take}
use Rattle.fk_types_graph.specs.Ranks.{Keeps, CoversAll}
use Rattle.fk_types_graph.proofs.cycles.cover_all.Given as goal

abbrev pub invariant-loop-vertex : goal.invariant-loop-vertex
invariant-loop-vertex l = Keeps l.initial.covered l.covered × CoversAll l.covered l.ranks l.low (take l.vertex-index l.vertices)
