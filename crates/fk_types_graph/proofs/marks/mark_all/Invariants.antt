use Rattle.std.proofs.Common.{take}
use Rattle.fk_types_graph.specs.Marks.{Marks}
use Rattle.fk_types_graph.proofs.marks.mark_all.Given as goal

abbrev pub invariant-loop-vertex : goal.invariant-loop-vertex
invariant-loop-vertex l = Marks (take l.vertex-index l.vertices) l.initial.marks l.marks l.initial.waiting.items l.waiting.items
