use Rattle.fk_types_graph.specs.Ranks.{CoversFirst}
use Rattle.fk_types_graph.proofs.cycles.cover_edges.Given as goal

abbrev pub invariant-loop-vertex : goal.invariant-loop-vertex
invariant-loop-vertex l = CoversFirst l.covered l.ranks l.graph l.vertex
