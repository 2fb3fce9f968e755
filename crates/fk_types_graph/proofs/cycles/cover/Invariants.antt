use Rattle.std.proofs.Common.{ℕ, ◌≤◌, ◌<◌}
use Rattle.fk_types_graph.specs.Marks.{IsMarked}
use Rattle.fk_types_graph.specs.Ranks.{Keeps}
use Rattle.fk_types_graph.proofs.cycles.cover.Given as goal

abbrev pub invariant-loop-rank : goal.invariant-loop-rank
invariant-loop-rank l = Keeps l.initial.covered l.covered × ((rank : ℕ) → l.low ≤ rank → rank < l.rank → IsMarked l.covered rank)
