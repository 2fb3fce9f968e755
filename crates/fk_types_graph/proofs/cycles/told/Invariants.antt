use Rattle.std.proofs.Common.{◌≡◌, true, unwrap_or, slice_get, map, take}
use Rattle.fk_types_graph.proofs.cycles.told.Given as goal

abbrev pub invariant-loop-rank : goal.invariant-loop-rank
invariant-loop-rank l = l.suspects.items ≡ map (λ rank. unwrap_or (slice_get l.covered rank) true) (take l.rank-index l.ranks)
