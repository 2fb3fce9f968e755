use Rattle.std.proofs.Common.{◌<◌, length, All}
use Rattle.fk_types_structs.specs.Order.{AreVisits}
use Rattle.fk_types_structs.proofs.order.order.Given as goal

abbrev pub invariant-loop-index : goal.invariant-loop-index
invariant-loop-index l = AreVisits (length l.structs) l.visits.items × All (λ index. index < length l.structs) l.order.items
