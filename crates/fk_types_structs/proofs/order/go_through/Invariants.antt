use Rattle.std.proofs.Common.{◌<◌, length, All}
use Rattle.fk_types_structs.specs.Order.{AreVisits}
use Rattle.fk_types_structs.proofs.order.go_through.Given as goal

abbrev pub invariant-loop : goal.invariant-loop
invariant-loop l = AreVisits (length l.structs) l.visits.items × All (λ index. index < length l.structs) l.order.items
