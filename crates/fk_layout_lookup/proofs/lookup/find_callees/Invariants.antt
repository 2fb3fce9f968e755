-- The items from an index on are told.
use Rattle.std.proofs.Common.{drop}
use Rattle.fk_layout_walk.specs.Known.{tables_of, items_in}
use Rattle.fk_layout_lookup.specs.Lookup.{TellsCallees}
use Rattle.fk_layout_lookup.proofs.lookup.find_callees.Given as goal

abbrev pub invariant-loop-index : goal.invariant-loop-index
invariant-loop-index l = TellsCallees (tables_of l.known) (items_in l.known) (drop l.index (items_in l.known)) l.callees.items

abbrev pub decreases-loop-index : goal.decreases-loop-index
decreases-loop-index l = l.index
