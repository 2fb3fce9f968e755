use Rattle.fk_types_structs.specs.Whole.{structs_in}
use Rattle.fk_types_struct_rules.specs.Holding.{AreFirstEdges}
use Rattle.fk_types_struct_rules.proofs.holding.graph.Given as goal

abbrev pub invariant-loop-index : goal.invariant-loop-index
invariant-loop-index l = AreFirstEdges (structs_in l.structs) l.index l.graph.items
