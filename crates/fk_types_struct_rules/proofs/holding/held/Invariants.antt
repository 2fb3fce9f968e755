use Rattle.fk_types_structs.specs.Whole.{structs_in}
use Rattle.fk_types_struct_rules.specs.Holding.{AreHeld}
use Rattle.fk_types_struct_rules.proofs.holding.held.Given as goal

abbrev pub invariant-loop-place : goal.invariant-loop-place
invariant-loop-place l = AreHeld (structs_in l.structs) l.index l.place l.held.items
