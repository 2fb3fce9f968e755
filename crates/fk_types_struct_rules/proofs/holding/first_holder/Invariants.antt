use Rattle.fk_check_rules.specs.Least.{IsLeast, among_first}
use Rattle.fk_types_structs.specs.Whole.{structs_in}
use Rattle.fk_types_struct_rules.specs.Structs.{HoldingBreaks}
use Rattle.fk_types_struct_rules.proofs.holding.first_holder.Given as goal

abbrev pub invariant-loop-index : goal.invariant-loop-index
invariant-loop-index l = IsLeast (among_first l.index (HoldingBreaks (structs_in l.structs)) (structs_in l.structs)) l.fault
