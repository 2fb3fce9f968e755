use Rattle.fk_check_rules.specs.Least.{IsLeast, among_first}
use Rattle.fk_types_structs.specs.Whole.{structs_in}
use Rattle.fk_types_struct_rules.specs.Structs.{StructBreaks}
use Rattle.fk_types_struct_rules.proofs.members.declared_fault.Given as goal

abbrev pub invariant-loop-index : goal.invariant-loop-index
invariant-loop-index l = IsLeast (among_first l.index (StructBreaks (structs_in l.structs)) (structs_in l.structs)) l.fault
