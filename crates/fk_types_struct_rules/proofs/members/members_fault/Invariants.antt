use Rattle.std.proofs.Common.{map}
use Rattle.fk_syntax.specs.ProgramView.{declared_of}
use Rattle.fk_check_rules.specs.Least.{IsLeast, among_first}
use Rattle.fk_types_structs.specs.Whole.{structs_in}
use Rattle.fk_types_struct_rules.specs.Structs.{MemberBreaks}
use Rattle.fk_types_struct_rules.proofs.members.members_fault.Given as goal

abbrev pub invariant-loop-place : goal.invariant-loop-place
invariant-loop-place l = IsLeast (among_first l.place (MemberBreaks (structs_in l.structs) l.index) (map declared_of l.members)) l.fault
