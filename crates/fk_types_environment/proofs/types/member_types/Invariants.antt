use Rattle.std.proofs.Common.{map, take}
use Rattle.std.specs.List.{AllZip}
use Rattle.fk_syntax.specs.ProgramView.{declared_of}
use Rattle.fk_types_structs.specs.Whole.{structs_in}
use Rattle.fk_types_environment.specs.Types.{HasVariableType}
use Rattle.fk_types_environment.proofs.types.member_types.Given as goal

abbrev pub invariant-loop-member : goal.invariant-loop-member
invariant-loop-member l = AllZip (HasVariableType (structs_in l.structs)) (map declared_of (take l.member-index l.members)) l.types.items
