use Rattle.std.proofs.Common.{map, take}
use Rattle.std.specs.List.{AllZip}
use Rattle.fk_syntax.specs.ProgramView.{declared_of}
use Rattle.fk_types_structs.specs.Whole.{structs_in}
use Rattle.fk_types_environment.specs.Types.{HasParameterType}
use Rattle.fk_types_environment.proofs.types.parameter_types.Given as goal

abbrev pub invariant-loop-parameter : goal.invariant-loop-parameter
invariant-loop-parameter l = AllZip (HasParameterType (structs_in l.structs)) (map declared_of (take l.parameter-index l.parameters)) l.types.items
