use Rattle.std.proofs.Common.{map, take}
use Rattle.std.specs.List.{AllZip}
use Rattle.fk_types_structs.specs.Whole.{structs_in}
use Rattle.fk_types_names.specs.View.{declaration_of}
use Rattle.fk_types_environment.specs.Known.{IsKnown}
use Rattle.fk_types_environment.proofs.declarations.all_known.Given as goal

abbrev pub invariant-loop-declaration : goal.invariant-loop-declaration
invariant-loop-declaration l = AllZip (IsKnown (structs_in l.structs)) (map declaration_of (take l.declaration-index l.declarations)) l.known.items
