use Rattle.std.proofs.Common.{map, take}
use Rattle.std.specs.List.{AllZip}
use Rattle.fk_types_structs.specs.View.{outline_tree}
use Rattle.fk_types_structs.specs.Whole.{structs_in}
use Rattle.fk_types_environment.specs.Types.{AreMemberTypes}
use Rattle.fk_types_environment.proofs.types.all_member_types.Given as goal

abbrev pub invariant-loop-outline : goal.invariant-loop-outline
invariant-loop-outline l = AllZip (AreMemberTypes (structs_in l.structs)) (map outline_tree (take l.outline-index l.outlines)) l.all.items
