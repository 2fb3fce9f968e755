use Rattle.std.proofs.Common.{◌≡◌, map, take}
use Rattle.fk_types_structs.specs.Types.{member_types}
use Rattle.fk_types_structs.specs.Table.{types_of}
use Rattle.fk_types_structs.specs.View.{outline_tree}
use Rattle.fk_types_structs.proofs.spelling.all_types.Given as goal

abbrev pub invariant-loop-outline : goal.invariant-loop-outline
invariant-loop-outline l = types_of l.kinds.items
    ≡ map (member_types (map outline_tree l.structs)) (map outline_tree (take l.outline-index l.structs))
