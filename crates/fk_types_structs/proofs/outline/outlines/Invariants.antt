use Rattle.std.proofs.Common.{◌≡◌, ◌++◌, map, drop}
use Rattle.fk_syntax.specs.ProgramView.{item_of}
use Rattle.fk_types_structs.specs.Types.{structs_of}
use Rattle.fk_types_structs.specs.View.{outline_tree}
use Rattle.fk_types_structs.proofs.outline.outlines.Given as goal

abbrev pub invariant-loop-item : goal.invariant-loop-item
invariant-loop-item l = map outline_tree l.structs.items ++ structs_of (map item_of (drop l.item-index l.items)) ≡ structs_of (map item_of l.items)
