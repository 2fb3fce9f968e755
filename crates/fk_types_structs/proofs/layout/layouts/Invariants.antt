use Rattle.std.proofs.Common.{map}
use Rattle.fk_types_structs.specs.Table.{sizes_of}
use Rattle.fk_types_structs.specs.View.{outline_tree}
use Rattle.fk_types_structs.specs.Layouts.{AreFirstLayouts}
use Rattle.fk_types_structs.proofs.layout.layouts.Given as goal

abbrev pub invariant-loop-index : goal.invariant-loop-index
invariant-loop-index l = AreFirstLayouts (sizes_of l.sizes) (map outline_tree l.structs) l.index l.layouts.items
