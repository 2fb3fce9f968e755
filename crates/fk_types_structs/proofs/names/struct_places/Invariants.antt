use Rattle.std.proofs.Common.{map, take}
use Rattle.fk_types_structs.specs.Types.{names_of}
use Rattle.fk_types_structs.specs.View.{outline_tree, Finds}
use Rattle.fk_types_structs.proofs.names.struct_places.Given as goal

abbrev pub invariant-loop-place : goal.invariant-loop-place
invariant-loop-place l = Finds l.places.entries (take l.place (names_of (map outline_tree l.structs)))
