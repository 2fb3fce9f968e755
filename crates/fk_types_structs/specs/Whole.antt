-- The structs of a text, and the tables that the code keeps of them.
use Rattle.std.specs.Prelude.{◌≡◌, ◌<◌, ◌^◌, List, length, map}
use Rattle.fk_types_structs.specs.declared.structs.Structs.{Structs}
use Rattle.fk_types_structs.specs.Types.{StructTree, names_of, all_types}
use Rattle.fk_types_structs.specs.Table.{sizes_of, types_of, AreWords}
use Rattle.fk_types_structs.specs.View.{outline_tree, Finds}
use Rattle.fk_types_structs.specs.Layouts.{AreLayouts}

-- the declarations of the structs
abbrev pub structs_in : Structs → List StructTree
structs_in kept = map outline_tree kept.outlines.items

-- the tables are those of the structs
pub record IsSound (kept : Structs) : Type 0 where
  pub few : length (structs_in kept) < 2 ^ 32
  pub places : Finds kept.places.entries (names_of (structs_in kept))
  pub types : types_of kept.kinds.items ≡ all_types (structs_in kept)
  pub sizes : AreWords (all_types (structs_in kept)) kept.sizes.items
  pub layouts : AreLayouts (sizes_of kept.sizes.items) (structs_in kept) kept.layouts.items
