-- Where the members of structs lie.
use Rattle.std.specs.Prelude.{◌≡◌, ℕ, ◌<◌, List, Some, length, slice_get}
use Rattle.fk_types_structs.specs.declared.layout.Layout.{Layout}
use Rattle.fk_types_structs.specs.Types.{StructTree, member_names, member_types}
use Rattle.fk_types_structs.specs.Words.{Sizes}
use Rattle.fk_types_structs.specs.Table.{AreOffsets}
use Rattle.fk_types_structs.specs.View.{Finds}

-- a layout is that of a struct
pub record IsLayout (sizes : Sizes) (structs : List StructTree) (s : StructTree)
    (layout : Layout) : Type 0 where
  pub places : Finds layout.places.entries (member_names s.members)
  pub offsets : AreOffsets sizes (member_types structs s) layout.offsets.items

-- these layouts are those of the first `count` structs
abbrev pub AreFirstLayouts : Sizes → List StructTree → ℕ → List Layout → Type 0
AreFirstLayouts sizes structs count layouts = (length layouts ≡ count)
    × ((index : ℕ) (layout : Layout) (s : StructTree) → index < count → slice_get layouts index
    ≡ Some layout → slice_get structs index ≡ Some s → IsLayout sizes structs s layout)

abbrev pub AreLayouts : Sizes → List StructTree → List Layout → Type 0
AreLayouts sizes structs layouts = AreFirstLayouts sizes structs (length structs) layouts
