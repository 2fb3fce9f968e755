-- The marks of an outline.
use Rattle.std.specs.Prelude.{List, map}
use Rattle.fk_types_names.specs.declared.outline.Outline.{Outline}
use Rattle.fk_types_names.specs.Outline.{MarkTree}
use Rattle.fk_types_names.specs.View.{mark_of}

abbrev pub marks_in : Outline → List MarkTree
marks_in outline = map mark_of outline.marks.items
