-- The marks so far, and those of what is left, are those before and those of all.
use Rattle.std.proofs.Common.{◌≡◌, ◌++◌, map, drop}
use Rattle.fk_syntax.specs.ProgramView.{item_of}
use Rattle.fk_types_names.specs.Outline.{items_marks}
use Rattle.fk_types_names.specs.OutlineView.{marks_in}
use Rattle.fk_types_names.proofs.outline.Outline.add_items.Given as goal

abbrev pub invariant-loop-item : goal.invariant-loop-item
invariant-loop-item l = marks_in l.into ++ items_marks (map item_of (drop l.item-index l.items)) ≡ marks_in l.fn.into ++ items_marks (map item_of l.items)
