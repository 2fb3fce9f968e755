-- The frames so far, and those of what is left, are those before and those of all.
use Rattle.std.proofs.Common.{◌≡◌, ◌++◌, map, drop}
use Rattle.fk_syntax.specs.ProgramView.{item_of}
use Rattle.fk_layout_slots.specs.KnownView.{told_by}
use Rattle.fk_layout_slots.specs.Frames.{regions_of}
use Rattle.fk_layout_slots.proofs.frames.Frames.add_items.Given as goal

abbrev pub invariant-loop-item : goal.invariant-loop-item
invariant-loop-item l = l.into.list.items ++ regions_of (told_by l.known) (map item_of (drop l.item-index l.items)) ≡ l.fn.into.list.items ++ regions_of (told_by l.known) (map item_of l.items)
