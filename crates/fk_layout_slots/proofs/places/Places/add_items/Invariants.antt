-- The places so far, and those of what is left, are those before and those of all; and so is what the functions take.
use Rattle.std.proofs.Common.{◌≡◌, ◌++◌, map, drop}
use Rattle.fk_syntax.specs.ProgramView.{item_of}
use Rattle.fk_layout_slots.specs.KnownView.{told_by}
use Rattle.fk_layout_slots.specs.Slots.{slots_of, items_slots, owns_of}
use Rattle.fk_layout_slots.proofs.places.Places.add_items.Given as goal

abbrev pub invariant-loop-item : goal.invariant-loop-item
invariant-loop-item l = record {
  slots : l.into.list.items ++ items_slots (told_by l.known) l.behind (map item_of (drop l.item-index l.items)) ≡ l.fn.into.list.items ++ slots_of (told_by l.known) (map item_of l.items);
  owns : l.owns.items ++ owns_of (told_by l.known) (map item_of (drop l.item-index l.items)) ≡ l.fn.owns.items ++ owns_of (told_by l.known) (map item_of l.items);
}
