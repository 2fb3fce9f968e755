use Rattle.std.proofs.Common.{◌≡◌, ℕ, take, slice_index}
use Rattle.std.proofs.lemmas.List.Filters.{FiltersInPlace}
use Rattle.fk_tree.specs.Tree.{stays_by}
use Rattle.fk_tree.specs.Seen.{left_to}
use Rattle.fk_tree.proofs.nodes.leave.Given as goal

abbrev pub invariant-loop-index : goal.invariant-loop-index
invariant-loop-index l = record {
  members : FiltersInPlace (stays_by l.fn.members.items l.stay) l.fn.members.items l.members.items l.kept l.index;
  places : (h : ℕ) → slice_index l.places h ≡ left_to l.node (stays_by l.fn.members.items l.stay) (take l.index l.fn.members.items) (slice_index l.fn.places) h;
}
