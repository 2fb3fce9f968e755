use Rattle.std.proofs.Common.{◌≡◌, ℕ, take, slice_index}
use Rattle.fk_tree.specs.Tree.{parts_by}
use Rattle.fk_tree.specs.Seen.{placed_by}
use Rattle.fk_tree.proofs.nodes.place.Given as goal

abbrev pub invariant-loop-index : goal.invariant-loop-index
invariant-loop-index l = (h : ℕ) → slice_index l.places h ≡ placed_by l.first (parts_by l.parts l.members l.of) (take l.index l.members) (slice_index l.fn.places) h
