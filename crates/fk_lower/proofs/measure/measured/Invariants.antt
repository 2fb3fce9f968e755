-- The measures so far are those of the pieces from the index on.
use Rattle.std.proofs.Common.{◌≡◌, ◌≤◌, length, map, drop}
use Rattle.fk_lower.specs.Tree.{pieces_of}
use Rattle.fk_lower.specs.View.{piece_of}
use Rattle.fk_lower.specs.Measures.{measured}
use Rattle.fk_lower.proofs.measure.measured.Given as goal

abbrev pub invariant-loop-index : goal.invariant-loop-index
invariant-loop-index l = record {
  within : l.index ≤ length l.pieces;
  span : l.span ≡ measured l.near (pieces_of (map piece_of (drop l.index l.pieces)));
}

abbrev pub decreases-loop-index : goal.decreases-loop-index
decreases-loop-index l = l.index
