-- The references so far, and those of the pieces that are left, are those of all.
use Rattle.std.proofs.Common.{◌≡◌, ◌++◌, map, drop}
use Rattle.fk_types_obligations.specs.View.{piece_of}
use Rattle.fk_types_references.specs.Found.{found_in}
use Rattle.fk_types_rules.specs.Bound.{pieces_references}
use Rattle.fk_types_bindings.proofs.found.references_in.Given as goal

abbrev pub invariant-loop-piece : goal.invariant-loop-piece
invariant-loop-piece l = found_in l.all ++ pieces_references (map piece_of (drop l.piece-index l.pieces)) ≡ pieces_references (map piece_of l.pieces)
