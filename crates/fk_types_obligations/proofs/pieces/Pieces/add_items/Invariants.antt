-- The pieces so far, and those of what is left, are those before and those of all.
use Rattle.std.proofs.Common.{◌≡◌, ◌++◌, map, drop}
use Rattle.fk_syntax.specs.ProgramView.{item_of}
use Rattle.fk_types_obligations.specs.Pieces.{items_pieces}
use Rattle.fk_types_obligations.specs.PiecesView.{pieces_in}
use Rattle.fk_types_obligations.proofs.pieces.Pieces.add_items.Given as goal

abbrev pub invariant-loop-item : goal.invariant-loop-item
invariant-loop-item l = pieces_in l.into ++ items_pieces (map item_of (drop l.item-index l.items)) ≡ pieces_in l.fn.into ++ items_pieces (map item_of l.items)
