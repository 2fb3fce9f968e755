-- The pieces that the code has collected.
use Rattle.std.specs.Prelude.{List, map}
use Rattle.fk_types_obligations.specs.declared.pieces.Pieces.{Pieces}
use Rattle.fk_types_obligations.specs.Pieces.{PieceTree}
use Rattle.fk_types_obligations.specs.View.{piece_of}

abbrev pub pieces_in : Pieces → List PieceTree
pieces_in kept = map piece_of kept.list.items
