-- The pieces and blocks of the code, as the trees of the definitions.
use Rattle.fk_lower.specs.declared.block.Piece.{Piece}
use Rattle.fk_lower.specs.declared.block.Block.{Block}
use Rattle.fk_lower.specs.declared.block.Piece.TheOpen.{Piece-F, Block-F}
use Rattle.fk_lower.specs.declared.block.Piece.TheOpen as p
use Rattle.fk_lower.specs.declared.block.Piece.TheFolds.{fold-Piece, fold-Block}
use Rattle.fk_lower.specs.Tree.{PieceTree, Part, pieces_of}
use Rattle.fk_lower.specs.Tree as t

-- A piece whose blocks are already trees.
abbrev pub piece_step : Piece-F PieceTree Part → PieceTree
piece_step (p.Perform act) = t.Perform act
piece_step (p.Choose act x y) = t.Choose act x.pieces x.spans y.pieces y.spans
piece_step (p.While test body step) =
    t.While test.pieces test.spans body.pieces body.spans step.pieces step.spans
piece_step (p.Until body test) = t.Until body.pieces body.spans test.pieces test.spans
piece_step (p.Quit act) = t.Quit act
piece_step p.Break = t.Break
piece_step p.Continue = t.Continue
piece_step (p.Call act function opening) = t.Call act function opening.pieces opening.spans
piece_step (p.Ends act) = t.Ends act

-- A block whose pieces are already trees.
abbrev pub part_step : Block-F PieceTree Part → Part
part_step block = record { pieces = pieces_of block.pieces.items; spans = block.spans }

abbrev pub piece_of : Piece → PieceTree
piece_of = fold-Piece PieceTree Part piece_step part_step

abbrev pub part_of : Block → Part
part_of = fold-Block PieceTree Part piece_step part_step
