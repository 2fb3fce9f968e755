-- The pieces of the code in the form of the definitions.
use Rattle.std.specs.Option.{option_map}
use Rattle.fk_syntax.specs.View.{type_of, tree_of}
use Rattle.fk_syntax.specs.ProgramView.{declared_of, function_of}
use Rattle.fk_types_obligations.specs.declared.piece.Piece.{Piece}
use Rattle.fk_types_obligations.specs.declared.piece.Piece.TheVariants as c
use Rattle.fk_types_obligations.specs.Pieces as p
use Rattle.fk_types_obligations.specs.Pieces.{PieceTree}

abbrev pub piece_of : Piece → PieceTree
piece_of (c.FileVariable variable) = p.FileVariable (declared_of variable.now)
piece_of (c.Variable variable) = p.Variable (declared_of variable.now)
piece_of (c.Parameter parameter) = p.Parameter (declared_of parameter.now)
piece_of (c.Header function) = p.Header (function_of function.now)
piece_of (c.Used role value) = p.Used role (tree_of value.now)
piece_of (c.Return result spot value) =
    p.Return (type_of result.now) spot (option_map tree_of value.now)
