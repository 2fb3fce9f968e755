-- The state after reading a piece.
use Rattle.std.specs.Prelude.{◌≡◌, List, Option, fold}
use Rattle.fk_check_rules.specs.declared.fault.Fault.{Fault}
use Rattle.fk_check_rules.specs.Least.{IsLeast}
use Rattle.fk_types_operators.specs.declared.values.ExpressionType.{ExpressionType}
use Rattle.fk_types_judgments.specs.Names.{Env}
use Rattle.fk_types_expressions.specs.Read.{with_note}
use Rattle.fk_types_obligations.specs.Pieces.{PieceTree}
use Rattle.fk_types_rules.specs.Pieces.{PieceBreaks}
use Rattle.fk_types_rules.specs.Noted.{piece_noted}

-- the first fault of a piece is returned, and the types in it are noted by token
pub record IsPieceRead (env : Env) (piece : PieceTree) (before after : List (Option ExpressionType))
    (fault : Option Fault) : Type 0 where
  pub least : IsLeast (PieceBreaks env piece) fault
  pub types : after ≡ fold with_note before (piece_noted env piece)
