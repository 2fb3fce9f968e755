-- The pieces so far, and those of what is left, are those before and those of all.
use Rattle.std.proofs.Common.{◌≡◌, ◌++◌, map, drop}
use Rattle.fk_syntax.specs.View.{type_of}
use Rattle.fk_syntax.specs.Program.{statements_of}
use Rattle.fk_syntax.specs.ProgramView.{statement_of}
use Rattle.fk_types_obligations.specs.Pieces.{statements_pieces}
use Rattle.fk_types_obligations.specs.PiecesView.{pieces_in}
use Rattle.fk_types_obligations.proofs.pieces.Pieces.+statement.Given as goal

abbrev pub invariant-add_statements-loop-statement : goal.invariant-add_statements-loop-statement
invariant-add_statements-loop-statement l = pieces_in l.into ++ statements_pieces (type_of l.gives) (statements_of (map statement_of (drop l.statement-index l.statements))) ≡ pieces_in l.fn.into ++ statements_pieces (type_of l.gives) (statements_of (map statement_of l.statements))
