-- The pieces so far, and those of what is left, are those before and those of all.
use Rattle.std.proofs.Common.{◌≡◌, ◌++◌, map, drop}
use Rattle.fk_syntax.specs.ProgramView.{declared_of}
use Rattle.fk_types_obligations.specs.Pieces.{variables_pieces}
use Rattle.fk_types_obligations.specs.PiecesView.{pieces_in}
use Rattle.fk_types_obligations.proofs.pieces.Pieces.add_variables.Given as goal

abbrev pub invariant-loop-variable : goal.invariant-loop-variable
invariant-loop-variable l = pieces_in l.into ++ variables_pieces (map declared_of (drop l.variable-index l.variables)) ≡ pieces_in l.fn.into ++ variables_pieces (map declared_of l.variables)
