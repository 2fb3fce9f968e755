-- The pieces so far, and those of what is left, are those before and those of all.
use Rattle.std.proofs.Common.{◌≡◌, ◌++◌, map, drop}
use Rattle.fk_syntax.specs.ProgramView.{declared_of}
use Rattle.fk_types_obligations.specs.Pieces.{parameters_pieces}
use Rattle.fk_types_obligations.specs.PiecesView.{pieces_in}
use Rattle.fk_types_obligations.proofs.pieces.Pieces.add_parameters.Given as goal

abbrev pub invariant-loop-parameter : goal.invariant-loop-parameter
invariant-loop-parameter l = pieces_in l.into ++ parameters_pieces (map declared_of (drop l.parameter-index l.parameters)) ≡ pieces_in l.fn.into ++ parameters_pieces (map declared_of l.parameters)
