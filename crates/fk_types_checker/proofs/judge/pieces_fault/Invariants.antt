-- What the pieces so far break is told, and with the types of the others all types are noted.
use Rattle.std.specs.List.{fold}
use Rattle.std.proofs.Common.{◌≡◌, map, drop}
use Rattle.fk_check_rules.specs.Least.{IsLeast, among_first}
use Rattle.fk_types_forms.specs.Scope.{env_in}
use Rattle.fk_types_expressions.specs.Read.{with_note}
use Rattle.fk_types_obligations.specs.View.{piece_of}
use Rattle.fk_types_rules.specs.Noted.{pieces_noted}
use Rattle.fk_types_rules.specs.Pieces.{PieceBreaks}
use Rattle.fk_types_checker.proofs.judge.pieces_fault.Given as goal

abbrev pub invariant-loop-piece : goal.invariant-loop-piece
invariant-loop-piece l = record {
  least : IsLeast (among_first l.piece-index (λ i. PieceBreaks (env_in l.scope)) (map piece_of l.pieces)) l.fault;
  types : fold with_note l.types (pieces_noted (env_in l.scope) (map piece_of (drop l.piece-index l.pieces))) ≡ fold with_note l.fn.types (pieces_noted (env_in l.scope) (map piece_of l.pieces));
}
