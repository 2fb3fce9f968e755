-- What the pieces of a program name is among its references.
use Rattle.std.proofs.Common.{List, [], ◌∷◌, Contains}
use Rattle.fk_syntax.specs.Program.{ProgramTree}
use Rattle.fk_types_obligations.specs.Pieces.{PieceTree, pieces}
use Rattle.fk_types_references.specs.References.{ReferenceTree}
use Rattle.fk_types_rules.specs.Bound.{piece_references, pieces_references}
use Rattle.fk_check_laws.proofs.Each.{Each, each, front_of, rest_of}
use Rattle.fk_check_laws.proofs.Notes.{among}

module _ (program : ProgramTree) where
  abbrev pub Referred : ReferenceTree → Type 0
  Referred x = Contains (pieces_references (pieces program)) x

  -- all that a piece names is
  abbrev pub AllReferred : PieceTree → Type 0
  AllReferred piece = Each Referred (piece_references piece)

  of_pieces : (ps : List PieceTree) → Each Referred (pieces_references ps) → Each AllReferred ps
  of_pieces [] h = tt
  of_pieces (x ∷ ps) h = (front_of Referred (piece_references x) (pieces_references ps) h, of_pieces ps (rest_of Referred (piece_references x) (pieces_references ps) h))

  pub all_refer : Each AllReferred (pieces program)
  all_refer = of_pieces (pieces program) (each Referred (pieces_references (pieces program)) (λ i x is. among (pieces_references (pieces program)) i x is))
