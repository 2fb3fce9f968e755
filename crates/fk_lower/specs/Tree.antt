-- Code as it is in memory: pieces in blocks, and the measures of each block.
use Rattle.std.specs.Prelude.{◌≡◌, ℕ, List, [], ◌∷◌}
use Rattle.fk_meaning_forms.specs.Code as c
use Rattle.fk_meaning_forms.specs.Code.{Code}
use Rattle.fk_lower.specs.declared.block.Act.{Act}
use Rattle.fk_lower.specs.declared.span.Spans.{Spans}
use Rattle.fk_lower.specs.Spans.{spans_of}

mutual
  pub data PieceTree : Type 0 where
    Perform : (act : Act) → PieceTree
    Choose : (act : Act) (x : Pieces) (of_x : Spans) (y : Pieces) (of_y : Spans) → PieceTree
    While : (test : Pieces) (of_test : Spans) (body : Pieces) (of_body : Spans) (step : Pieces)
        (of_step : Spans) → PieceTree
    Until : (body : Pieces) (of_body : Spans) (test : Pieces) (of_test : Spans) → PieceTree
    Quit : (act : Act) → PieceTree
    Break : PieceTree
    Continue : PieceTree
    Call : (act : Act) (function : ℕ) (opening : Pieces) (of_opening : Spans) → PieceTree
    Ends : (act : Act) → PieceTree

  pub data Pieces : Type 0 where
    no_pieces : Pieces
    piece : (first : PieceTree) (others : Pieces) → Pieces

abbrev pub pieces_of : List PieceTree → Pieces
pieces_of [] = no_pieces
pieces_of (x ∷ xs) = piece x (pieces_of xs)

-- A block: its pieces and its measures.
pub record Part : Type 0 where
  pub pieces : Pieces
  pub spans : Spans

-- The code of pieces, each operation with its site.
abbrev mutual
  pub code_of : Pieces → Code ℕ
  code_of no_pieces = c.done
  code_of (piece first others) = code_before first (code_of others)

  pub code_before : PieceTree → (rest : Code ℕ) → Code ℕ
  code_before (Perform act) rest = c.perform act.site act.operation rest
  code_before (Choose act x of_x y of_y) rest =
      c.choose act.site act.operation (code_of x) (code_of y) rest
  code_before (While test of_test body of_body step of_step) rest =
      c.while (code_of test) (code_of body) (code_of step) rest
  code_before (Until body of_body test of_test) rest = c.until (code_of body) (code_of test) rest
  code_before (Quit act) rest = c.quit act.site act.operation rest
  code_before Break rest = c.break rest
  code_before Continue rest = c.continue rest
  code_before (Call act function opening of_opening) rest =
      c.call act.site act.operation function (code_of opening) rest
  code_before (Ends act) rest = c.ends act.site act.operation rest

-- The measures of all blocks in pieces are those of their code.
abbrev mutual
  pub IsMeasured : Pieces → Type 0
  IsMeasured no_pieces = Unit {0}
  IsMeasured (piece first others) = IsPieceMeasured first × IsMeasured others

  pub IsPieceMeasured : PieceTree → Type 0
  IsPieceMeasured (Choose act x of_x y of_y) = (of_x ≡ spans_of (code_of x)) × IsMeasured x
      × (of_y ≡ spans_of (code_of y)) × IsMeasured y
  IsPieceMeasured (While test of_test body of_body step of_step) =
      (of_test ≡ spans_of (code_of test)) × IsMeasured test × (of_body ≡ spans_of (code_of body))
      × IsMeasured body
      × (of_step ≡ spans_of (code_of step)) × IsMeasured step
  IsPieceMeasured (Until body of_body test of_test) = (of_body ≡ spans_of (code_of body))
      × IsMeasured body × (of_test ≡ spans_of (code_of test)) × IsMeasured test
  IsPieceMeasured (Call act function opening of_opening) = (of_opening ≡ spans_of (code_of opening))
      × IsMeasured opening
  IsPieceMeasured other = Unit {0}

abbrev pub IsPartMeasured : Part → Type 0
IsPartMeasured part = (part.spans ≡ spans_of (code_of part.pieces)) × IsMeasured part.pieces
