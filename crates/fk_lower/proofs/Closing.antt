-- Code ends the function at its end, where its last piece does.
use Rattle.std.proofs.Common.{◌≡◌, ℕ, suc, ◌-◌, Bool, true, false, List, [], ◌∷◌, map, length, Some, refl, ap, ◌∙◌, arith}
use Rattle.std.specs.Prelude.{◌||◌, slice_get}
use Rattle.fk_meaning_forms.specs.Code.{Code, done}
use Rattle.fk_core_flat.specs.Shape.{is_done, is_closed}
use Rattle.fk_lower.specs.declared.block.Piece.{Piece}
use Rattle.fk_lower.specs.Tree.{PieceTree, Perform, Choose, While, Until, Quit, Break, Continue, Call, Ends, pieces_of, code_of, code_before}
use Rattle.fk_lower.specs.View.{piece_of}

or_true : (b : Bool) → (b || true) ≡ true
or_true true = refl
or_true false = refl

-- what is closed is so behind a piece
closed_behind : (p : PieceTree) (rest : Code ℕ) → is_closed rest ≡ true → is_closed (code_before p rest) ≡ true
closed_behind (Perform act) rest h = h
closed_behind (Choose act x of_x y of_y) rest h = h
closed_behind (While test of_test body of_body step of_step) rest h = h
closed_behind (Until body of_body test of_test) rest h = h
closed_behind (Quit act) rest h = h
closed_behind Break rest h = h
closed_behind Continue rest h = h
closed_behind (Call act function opening of_opening) rest h = h
closed_behind (Ends act) rest h = ap (λ b. is_done rest || b) h ∙ or_true (is_done rest)

before_last : (x y : Piece) (zs : List Piece) → length (x ∷ y ∷ zs) - 1 ≡ suc (length (y ∷ zs) - 1)
before_last x y zs = omega arith

pub closed_at_end : (pieces : List Piece) (p : Piece) → slice_get pieces (length pieces - 1) ≡ Some p
    → ((rest : Code ℕ) → is_done rest ≡ true → is_closed (code_before (piece_of p) rest) ≡ true)
    → is_closed (code_of (pieces_of (map piece_of pieces))) ≡ true
closed_at_end [] p e ends = cc
closed_at_end (x ∷ []) p e ends =
    let same : x ≡ p = cc in
    ap (λ (q : Piece). is_closed (code_before (piece_of q) done)) same ∙ ends done refl
closed_at_end (x ∷ y ∷ zs) p e ends =
    closed_behind (piece_of x) (code_of (pieces_of (map piece_of (y ∷ zs)))) (closed_at_end (y ∷ zs) p (rw (before_last x y zs) at e) ends)
