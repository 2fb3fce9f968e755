-- Pieces from an index on, one further back.
use Rattle.std.proofs.Common.{◌≡◌, ℕ, suc, ◌+◌, ◌<◌, ◌≤◌, Bool, List, [], ◌∷◌, ◌++◌, length, get_or, map, drop, ap, ◌∙◌, sym, refl, subst, arith}
use Rattle.std.proofs.Math.Seq.{drop-cons}
use Rattle.fk_lower.specs.declared.block.Piece.{Piece}
use Rattle.fk_lower.specs.declared.span.Span.{Span}
use Rattle.fk_lower.specs.Tree.{Pieces, piece, pieces_of, IsMeasured, IsPieceMeasured}
use Rattle.fk_lower.specs.Faults.{AreNumbered, IsNumbered}
use Rattle.fk_lower.specs.View.{piece_of}
use Rattle.fk_lower.specs.Measures.{before, measured, rests}

abbrev pub from : List Piece → ℕ → Pieces
from pieces i = pieces_of (map piece_of (drop i pieces))

one_more : (pieces : List Piece) (i j : ℕ) (d : Piece) → j + 1 ≡ i → i ≤ length pieces → from pieces j ≡ piece (piece_of (get_or pieces j d)) (from pieces i)
one_more pieces i j d e h =
    let n : suc j ≡ i = omega arith in
    ap (λ l. pieces_of (map piece_of l)) (drop-cons pieces j d (omega arith)) ∙ ap (λ n. piece (piece_of (get_or pieces j d)) (from pieces n)) n

pub measured_more : (pieces : List Piece) (near : Bool) (i j : ℕ) (d : Piece) → j + 1 ≡ i → i ≤ length pieces
    → measured near (from pieces j) ≡ before (piece_of (get_or pieces j d)) (measured near (from pieces i))
measured_more pieces near i j d e h = ap (measured near) (one_more pieces i j d e h)

pub rests_more : (pieces : List Piece) (near : Bool) (i j : ℕ) (d : Piece) → j + 1 ≡ i → i ≤ length pieces
    → rests near (from pieces j) ≡ rests near (from pieces i) ++ measured near (from pieces i) ∷ []
rests_more pieces near i j d e h = ap (rests near) (one_more pieces i j d e h)

-- the piece at an index and those behind it are measured, and have numbers, where those from it on are
pub first_measured : (pieces : List Piece) (i : ℕ) (x : Piece) → i < length pieces → x ≡ get_or pieces i x → IsMeasured (from pieces i) → IsPieceMeasured (piece_of x)
first_measured pieces i x h is m =
    subst (λ (p : Piece). IsPieceMeasured (piece_of p)) (sym is) (subst (λ (p : Pieces). IsMeasured p) (one_more pieces (i + 1) i x refl (omega (arith, h))) m).0

pub first_numbered : (pieces : List Piece) (i : ℕ) (x : Piece) → i < length pieces → x ≡ get_or pieces i x → AreNumbered (from pieces i) → IsNumbered (piece_of x)
first_numbered pieces i x h is m =
    subst (λ (p : Piece). IsNumbered (piece_of p)) (sym is) (subst (λ (p : Pieces). AreNumbered p) (one_more pieces (i + 1) i x refl (omega (arith, h))) m).0

-- the last ones of equal lists are equal
last_same : (xs ys : List Span) (a b : Span) → xs ++ a ∷ [] ≡ ys ++ b ∷ [] → a ≡ b
last_same [] [] a b e = cc
last_same [] (y ∷ []) a b e = absurd (cc)
last_same [] (y ∷ z ∷ ys) a b e = absurd (cc)
last_same (x ∷ []) [] a b e = absurd (cc)
last_same (x ∷ z ∷ xs) [] a b e = absurd (cc)
last_same (x ∷ xs) (y ∷ ys) a b e = let h : xs ++ a ∷ [] ≡ ys ++ b ∷ [] = cc in last_same xs ys a b h

-- the last of the measures that are left is that of the code behind the piece at an index
pub last_rest : (pieces : List Piece) (near : Bool) (i : ℕ) (x : Piece) (spans others : List Span) (rest : Span) → i < length pieces
    → spans ≡ rests near (from pieces i) → spans ≡ others ++ rest ∷ [] → rest ≡ measured near (from pieces (i + 1))
last_rest pieces near i x spans others rest h left popped =
    last_same others (rests near (from pieces (i + 1))) rest (measured near (from pieces (i + 1)))
    (sym popped ∙ left ∙ rests_more pieces near (i + 1) i x refl (omega (arith, h)))

pub whole_left : (pieces : List Piece) (i : ℕ) (x : Piece) → i < length pieces → IsMeasured (from pieces i) → IsMeasured (from pieces (i + 1))
whole_left pieces i x h m = (subst (λ (p : Pieces). IsMeasured p) (one_more pieces (i + 1) i x refl (omega (arith, h))) m).1
