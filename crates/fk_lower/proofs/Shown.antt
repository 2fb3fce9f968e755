-- A piece that is added comes behind the code there is; a frame that is added is the innermost one.
use Rattle.std.proofs.Common.{◌≡◌, ℕ, List, [], ◌∷◌, ◌++◌, length, fold, ap, ◌∙◌, refl}
use Rattle.std.proofs.lemmas.List.Sums.{fold-append}
use Rattle.fk_meaning_forms.specs.Code as c
use Rattle.fk_meaning_forms.specs.Code.{Code, append}
use Rattle.fk_lower.specs.declared.block.Piece.{Piece}
use Rattle.fk_lower.specs.Tree.{PieceTree, Perform, Choose, While, Until, Quit, Break, Continue, Call, Ends, code_before, IsPieceMeasured}
use Rattle.fk_lower.specs.View.{piece_of}
use Rattle.fk_lower.specs.declared.builder.Frame.{Frame}
use Rattle.fk_lower.specs.Building.{Open}
use Rattle.fk_lower.specs.BuilderView.{shown_code, open_by, outer_of, ArePiecesMeasured, IsOpenedMeasured, AreFramesMeasured}

one : (t : PieceTree) (code more : Code ℕ) → code_before t (append code more) ≡ append (code_before t code) more
one (Perform act) code more = refl
one (Choose act x of_x y of_y) code more = refl
one (While test of_test body of_body step of_step) code more = refl
one (Until body of_body test of_test) code more = refl
one (Quit act) code more = refl
one Break code more = refl
one Continue code more = refl
one (Call act function opening of_opening) code more = refl
one (Ends act) code more = refl

pub shown_more : (pieces : List Piece) (p : Piece) → shown_code (pieces ++ p ∷ []) ≡ append (shown_code pieces) (code_before (piece_of p) c.done)
shown_more [] p = refl
shown_more (x ∷ xs) p = ap (code_before (piece_of x)) (shown_more xs p) ∙ one (piece_of x) (shown_code xs) (code_before (piece_of p) c.done)

pub outer_more : (frames : List Frame) (f : Frame) → outer_of (frames ++ f ∷ []) ≡ open_by (shown_code f.before.items) f.opened ∷ outer_of frames
outer_more frames f = fold-append (λ (outer : List Open) (frame : Frame). open_by (shown_code frame.before.items) frame.opened ∷ outer) [] frames (f ∷ [])

pub pieces_measured : (pieces : List Piece) (p : Piece) → ArePiecesMeasured pieces → IsPieceMeasured (piece_of p) → ArePiecesMeasured (pieces ++ p ∷ [])
pieces_measured [] p m h = (h, m)
pieces_measured (x ∷ xs) p m h = (m.0, pieces_measured xs p m.1 h)

pub frames_measured : (frames : List Frame) (f : Frame) → AreFramesMeasured frames → ArePiecesMeasured f.before.items → IsOpenedMeasured f.opened
    → AreFramesMeasured (frames ++ f ∷ [])
frames_measured [] f m h g = (h, g, m)
frames_measured (x ∷ xs) f m h g = (m.0, m.1, frames_measured xs f m.2 h g)

pub last_measured : (frames : List Frame) (f : Frame) → AreFramesMeasured (frames ++ f ∷ [])
    → AreFramesMeasured frames × ArePiecesMeasured f.before.items × IsOpenedMeasured f.opened
last_measured [] f m = (m.2, m.0, m.1)
last_measured (x ∷ xs) f m = let others = last_measured xs f m.2 in ((m.0, m.1, others.0), others.1, others.2)

-- where there is a frame, something is open
never : (frames : List Frame) (x : Open) (outer : List Open)
    → fold (λ outer (frame : Frame). open_by (shown_code frame.before.items) frame.opened ∷ outer) (x ∷ outer) frames ≡ [] → ⊥
never [] x outer e = cc
never (frame ∷ frames) x outer e = never frames (open_by (shown_code frame.before.items) frame.opened) (x ∷ outer) e

pub left_open : (frames : List Frame) → (length frames ≡ 0 → ⊥) → outer_of frames ≡ [] → ⊥
left_open [] some e = some refl
left_open (frame ∷ frames) some e = never frames (open_by (shown_code frame.before.items) frame.opened) [] e
