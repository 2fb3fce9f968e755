-- What is measured of pieces is what their code is.
use Rattle.std.proofs.Common.{◌≡◌, ℕ, suc, ◌+◌, Bool, true, false, ap, ap₂, ◌∙◌, refl, arith}
use Rattle.std.specs.Prelude.{◌==◌, ◌&&◌, ◌||◌}
use Rattle.fk_meaning_forms.specs.Code.{Code}
use Rattle.fk_core_flat.specs.Items.{way_of, goes_away}
use Rattle.fk_core_flat.specs.Flat.{begins_here, gap, extent}
use Rattle.fk_lower.specs.declared.span.Span.{Span}
use Rattle.fk_lower.specs.declared.span.Spans.{Spans}
use Rattle.fk_lower.specs.Spans.{round, start_of, span_of, spans_of, span_in}
use Rattle.fk_lower.specs.Tree.{PieceTree, Perform, Choose, While, Until, Quit, Break, Continue, Call, Ends, Pieces, no_pieces, piece, code_of, code_before, IsMeasured, IsPieceMeasured}
use Rattle.fk_lower.specs.Measures.{beginning, is_beside, before, measured}

span_is : (b : Bool) (code : Code ℕ) → span_in (spans_of code) b ≡ span_of b code
span_is true code = refl
span_is false code = refl

pub span_at : (spans : Spans) (code : Code ℕ) → spans ≡ spans_of code → (b d : Bool) → b ≡ d → span_in spans b ≡ span_of d code
span_at spans code e b d h = ap₂ (λ s b. span_in s b) e h ∙ span_is d code

-- the first way of a choice is beside what follows it
pub besides : (spans : Spans) (y rest : Code ℕ) → spans ≡ spans_of y → (near : Bool)
    → is_beside spans (span_of near rest) ≡ (begins_here near rest && (extent (begins_here near rest) y == 0))
besides spans y rest e near =
    let after = begins_here near rest in ap (λ (s : Span). after && (s.extent == 0)) (span_at spans y e after after refl)

extents : (s t : Span) → s ≡ t → s.extent ≡ t.extent
extents s t e = ap (λ (s : Span). s.extent) e

heres : (s t : Span) → s ≡ t → s.here ≡ t.here
heres s t e = ap (λ (s : Span). s.here) e

one : (p : PieceTree) (rest : Code ℕ) (near : Bool) → IsPieceMeasured p → before p (span_of near rest) ≡ span_of near (code_before p rest)
one (Perform act) rest near m =
    let here = goes_away (way_of act.operation) || begins_here near rest in
    let e : 1 + gap here + extent near rest ≡ suc (gap here + extent near rest) = omega arith in
    ap beginning e
one (Choose act x of_x y of_y) rest near m =
    let after = begins_here near rest in
    let beside = after && (extent after (code_of y) == 0) in
    let second = span_at of_y (code_of y) m.2 after after refl in
    let first = span_at of_x (code_of x) m.0 (is_beside of_y (span_of near rest)) beside (besides of_y (code_of y) rest m.2 near) in
    let here = begins_here beside (code_of x) in
    let e : 1 + gap here + extent beside (code_of x) + extent after (code_of y) + extent near rest
    ≡ suc (gap here + extent beside (code_of x) + extent after (code_of y) + extent near rest) = omega arith in
    ap₂ (λ (x y : Span). beginning (1 + gap x.here + x.extent + y.extent + extent near rest)) first second ∙ ap beginning e
one (While test of_test body of_body step of_step) rest near m =
    let stepping = ap (λ (s : Spans). s.far) m.4 in
    let steps = begins_here false (code_of step) in
    let enters = begins_here steps (code_of body) in
    let turn = span_at of_body (code_of body) m.2 of_step.far.here steps (heres of_step.far (span_of false (code_of step)) stepping) in
    let first = span_at of_test (code_of test) m.0 (span_in of_body of_step.far.here).here enters (heres (span_in of_body of_step.far.here) (span_of steps (code_of body)) turn) in
    ap₂ (λ (x y : Span). beginning (x.extent + y.extent + of_step.far.extent + extent near rest)) first turn
    ∙ ap (λ (z : Span). beginning (extent enters (code_of test) + extent steps (code_of body) + z.extent + extent near rest)) stepping
one (Until body of_body test of_test) rest near m =
    ap₂ (λ (x y : Span). let body : Span = x in record { here = body.here; extent = body.extent + y.extent + extent near rest; start = round body.start body.extent (body.extent + y.extent) (start_of rest) })
    (ap (λ (s : Spans). s.near) m.0) (ap (λ (s : Spans). s.far) m.2)
one (Quit act) rest near m =
    let here = begins_here near rest in
    let e : 1 + gap here + extent near rest ≡ suc (gap here + extent near rest) = omega arith in
    ap beginning e
one Break rest near m = refl
one Continue rest near m = refl
one (Call act function opening of_opening) rest near m =
    let here = begins_here near rest in
    let e : 2 + extent true (code_of opening) + gap here + extent near rest ≡ suc (suc (extent true (code_of opening) + gap here + extent near rest)) = omega arith in
    ap (λ (s : Spans). beginning (2 + s.near.extent + gap here + extent near rest)) m.0 ∙ ap beginning e
one (Ends act) rest near m =
    let e : 1 + extent near rest ≡ suc (extent near rest) = omega arith in
    ap beginning e

pub measures : (pieces : Pieces) → IsMeasured pieces → (near : Bool) → measured near pieces ≡ span_of near (code_of pieces)
measures no_pieces m near = refl
measures (piece first others) m near = ap (before first) (measures others m.1 near) ∙ one first (code_of others) near m.0

pub spans_are : (pieces : Pieces) → IsMeasured pieces → (far near : Span) → far ≡ measured false pieces → near ≡ measured true pieces
    → record { far = far; near = near } ≡ spans_of (code_of pieces)
spans_are pieces m far near e f =
    ap₂ (λ (far near : Span). let spans : Spans = record { far = far; near = near } in spans) (e ∙ measures pieces m false) (f ∙ measures pieces m true)
