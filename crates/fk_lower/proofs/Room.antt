-- The lists of code from a piece on have room where that of the whole code has, and code begins within its list.
use Rattle.std.proofs.Common.{◌≡◌, ℕ, zero, suc, ◌+◌, ◌*◌, ◌^◌, ◌<◌, ◌≤◌, Bool, true, false, List, [], ◌∷◌, length, get_or, ap, ◌∙◌, sym, refl, arith}
use Rattle.std.specs.Prelude.{◌==◌, ◌&&◌, ◌||◌}
use Rattle.fk_meaning_forms.specs.Code.{Code, done, perform, choose, while, until, turn, again, quit, break, continue, call, ends, size}
use Rattle.fk_core_flat.specs.Items.{way_of, goes_away}
use Rattle.fk_core_flat.specs.Flat.{begins_here, gap, extent}
use Rattle.fk_lower.specs.declared.block.Piece.{Piece}
use Rattle.fk_lower.specs.declared.span.Start.{Start}
use Rattle.fk_lower.specs.declared.span.Start.TheVariants as s
use Rattle.fk_lower.specs.declared.span.Span.{Span}
use Rattle.fk_lower.specs.declared.span.Spans.{Spans}
use Rattle.fk_lower.specs.Spans.{round, offset, start_of, span_in, StartsWithin}
use Rattle.fk_lower.specs.Tree.{PieceTree, Perform, Choose, While, Until, Quit, Break, Continue, Call, Ends, Pieces, Part, code_of, IsMeasured, IsPartMeasured}
use Rattle.fk_lower.specs.View.{piece_of}
use Rattle.fk_lower.specs.Measures.{before, measured}
use Rattle.fk_lower.specs.Written.{behind_of}
use Rattle.fk_lower.proofs.Back.{from, measured_more}
use Rattle.fk_lower.proofs.Measuring.{measures}

-- ---- code begins within its list

within_round : (s rest : Start) (b t e : ℕ) → offset s ≤ b → offset rest ≤ e → offset (round s b (b + t) rest) ≤ b + t + e
within_round (s.At n) rest b t e h k = omega (arith, h)
within_round s.Next rest b t e h k = omega arith
within_round s.Onward rest b t e h k = omega arith
within_round s.Behind (s.At n) b t e h k = omega (arith, k)
within_round s.Behind s.Next b t e h k = omega arith
within_round s.Behind s.Behind b t e h k = omega arith
within_round s.Behind s.Onward b t e h k = omega arith

starts_within : (code : Code ℕ) (near : Bool) → offset (start_of code) ≤ extent near code
starts_within done near = omega arith
starts_within (perform n op rest) near = omega arith
starts_within (choose n op x y rest) near = omega arith
starts_within (while t b s rest) near = omega arith
starts_within (until body test rest) near =
    within_round (start_of body) (start_of rest) (extent true body) (extent false test) (extent near rest) (starts_within body true) (starts_within rest near)
starts_within (turn t b s rest) near = omega arith
starts_within (again t b s rest) near = omega arith
starts_within (quit n op rest) near = omega arith
starts_within (break rest) near = omega arith
starts_within (continue rest) near = omega arith
starts_within (call n op f opening rest) near = omega arith
starts_within (ends n op rest) near = omega arith

pub measured_within : (near : Bool) (pieces : Pieces) → IsMeasured pieces → offset (measured near pieces).start ≤ (measured near pieces).extent
measured_within near pieces m =
    let e = measures pieces m near in
    let a = ap (λ (span : Span). offset span.start) e in
    let b = ap (λ (span : Span). span.extent) e in
    omega (arith, a, b, starts_within (code_of pieces) near)

-- what is measured of a block is what is measured of its pieces
pub measured_span : (part : Part) (near : Bool) → IsPartMeasured part → span_in part.spans near ≡ measured near part.pieces
measured_span part true m = ap (λ (spans : Spans). spans.near) m.0 ∙ sym (measures part.pieces m.1 true)
measured_span part false m = ap (λ (spans : Spans). spans.far) m.0 ∙ sym (measures part.pieces m.1 false)

pub span_within : (part : Part) (near : Bool) → IsPartMeasured part → offset (span_in part.spans near).start ≤ (span_in part.spans near).extent
span_within part near m =
    let e = measured_span part near m in
    let a = ap (λ (span : Span). offset span.start) e in
    let b = ap (λ (span : Span). span.extent) e in
    omega (arith, a, b, measured_within near part.pieces m.1)

-- ---- what stands behind a piece has no longer a list than both

more : (p : PieceTree) (rest : Span) → rest.extent ≤ (before p rest).extent
more (Perform act) rest = omega arith
more (Choose act x of_x y of_y) rest = omega arith
more (While test of_test body of_body step of_step) rest = omega arith
more (Until body of_body test of_test) rest = omega arith
more (Quit act) rest = omega arith
more Break rest = omega arith
more Continue rest = omega arith
more (Call act function opening of_opening) rest = omega arith
more (Ends act) rest = omega arith

pub stays : (p : PieceTree) (rest : Span) (i : ℕ) → behind_of p rest i + rest.extent ≡ i + (before p rest).extent
stays (Perform act) rest i = omega arith
stays (Choose act x of_x y of_y) rest i = omega arith
stays (While test of_test body of_body step of_step) rest i = omega arith
stays (Until body of_body test of_test) rest i = omega arith
stays (Quit act) rest i = omega arith
stays Break rest i = omega arith
stays Continue rest i = omega arith
stays (Call act function opening of_opening) rest i = omega arith
stays (Ends act) rest i = omega arith

rises : (near : Bool) (pieces : List Piece) (i : ℕ) → (measured near (from pieces i)).extent ≤ (measured near (from pieces 0)).extent
rises near pieces zero = omega arith
rises near [] (suc i) = omega arith
rises near (x ∷ pieces) (suc i) =
    let a = rises near pieces i in
    let b = more (piece_of x) (measured near (from pieces 0)) in
    omega (arith, a, b)

measured_from : (pieces : List Piece) (i : ℕ) → IsMeasured (from pieces 0) → IsMeasured (from pieces i)
measured_from pieces zero m = m
measured_from [] (suc i) m = tt
measured_from (x ∷ pieces) (suc i) m = measured_from pieces i m.1

pub room_at : (pieces : List Piece) (near : Bool) (i j : ℕ) (d : Piece) (span : Span) → j + 1 ≡ i → i ≤ length pieces → span ≡ measured near (from pieces i)
    → (before (piece_of (get_or pieces j d)) span).extent ≤ (measured near (from pieces 0)).extent
room_at pieces near i j d span e h same =
    let a = ap (λ (span : Span). span.extent) (measured_more pieces near i j d e h) in
    let b = ap (λ (span : Span). (before (piece_of (get_or pieces j d)) span).extent) same in
    omega (arith, a, b, rises near pieces j)

-- so there is room for one piece more, further back
pub room_by : (pieces : List Piece) (near : Bool) (i j : ℕ) (x : Piece) (span : Span) → j + 1 ≡ i → i ≤ length pieces → x ≡ get_or pieces j x
    → span ≡ measured near (from pieces i) → (measured near (from pieces 0)).extent < 2 ^ 32 → (before (piece_of x) span).extent < 2 ^ 32
room_by pieces near i j x span e h is same room =
    let a = room_at pieces near i j x span e h same in
    let b = ap (λ (y : Piece). (before (piece_of y) span).extent) is in
    omega (arith, a, b, room)

pub within_at : (pieces : List Piece) (near : Bool) (i : ℕ) (span : Span) → IsMeasured (from pieces 0) → span ≡ measured near (from pieces i) → StartsWithin span
within_at pieces near i span m same =
    let w = measured_within near (from pieces i) (measured_from pieces i m) in
    let a = ap (λ (span : Span). offset span.start) same in
    let b = ap (λ (span : Span). span.extent) same in
    omega (arith, w, a, b)

-- ---- each operation has three entries of a list at most

gap_low : (here : Bool) → gap here ≤ 1
gap_low true = omega arith
gap_low false = omega arith

pub extent_few : (code : Code ℕ) (near : Bool) → extent near code ≤ 3 * size code
extent_few done near = omega arith
extent_few (perform n op rest) near =
    omega (arith, gap_low (goes_away (way_of op) || begins_here near rest), extent_few rest near)
extent_few (choose n op x y rest) near =
    let after = begins_here near rest in
    let beside = after && (extent after y == 0) in
    omega (arith, gap_low (begins_here beside x), extent_few x beside, extent_few y after, extent_few rest near)
extent_few (while test body step rest) near =
    let steps = begins_here false step in
    omega (arith, extent_few test (begins_here steps body), extent_few body steps, extent_few step false, extent_few rest near)
extent_few (until body test rest) near = omega (arith, extent_few body true, extent_few test false, extent_few rest near)
extent_few (turn t b s rest) near = omega arith
extent_few (again t b s rest) near = omega arith
extent_few (quit n op rest) near = omega (arith, gap_low (begins_here near rest), extent_few rest near)
extent_few (break rest) near = extent_few rest near
extent_few (continue rest) near = extent_few rest near
extent_few (call n op f opening rest) near =
    omega (arith, gap_low (begins_here near rest), extent_few opening true, extent_few rest near)
extent_few (ends n op rest) near = omega (arith, extent_few rest near)

pub measured_few : (near : Bool) (pieces : Pieces) → IsMeasured pieces → (measured near pieces).extent ≤ 3 * size (code_of pieces)
measured_few near pieces m =
    let a = ap (λ (span : Span). span.extent) (measures pieces m near) in
    omega (arith, a, extent_few (code_of pieces) near)

pub few_room : (near : Bool) (pieces slice : List Piece) → slice ≡ pieces → IsMeasured (from pieces 0) → 3 * size (code_of (from pieces 0)) < 2 ^ 32
    → (measured near (from slice 0)).extent < 2 ^ 32
few_room near pieces slice same m few =
    let a = measured_few near (from pieces 0) m in
    let b = ap (λ (pieces : List Piece). (measured near (from pieces 0)).extent) same in
    omega (arith, a, b, few)

-- the piece at an index, with the code behind it, has the room of what is left
pub room_left : (pieces : List Piece) (near : Bool) (i here : ℕ) (x : Piece) (rest : Span) → i < length pieces → x ≡ get_or pieces i x
    → rest ≡ measured near (from pieces (i + 1)) → here + (measured near (from pieces i)).extent < 2 ^ 32
    → here + (before (piece_of x) rest).extent < 2 ^ 32
room_left pieces near i here x rest h is same room =
    let a = ap (λ (span : Span). span.extent) (measured_more pieces near (i + 1) i x refl (omega (arith, h))) in
    let b = ap (λ (span : Span). (before (piece_of (get_or pieces i x)) span).extent) same in
    let d = ap (λ (y : Piece). (before (piece_of y) rest).extent) is in
    omega (arith, a, b, d, room)

pub within_left : (pieces : List Piece) (near : Bool) (i : ℕ) → IsMeasured (from pieces i) → offset (measured near (from pieces i)).start ≤ (measured near (from pieces i)).extent
within_left pieces near i m = measured_within near (from pieces i) m
