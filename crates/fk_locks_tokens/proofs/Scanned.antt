-- The tokens of the first pieces of a text, computed piece by piece.
use Rattle.std.proofs.Common.{◌≡◌, ℕ, zero, suc, Option, Some, None, List, [], ◌∷◌, ◌++◌, take, drop, refl, sym, ap, subst, ◌∙◌}
use Rattle.fk_lex.specs.declared.position.Position.{Position}
use Rattle.fk_lex.specs.declared.step.Step.{Step}
use Rattle.fk_lex.specs.declared.step.Step.TheVariants.{Gap, Token, Fault}
use Rattle.fk_lex.specs.Moves.{position_of, after, place_of}
use Rattle.fk_lex.specs.Positions.{place_behind}
use Rattle.fk_lex.specs.Reading.{Spelled, Cuts, IsPiece, tokens_in}
use Rattle.fk_lex.specs.Sizes.{size_of}
use Rattle.fk_lex.proofs.Determined.{next_step_once}
use Rattle.fk_lex.proofs.Lines.{position_more, place_is}
use Rattle.fk_locks_tokens.specs.Text.{lock_bytes}
use Rattle.fk_locks_tokens.specs.Tokens.{lock_tokens, LockTokensFirst}
use Rattle.fk_locks_tokens.proofs.Steps.{step_at, step_is}

abbrev scan_on : (Position → List ℕ → List Spelled) → Option Step → Position → List ℕ → List Spelled
scan_on onward (Some (Gap n)) at text = onward (after at (take n text)) (drop n text)
scan_on onward (Some (Token n kind)) at text =
    record { kind = kind; bytes = take n text; place = place_of at } ∷ onward (after at (take n text)) (drop n text)
scan_on onward step at text = []

-- the tokens of the first pieces of a text, at most as many as this number
abbrev scanned : ℕ → Position → List ℕ → List Spelled
scanned zero at text = []
scanned (suc n) at text = scan_on (scanned n) (step_at text) at text

abbrev BeginsWith : List Spelled → List Spelled → Type 0
BeginsWith tokens first = (more : List Spelled) × (tokens ≡ first ++ more)

abbrev IsScanned : (Position → List ℕ → List Spelled) → Type 0
IsScanned scan = (pieces : List Step) (before text : List ℕ) (at : Position) → at ≡ position_of before → Cuts pieces before text None
    → BeginsWith (tokens_in pieces before text) (scan at text)

moved : (before bytes : List ℕ) (at : Position) → at ≡ position_of before → after at bytes ≡ position_of (before ++ bytes)
moved before bytes at here = ap (λ p. after p bytes) here ∙ sym (position_more before bytes)

nothing_left : (text : List ℕ) (s : Step) → text ≡ [] → Some s ≡ step_at text → ⊥
nothing_left text s none is = let e : Some s ≡ step_at [] = subst (λ t. Some s ≡ step_at t) none is in absurd cc

piece_scanned : (scan : Position → List ℕ → List Spelled) → IsScanned scan → (s p : Step) → s ≡ p → IsPiece p → (pieces : List Step) (before text : List ℕ) (at : Position) → at ≡ position_of before
    → Cuts pieces (before ++ take (size_of p) text) (drop (size_of p) text) None → BeginsWith (tokens_in (p ∷ pieces) before text) (scan_on scan (Some s) at text)
piece_scanned scan is s (Gap n) same piece pieces before text at here cuts =
    subst (λ s. BeginsWith (tokens_in (Gap n ∷ pieces) before text) (scan_on scan (Some s) at text)) (sym same)
    (is pieces (before ++ take n text) (drop n text) (after at (take n text)) (moved before (take n text) at here) cuts)
piece_scanned scan is s (Token n kind) same piece pieces before text at here cuts =
    let rest = is pieces (before ++ take n text) (drop n text) (after at (take n text)) (moved before (take n text) at here) cuts in
    let place : place_behind before ≡ place_of at = sym (place_is before) ∙ ap place_of (sym here) in
    let own : Spelled → List Spelled = λ t. t ∷ (scan (after at (take n text)) (drop n text) ++ rest.0) in
    subst (λ s. BeginsWith (tokens_in (Token n kind ∷ pieces) before text) (scan_on scan (Some s) at text)) (sym same)
    (rest.0, ap (λ (l : List Spelled). record { kind = kind; bytes = take n text; place = place_behind before } ∷ l) rest.1 ∙ ap (λ p. own (record { kind = kind; bytes = take n text; place = p })) place)
piece_scanned scan is s (Fault n kind) same piece pieces before text at here cuts = absurd piece

step_scanned : (scan : Position → List ℕ → List Spelled) → IsScanned scan → (step : Option Step) (pieces : List Step) (before text : List ℕ) (at : Position) → step ≡ step_at text → at ≡ position_of before
    → Cuts pieces before text None → BeginsWith (tokens_in pieces before text) (scan_on scan step at text)
step_scanned scan is None pieces before text at stands here cuts = (tokens_in pieces before text, refl)
step_scanned scan is (Some s) [] before text at stands here cuts = absurd (nothing_left text s cuts stands)
step_scanned scan is (Some s) (p ∷ pieces) before text at stands here cuts =
    piece_scanned scan is s p (next_step_once before text s p (step_is before text s (sym stands)) cuts.1) cuts.2 pieces before text at here cuts.3

are_scanned : (n : ℕ) → IsScanned (scanned n)
are_scanned zero pieces before text at here cuts = (tokens_in pieces before text, refl)
are_scanned (suc n) pieces before text at here cuts = step_scanned (scanned n) (are_scanned n) (step_at text) pieces before text at refl here cuts

abbrev start : Position
start = record { lines = 0; line_start = 0; offset = 0 }

lock_scanned : (user : List ℕ) → scanned 97 start (lock_bytes ++ user) ≡ lock_tokens
lock_scanned user = refl

pub lock_tokens_first : LockTokensFirst
lock_tokens_first user tokens (pieces, cuts, is) =
    let first = are_scanned 97 pieces [] (lock_bytes ++ user) start refl cuts in
    (first.0, is ∙ first.1 ∙ ap (λ l. l ++ first.0) (lock_scanned user))
