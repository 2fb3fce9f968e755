-- How far a source is read: its pieces so far, and what is left of it.
use Rattle.std.proofs.Common.{◌≡◌, ℕ, ◌+◌, ◌-◌, ◌^◌, ◌<◌, ◌≤◌, Option, Some, None, Ok, Err, List, [], ◌∷◌, ◌++◌, length, take, drop, get_or, true, refl, sym, ap, subst, ◌∙◌, arith, append_assoc, append-nil, length-append, length-drop}
use Rattle.std.proofs.Math.Seq.{drop-append_seam}
use Rattle.std.proofs.lemmas.List.{length-take-le, take-append-drop}
use Rattle.fk_lex.specs.declared.step.Beginning.TheVariants as begins
use Rattle.fk_lex.specs.declared.step.FaultKind.{FaultKind}
use Rattle.fk_lex.specs.declared.step.Step.{Step}
use Rattle.fk_lex.specs.declared.step.Step.TheVariants.{Gap, Token, Fault}
use Rattle.fk_lex.specs.declared.step.FaultKind.TheVariants as kinds
use Rattle.fk_lex.specs.declared.token.LexFault.{LexFault}
use Rattle.fk_lex.specs.declared.token.TokenKind.{TokenKind}
use Rattle.fk_syntax.specs.declared.place.Place.{Place}
use Rattle.fk_lex.specs.View.{IsFault}
use Rattle.fk_lex.specs.declared.position.Position.{Position}
use Rattle.fk_lex.specs.Bytes.{is_blank}
use Rattle.fk_lex.specs.Moves.{HasPlace, position_of, next, after, place_of}
use Rattle.fk_lex.specs.Positions.{place_behind}
use Rattle.fk_lex.specs.Reading.{Spelled, fault_at, token_of, IsPiece, Cuts, spelled_by, tokens_in, Tokens, Faults}
use Rattle.fk_lex.specs.Sizes.{size_of}
use Rattle.fk_lex.specs.Steps.{beginning_of, StepBy, NextStep}
use Rattle.fk_lex.proofs.Extents.{Within, few_newlines, step_within}
use Rattle.fk_lex.proofs.Lines.{position_more, after_offset, place_is}
use Rattle.fk_lex.proofs.Tests.{if_true}

-- a source is read up to this position, with these tokens so far
pub record Reached (source : List ℕ) (tokens : List Spelled) (at : Position) (rest : List ℕ) : Type 0 where
  pub before : List ℕ
  pub pieces : List Step
  pub here : at ≡ position_of before
  pub split : source ≡ before ++ rest
  pub onward : (more : List Step) (end : Option LexFault) → Cuts more before rest end → Cuts (pieces ++ more) [] source end
  pub listed : (more : List Step) → tokens_in (pieces ++ more) [] source ≡ tokens ++ tokens_in more before rest
  pub few : length tokens + length rest ≤ length source

pub reached_start : (source : List ℕ) → Reached source [] (position_of []) source
reached_start source = record {
  before = [];
  pieces = [];
  here = refl;
  split = refl;
  onward = λ more end cuts. cuts;
  listed = λ more. refl;
  few = omega arith;
}

one_token : (step : Step) (before text : List ℕ) → length (spelled_by step before text) ≤ 1
one_token (Gap n) before text = omega arith
one_token (Token n kind) before text = omega arith
one_token (Fault n kind) before text = omega arith

piece_within : (step : Step) (text : List ℕ) → IsPiece step → Within step text → (0 < size_of step) × (size_of step ≤ length text)
piece_within (Gap n) text piece within = within
piece_within (Token n kind) text piece within = within
piece_within (Fault n kind) text piece within = absurd piece

-- a piece is passed, with this token or none
passed : (source : List ℕ) (tokens list : List Spelled) (at behind : Position) (rest : List ℕ) (step : Step) (reached : Reached source tokens at rest) → 0 < length rest → NextStep reached.before rest step → IsPiece step → behind ≡ after at (take (size_of step) rest) → list ≡ tokens ++ spelled_by step reached.before rest → Reached source list behind (drop (size_of step) rest)
passed source tokens list at behind rest step reached some stands piece behind_is list_is =
    let before = reached.before in
    let now = before ++ take (size_of step) rest in
    let within = piece_within step rest piece (step_within before rest step some stands) in
    let size : length (take (size_of step) rest) ≡ size_of step = length-take-le (size_of step) rest within.1 in
    let left : length (drop (size_of step) rest) + size_of step ≡ length rest = omega (arith, length-drop (size_of step) rest) in
    let were_few = reached.few in
    record {
      before = now;
      pieces = reached.pieces ++ step ∷ [];
      here = behind_is ∙ ap (λ at. after at (take (size_of step) rest)) reached.here ∙ sym (position_more before (take (size_of step) rest));
      split =
          reached.split ∙ ap (λ l. before ++ l) (sym (take-append-drop (size_of step) rest)) ∙ sym (append_assoc before (take (size_of step) rest) (drop (size_of step) rest));
      onward = λ more end cuts.
          subst (λ pieces. Cuts pieces [] source end) (sym (append_assoc reached.pieces (step ∷ []) more)) (reached.onward (step ∷ more) end (some, stands, piece, cuts));
      listed = λ more.
          ap (λ pieces. tokens_in pieces [] source) (append_assoc reached.pieces (step ∷ []) more)
          ∙ reached.listed (step ∷ more)
          ∙ sym (append_assoc tokens (spelled_by step before rest) (tokens_in more now (drop (size_of step) rest)))
          ∙ ap (λ list. list ++ tokens_in more now (drop (size_of step) rest)) (sym list_is);
      few =
          let one = one_token step before rest in
          let longer = ap length list_is ∙ length-append tokens (spelled_by step before rest) in
          omega arith;
    }

-- a piece leaves less
pub reached_less : (before rest : List ℕ) (step : Step) → 0 < length rest → NextStep before rest step → IsPiece step → length (drop (size_of step) rest) < length rest
reached_less before rest step some stands piece =
    let within = piece_within step rest piece (step_within before rest step some stands) in
    omega (arith, length-drop (size_of step) rest)

-- nothing is left
pub reached_end : (source : List ℕ) (tokens : List Spelled) (at : Position) (rest : List ℕ) → Reached source tokens at rest → rest ≡ [] → Tokens source tokens
reached_end source tokens at rest reached empty =
    let whole = reached.onward [] None empty in
    (reached.pieces ++ [], whole, sym (append-nil tokens) ∙ sym (reached.listed []))

within_size : (step : Step) (text : List ℕ) → Within step text → size_of step ≤ length text
within_size (Gap n) text within = within.1
within_size (Token n kind) text within = within.1
within_size (Fault n kind) text within = omega arith

-- what stands there is not longer than what is left
pub step_size : (before rest : List ℕ) (step : Step) → 0 < length rest → NextStep before rest step → size_of step ≤ length rest
step_size before rest step some stands = within_size step rest (step_within before rest step some stands)

-- what a step is, by the token that it gives
pub gives_none : (step : Step) (place : Place) → Ok None ≡ token_of step place → (n : ℕ) × (step ≡ Gap n)
gives_none (Gap n) place e = (n, refl)
gives_none (Token n kind) place e = cc
gives_none (Fault n kind) place e = cc

pub gives_kind : (step : Step) (place : Place) (kind : TokenKind) → Ok (Some kind) ≡ token_of step place → (n : ℕ) × (step ≡ Token n kind)
gives_kind (Gap n) place kind e = cc
gives_kind (Token n own) place kind e = (n, cc)
gives_kind (Fault n own) place kind e = cc

pub gives_fault : (step : Step) (place : Place) (found : LexFault) → Err found ≡ token_of step place → (n : ℕ) × (kind : FaultKind) × (step ≡ Fault n kind) × (found ≡ fault_at kind place)
gives_fault (Gap n) place found e = cc
gives_fault (Token n kind) place found e = cc
gives_fault (Fault n kind) place found e = (n, kind, refl, cc)

-- a gap
pub reached_gap : (source : List ℕ) (tokens : List Spelled) (at behind : Position) (rest : List ℕ) (step : Step) (n : ℕ) (reached : Reached source tokens at rest) → step ≡ Gap n → behind ≡ after at (take (size_of step) rest) → 0 < length rest → NextStep reached.before rest step → Reached source tokens behind (drop (size_of step) rest)
reached_gap source tokens at behind rest step n reached is behind_is some stands =
    passed source tokens tokens at behind rest step reached some stands (subst IsPiece (sym is) tt) behind_is
    (sym (ap (λ s. tokens ++ spelled_by s reached.before rest) is ∙ append-nil tokens))

one_byte : (rest : List ℕ) → 0 < length rest → take 1 rest ≡ get_or rest 0 0 ∷ []
one_byte [] some = absurd (omega arith)
one_byte (c ∷ cs) some = refl

blank_begins : (c d : ℕ) → is_blank c ≡ true → beginning_of c d ≡ begins.Blank
blank_begins c d blank = if_true (is_blank c) begins.Blank _ blank

-- a blank
pub reached_blank : (source : List ℕ) (tokens : List Spelled) (at behind : Position) (rest : List ℕ) → Reached source tokens at rest → 0 < length rest → is_blank (get_or rest 0 0) ≡ true → behind ≡ next at (get_or rest 0 0) → Reached source tokens behind (drop 1 rest)
reached_blank source tokens at behind rest reached some blank behind_is =
    reached_gap source tokens at behind rest (Gap 1) 1 reached refl (behind_is ∙ ap (after at) (sym (one_byte rest some))) some
    (subst (λ b. StepBy b reached.before rest (Gap 1)) (sym (blank_begins (get_or rest 0 0) (get_or rest 1 0) blank)) refl)

-- a token
pub reached_token : (source : List ℕ) (tokens list : List Spelled) (at behind : Position) (rest : List ℕ) (step : Step) (n : ℕ) (kind : TokenKind) (reached : Reached source tokens at rest) → step ≡ Token n kind → behind ≡ after at (take (size_of step) rest) → list ≡ tokens ++ record { kind = kind; bytes = take (size_of step) rest; place = place_of at } ∷ [] → 0 < length rest → NextStep reached.before rest step → Reached source list behind (drop (size_of step) rest)
reached_token source tokens list at behind rest step n kind reached is behind_is list_is some stands =
    let one : spelled_by step reached.before rest ≡ record { kind = kind; bytes = take (size_of step) rest; place = place_of at } ∷ [] =
    ap (λ s. spelled_by s reached.before rest) is
    ∙ ap (λ n. record { kind = kind; bytes = take n rest; place = place_behind reached.before } ∷ []) (sym (ap size_of is))
    ∙ ap (λ place. record { kind = kind; bytes = take (size_of step) rest; place = place } ∷ []) (sym (place_is reached.before))
    ∙ ap (λ at. record { kind = kind; bytes = take (size_of step) rest; place = place_of at } ∷ []) (sym reached.here) in
    passed source tokens list at behind rest step reached some stands (subst IsPiece (sym is) tt) behind_is (list_is ∙ ap (λ l. tokens ++ l) (sym one))

pub gap_is_piece : (step : Step) (n : ℕ) → step ≡ Gap n → IsPiece step
gap_is_piece step n is = subst IsPiece (sym is) tt

pub token_is_piece : (step : Step) (n : ℕ) (kind : TokenKind) → step ≡ Token n kind → IsPiece step
token_is_piece step n kind is = subst IsPiece (sym is) tt

-- what is left is what stands behind the position
pub reached_rest : (source : List ℕ) (tokens : List Spelled) (at : Position) (rest : List ℕ) → Reached source tokens at rest → rest ≡ drop at.offset source
reached_rest source tokens at rest reached =
    sym (ap (λ at. drop at.offset source) reached.here ∙ ap (drop (length reached.before)) reached.split ∙ drop-append_seam reached.before rest)

pub some_left : (source rest : List ℕ) (offset : ℕ) → offset < length source → rest ≡ drop offset source → 0 < length rest
some_left source rest offset inside is = omega (arith, ap length is, length-drop offset source)

-- a piece moves on
pub nearer : (source before rest : List ℕ) (at behind : Position) (step : Step) → 0 < length rest → NextStep before rest step → IsPiece step → rest ≡ drop at.offset source → behind ≡ after at (take (size_of step) rest) → length source - behind.offset < length source - at.offset
nearer source before rest at behind step some stands piece is behind_is =
    let within = piece_within step rest piece (step_within before rest step some stands) in
    let size : length (take (size_of step) rest) ≡ size_of step = length-take-le (size_of step) rest within.1 in
    let more = within.0 in
    let offset = ap (λ at. at.offset) behind_is ∙ after_offset at (take (size_of step) rest) in
    let left = ap length is ∙ length-drop at.offset source in
    omega arith

pub reached_on : (source : List ℕ) (tokens : List Spelled) (at : Position) (rest : List ℕ) → Reached source tokens at rest → Reached source tokens at (drop at.offset source)
reached_on source tokens at rest reached = subst (Reached source tokens at) (reached_rest source tokens at rest reached) reached

-- where a position is in its source
pub record Bounded (source : List ℕ) (at : Position) (rest : List ℕ) : Type 0 where
  pub lines : at.lines ≤ at.offset
  pub line : at.line_start ≤ at.offset
  pub offset : at.offset + length rest ≡ length source

bounded : (source before rest : List ℕ) (at : Position) → source ≡ before ++ rest → at ≡ position_of before → Bounded source at rest
bounded source before rest at split here =
    let lines = ap (λ at. at.lines) here in
    let start = ap (λ at. at.line_start) here in
    let offset = ap (λ at. at.offset) here in
    let whole = ap length split ∙ length-append before rest in
    record { lines = omega (arith, few_newlines before); line = omega arith; offset = omega arith }

pub reached_bounded : (source : List ℕ) (tokens : List Spelled) (at : Position) (rest : List ℕ) → Reached source tokens at rest → Bounded source at rest
reached_bounded source tokens at rest reached = bounded source reached.before rest at reached.split reached.here

-- the place of a fault is that of a byte
pub fault_bounded : (source : List ℕ) (tokens : List Spelled) (at behind : Position) (rest : List ℕ) (step : Step) (n : ℕ) (kind : FaultKind) (reached : Reached source tokens at rest) → step ≡ Fault n kind → behind ≡ after at (take (size_of step) rest) → 0 < length rest → NextStep reached.before rest step → (Bounded source behind (drop (size_of step) rest)) × (behind.offset + 1 ≤ length source)
fault_bounded source tokens at behind rest step n kind reached is behind_is some stands =
    let front = take (size_of step) rest in
    let inside : n < length rest = subst (λ s. Within s rest) is (step_within reached.before rest step some stands) in
    let size : size_of step ≡ n = ap size_of is in
    let here = behind_is ∙ ap (λ at. after at front) reached.here ∙ sym (position_more reached.before front) in
    let split =
    reached.split ∙ ap (λ l. reached.before ++ l) (sym (take-append-drop (size_of step) rest)) ∙ sym (append_assoc reached.before front (drop (size_of step) rest)) in
    let known = bounded source (reached.before ++ front) (drop (size_of step) rest) behind split here in
    let offset = known.offset in
    (known, omega (arith, length-drop (size_of step) rest))

-- and its line and column are below 2^32
pub has_place : (source : List ℕ) (at : Position) (rest : List ℕ) → Bounded source at rest → at.offset + 1 ≤ length source → length source < 2 ^ 32 → HasPlace at
has_place source at rest known inside short =
    let lines = known.lines in
    record { lines = omega arith; line = known.line; offset = omega arith }

own_fault : (text : List ℕ) (kind : FaultKind) (place : Place) → Faults text (fault_at kind place) → IsFault text (fault_at kind place)
own_fault text kinds.BadByte place faults = faults
own_fault text kinds.OpenComment place faults = faults
own_fault text kinds.OpenString place faults = faults
own_fault text kinds.WideNumber place faults = faults

-- the fault that is answered is the text's own
pub reached_own_fault : (source : List ℕ) (tokens : List Spelled) (at behind : Position) (rest : List ℕ) (step : Step) (n : ℕ) (kind : FaultKind) (found : LexFault) (reached : Reached source tokens at rest) → step ≡ Fault n kind → behind ≡ after at (take (size_of step) rest) → found ≡ fault_at kind (place_of behind) → 0 < length rest → NextStep reached.before rest step → IsFault source found
reached_own_fault source tokens at behind rest step n kind found reached is behind_is found_is some stands =
    let before = reached.before in
    let place : place_of behind ≡ place_behind (before ++ take n rest) =
    ap place_of (behind_is ∙ ap (λ at. after at (take (size_of step) rest)) reached.here ∙ sym (position_more before (take (size_of step) rest)))
    ∙ place_is (before ++ take (size_of step) rest)
    ∙ ap (λ s. place_behind (before ++ take (size_of s) rest)) is in
    let known : found ≡ fault_at kind (place_behind (before ++ take n rest)) = found_is ∙ ap (fault_at kind) place in
    subst (IsFault source) (sym known) (own_fault source kind (place_behind (before ++ take n rest)) (
      reached.pieces ++ [],
      reached.onward [] (Some (fault_at kind (place_behind (before ++ take n rest)))) (n, kind, some, subst (NextStep before rest) is stands, refl),
    ))

pub empty_list : (rest : List ℕ) → length rest ≡ 0 → rest ≡ []
empty_list [] none = refl
empty_list (c ∷ cs) none = absurd (omega arith)
