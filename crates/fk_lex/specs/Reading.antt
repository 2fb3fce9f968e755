-- The tokens of a text, or its first fault.
use Rattle.std.specs.Prelude.{◌≡◌, ℕ, ◌<◌, ◌⊎◌, Option, Some, None, Result, Ok, Err, List, [], ◌∷◌}
use Rattle.std.specs.Prelude.{◌++◌, length, take, drop}
use Rattle.fk_syntax.specs.declared.place.Place.{Place}
use Rattle.fk_lex.specs.declared.token.TokenKind.{TokenKind}
use Rattle.fk_lex.specs.declared.token.LexFault.{LexFault}
use Rattle.fk_lex.specs.declared.token.LexFault.TheVariants as fault
use Rattle.fk_lex.specs.declared.step.FaultKind.{FaultKind}
use Rattle.fk_lex.specs.declared.step.FaultKind.TheVariants as kinds
use Rattle.fk_lex.specs.declared.step.Step.{Step}
use Rattle.fk_lex.specs.declared.step.Step.TheVariants.{Gap, Token, Fault}
use Rattle.fk_lex.specs.Positions.{place_behind}
use Rattle.fk_lex.specs.Sizes.{size_of}
use Rattle.fk_lex.specs.Steps.{NextStep}

-- a token: its kind, its bytes, and the place of the first of them
pub record Spelled : Type 0 where
  pub kind : TokenKind
  pub bytes : List ℕ
  pub place : Place

abbrev pub fault_at : FaultKind → Place → LexFault
fault_at kinds.BadByte place = fault.BadByte place
fault_at kinds.OpenComment place = fault.OpenComment place
fault_at kinds.OpenString place = fault.OpenString place
fault_at kinds.WideNumber place = fault.WideNumber place

-- the kind of the token that a step gives, if it gives one; or the fault at this place
abbrev pub token_of : Step → Place → Result (Option TokenKind) LexFault
token_of (Gap n) place = Ok None
token_of (Token n kind) place = Ok (Some kind)
token_of (Fault n kind) place = Err (fault_at kind place)

-- a step is a gap or a token
abbrev pub IsPiece : Step → Type 0
IsPiece (Gap n) = Unit {0}
IsPiece (Token n kind) = Unit {0}
IsPiece (Fault n kind) = ⊥

-- a text that follows the bytes `before` is cut into these pieces up to its end or up to a fault
abbrev pub Cuts : List Step → List ℕ → List ℕ → Option LexFault → Type 0
Cuts [] before text None = text ≡ []
Cuts [] before text (Some fault) =
    (n : ℕ) × (kind : FaultKind) × (0 < length text) × NextStep before text (Fault n kind)
    × (fault ≡ fault_at kind (place_behind (before ++ take n text)))
Cuts (piece ∷ pieces) before text end =
    (0 < length text) × NextStep before text piece × IsPiece piece
    × Cuts pieces (before ++ take (size_of piece) text) (drop (size_of piece) text) end

abbrev pub spelled_by : Step → List ℕ → List ℕ → List Spelled
spelled_by (Token n kind) before text =
    record { kind = kind; bytes = take n text; place = place_behind before } ∷ []
spelled_by (Gap n) before text = []
spelled_by (Fault n kind) before text = []

-- the tokens among these pieces of a text
abbrev pub tokens_in : List Step → List ℕ → List ℕ → List Spelled
tokens_in [] before text = []
tokens_in (piece ∷ pieces) before text =
    spelled_by piece before text ++ tokens_in pieces (before ++ take (size_of piece) text)
    (drop (size_of piece) text)

-- a text has these tokens, with gaps between them
abbrev pub Tokens : List ℕ → List Spelled → Type 0
Tokens text tokens = (pieces : List Step) × Cuts pieces [] text None
    × (tokens ≡ tokens_in pieces [] text)

-- a text has this fault, with only gaps and tokens before it
abbrev pub Faults : List ℕ → LexFault → Type 0
Faults text found = (pieces : List Step) × Cuts pieces [] text (Some found)

-- every text has exactly one list of tokens or exactly one fault
pub record OneReading : Type 0 where
  pub some : (text : List ℕ)
      → ((list : List Spelled) × Tokens text list) ⊎ ((found : LexFault) × Faults text found)
  pub tokens : (text : List ℕ) (list other : List Spelled) → Tokens text list
      → Tokens text other → list ≡ other
  pub faults : (text : List ℕ) (found other : LexFault) → Faults text found
      → Faults text other → found ≡ other
  pub apart : (text : List ℕ) (list : List Spelled) (found : LexFault) → Tokens text list
      → Faults text found → ⊥
