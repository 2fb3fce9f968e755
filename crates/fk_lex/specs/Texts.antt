-- Texts in quotes, defined by their parts.
use Rattle.std.specs.Prelude.{◌≡◌, ◌≢◌, ℕ, ◌+◌, ◌⊎◌, Bool, true, false, Option, Some, None, List}
use Rattle.std.specs.Prelude.{[], ◌∷◌, ◌++◌, length}
use Rattle.fk_lex.specs.declared.step.Step.{Step}
use Rattle.fk_lex.specs.declared.step.Step.TheVariants.{Token, Fault}
use Rattle.fk_lex.specs.declared.step.FaultKind.TheVariants.{BadByte, OpenString}
use Rattle.fk_lex.specs.declared.token.TokenKind.TheVariants.{Text}
use Rattle.fk_lex.specs.Bytes.{is_plain, escape_value}
use Rattle.fk_lex.specs.Positions.{EndsLine}

-- a part of a text: a byte that represents itself, an escape, or a byte that is bad at its point
pub data Part : Type 0 where
  Plain : ℕ → Part
  Escape : ℕ → Part
  Bad : ℕ → Part

abbrev pub part_bytes : Part → List ℕ
part_bytes (Plain c) = c ∷ []
part_bytes (Escape c) = 92 ∷ c ∷ []
part_bytes (Bad c) = c ∷ []

abbrev pub bytes_of : List Part → List ℕ
bytes_of [] = []
bytes_of (part ∷ parts) = part_bytes part ++ bytes_of parts

abbrev pub is_some_byte : Option ℕ → Bool
is_some_byte None = false
is_some_byte (Some byte) = true

-- whether a backslash and this byte are an escape
abbrev pub is_escaped : ℕ → Bool
is_escaped c = is_some_byte (escape_value c)

-- whether bytes begin with one that makes an escape with a backslash
abbrev pub go_on_escaped : List ℕ → Bool
go_on_escaped [] = false
go_on_escaped (c ∷ cs) = is_escaped c

-- a byte is bad: it is neither the quote nor a newline, doesn't represent itself, and begins no
-- escape
pub record IsBad (c : ℕ) (behind : List ℕ) : Type 0 where
  pub no_quote : c ≢ 34
  pub in_line : c ≢ 10
  pub not_plain : is_plain 34 c ≡ false
  pub no_escape : c ≡ 92 → go_on_escaped behind ≡ false

-- a part of a text that is followed by these bytes
abbrev pub IsPart : Part → List ℕ → Type 0
IsPart (Plain c) behind = is_plain 34 c ≡ true
IsPart (Escape c) behind = is_escaped c ≡ true
IsPart (Bad c) behind = IsBad c behind

-- parts of a text that are followed by these bytes
abbrev pub AreParts : List Part → List ℕ → Type 0
AreParts [] behind = Unit {0}
AreParts (part ∷ parts) behind = IsPart part (bytes_of parts ++ behind) × AreParts parts behind

-- no part is bad
abbrev pub AreGood : List Part → Type 0
AreGood [] = Unit {0}
AreGood (Plain c ∷ parts) = AreGood parts
AreGood (Escape c ∷ parts) = AreGood parts
AreGood (Bad c ∷ parts) = ⊥

-- `good` are the parts before the first bad one
abbrev pub FirstBad : List Part → List Part → Type 0
FirstBad parts good = (c : ℕ) × (more : List Part) × AreGood good × (parts ≡ good ++ Bad c ∷ more)

-- a closed text is a token of its parts and two quotes, or a fault at its first bad part
abbrev pub ClosedStep : List Part → Step → Type 0
ClosedStep parts step =
    (AreGood parts × (step ≡ Token (length (bytes_of parts) + 2) Text))
    ⊎ ((good : List Part) × FirstBad parts good
    × (step ≡ Fault (length (bytes_of good) + 1) BadByte))

-- a text goes from a quote to the next quote between parts in its line; it is open if there is none
abbrev pub TextStep : List ℕ → Step → Type 0
TextStep text step =
    (parts : List Part) × (rest : List ℕ)
    × (((text ≡ 34 ∷ (bytes_of parts ++ 34 ∷ rest)) × AreParts parts (34 ∷ rest)
    × ClosedStep parts step)
    ⊎ ((text ≡ 34 ∷ (bytes_of parts ++ rest)) × AreParts parts rest × EndsLine rest
    × (step ≡ Fault 0 OpenString)))
