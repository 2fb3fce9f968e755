-- What a text has at a point: a blank, a comment, an include line, a token or a fault.
use Rattle.std.specs.Prelude.{◌≡◌, ℕ, ◌+◌, ◌<◌, ◌≤◌, ◌^◌, ◌==◌, ◌&&◌, ◌||◌, ◌⊎◌, nat_lt, Bool}
use Rattle.std.specs.Prelude.{false, Option, Some, None, List, length, take, drop, slice_index}
use Rattle.std.specs.Prelude.{codes, if◌then◌else◌}
use Rattle.std.specs.List.{list_all, prefix_len}
use Rattle.std.specs.Str.{bytes_eq}
use Rattle.fk_lex.specs.declared.step.Beginning.{Beginning}
use Rattle.fk_lex.specs.declared.step.Beginning.TheVariants as begins
use Rattle.fk_lex.specs.declared.step.Step.{Step}
use Rattle.fk_lex.specs.declared.step.Step.TheVariants.{Gap, Token, Fault}
use Rattle.fk_lex.specs.declared.step.FaultKind.TheVariants.{BadByte, OpenComment, WideNumber}
use Rattle.fk_lex.specs.declared.token.TokenKind.{TokenKind}
use Rattle.fk_lex.specs.declared.token.TokenKind.TheVariants.{Number}
use Rattle.fk_lex.specs.Bytes.{is_blank, is_word_byte, is_plain, escape_value}
use Rattle.fk_lex.specs.Kinds.{Longest, SpellsNone}
use Rattle.fk_lex.specs.Positions.{in_line, only_blanks}
use Rattle.fk_lex.specs.Texts.{TextStep}

-- the class of what begins with these two bytes
abbrev pub beginning_of : ℕ → ℕ → Beginning
beginning_of c d =
    if is_blank c then begins.Blank
    else (if (c == 47) && (d == 42) then begins.Comment
    else (if (c == 47) && (d == 47) then begins.LineComment
    else (if c == 35 then begins.Directive
    else (if c == 39 then begins.Character
    else (if c == 34 then begins.Text else begins.Other)))))

abbrev pub beginning : List ℕ → Beginning
beginning text = beginning_of (slice_index text 0) (slice_index text 1)

-- the number of bytes before the end of the first line
abbrev pub line_length : List ℕ → ℕ
line_length text = prefix_len in_line text

-- `*/` lies at index `n`
abbrev pub EndsAt : List ℕ → ℕ → Type 0
EndsAt text n = (slice_index text n ≡ 42) × (slice_index text (n + 1) ≡ 47)

-- a comment goes from `/*` to the next `*/`, which is at index `n`
pub record CommentTo (text : List ℕ) (n : ℕ) : Type 0 where
  pub behind : 2 ≤ n
  pub ends : EndsAt text n
  pub next : (m : ℕ) → 2 ≤ m → m < n → EndsAt text m → ⊥

abbrev pub CommentStep : List ℕ → Step → Type 0
CommentStep text step =
    ((n : ℕ) × CommentTo text n × (step ≡ Gap (n + 2)))
    ⊎ (((m : ℕ) → 2 ≤ m → EndsAt text m → ⊥) × (step ≡ Fault 0 OpenComment))

-- a text is this name, and then any blanks
abbrev pub is_named : List ℕ → List ℕ → Bool
is_named name text =
    bytes_eq name (take (length name) text) && list_all is_blank (drop (length name) text)

abbrev pub is_header : List ℕ → Bool
is_header text = is_named (codes "<fork.h>") text || is_named (codes "<io.h>") text

-- a line is `#include`, any blanks, `<fork.h>` or `<io.h>`, and any blanks
abbrev pub is_include : List ℕ → Bool
is_include line =
    bytes_eq (codes "#include") (take 8 line)
    && is_header (drop (prefix_len is_blank (drop 8 line)) (drop 8 line))

-- an include line has only blanks before its `#`; every other `#` is a bad byte
unfoldable pub directive_step : Bool → List ℕ → Step
directive_step blanks_before text =
    if blanks_before && is_include (take (line_length text) text) then Gap (line_length text)
    else Fault 0 BadByte

abbrev pub escaped : Option ℕ → Step
escaped None = Fault 0 BadByte
escaped (Some value) = Token 4 (Number value false)

-- a character constant is a plain byte or an escape between single quotes; else there is a bad byte
abbrev pub character_of : ℕ → ℕ → ℕ → Step
character_of c d e =
    if is_plain 39 c && (d == 39) then Token 3 (Number c false)
    else (if (c == 92) && (e == 39) then escaped (escape_value d) else Fault 0 BadByte)

unfoldable pub character_step : List ℕ → Step
character_step text = character_of (slice_index text 1) (slice_index text 2) (slice_index text 3)

-- a number is below 2^32, and no letter, digit or `_` follows it
unfoldable pub token_or_fault : List ℕ → ℕ → TokenKind → Step
token_or_fault text n (Number value unsigned) =
    if nat_lt value (2 ^ 32)
    then (if is_word_byte (slice_index text n) then Fault n BadByte
    else Token n (Number value unsigned))
    else Fault 0 WideNumber
token_or_fault text n kind = Token n kind

-- the longest token that a text begins with; a bad byte if it begins with none
abbrev pub TokenStep : List ℕ → Step → Type 0
TokenStep text step =
    ((n : ℕ) × (kind : TokenKind) × Longest text n kind × (step ≡ token_or_fault text n kind))
    ⊎ (SpellsNone text × (step ≡ Fault 0 BadByte))

abbrev pub StepBy : Beginning → List ℕ → List ℕ → Step → Type 0
StepBy begins.Blank before text step = step ≡ Gap 1
StepBy begins.Comment before text step = CommentStep text step
StepBy begins.LineComment before text step = step ≡ Gap (line_length text)
StepBy begins.Directive before text step = step ≡ directive_step (only_blanks before) text
StepBy begins.Character before text step = step ≡ character_step text
StepBy begins.Text before text step = TextStep text step
StepBy begins.Other before text step = TokenStep text step

-- `step` is what lies after the bytes `before`, where `text` follows
abbrev pub NextStep : List ℕ → List ℕ → Step → Type 0
NextStep before text step = StepBy (beginning text) before text step
