-- Comments, include lines and texts, defined by their parts.
use Rattle.std.specs.Prelude.{◌≡◌, ℕ, ◌+◌, ◌⊎◌, true, List, ◌∷◌, ◌++◌, length, codes}
use Rattle.std.specs.List.{list_all}
use Rattle.fk_lex.specs.declared.step.FaultKind.TheVariants.{OpenComment}
use Rattle.fk_lex.specs.declared.step.Step.TheVariants.{Gap, Token, Fault}
use Rattle.fk_lex.specs.declared.token.TokenKind.TheVariants.{Text}
use Rattle.fk_lex.specs.Bytes.{is_blank}
use Rattle.fk_lex.specs.Positions.{in_line, EndsLine}
use Rattle.fk_lex.specs.Steps.{is_include, NextStep}
use Rattle.fk_lex.specs.Texts.{Part, bytes_of, AreParts, AreGood}

-- `*/` occurs somewhere in these bytes
abbrev pub HasCommentEnd : List ℕ → Type 0
HasCommentEnd bytes = (before behind : List ℕ) × (bytes ≡ before ++ (codes "*/" ++ behind))

-- a text begins with `/*`, bytes with no `*/` in them, and `*/`, which are `n` bytes in all
abbrev pub IsComment : List ℕ → ℕ → Type 0
IsComment text n =
    (inside rest : List ℕ) × (HasCommentEnd inside → ⊥)
    × (text ≡ codes "/*" ++ (inside ++ (codes "*/" ++ rest))) × (n ≡ length inside + 4)

-- no newline occurs in these bytes
abbrev pub AreInLine : List ℕ → Type 0
AreInLine bytes = list_all in_line bytes ≡ true

-- a text begins with `//` and the bytes up to the end of the line, which are `n` bytes in all
abbrev pub IsLineComment : List ℕ → ℕ → Type 0
IsLineComment text n =
    (line rest : List ℕ) × AreInLine line × EndsLine rest × (text ≡ codes "//" ++ (line ++ rest))
    × (n ≡ length line + 2)

abbrev pub AreBlank : List ℕ → Type 0
AreBlank bytes = list_all is_blank bytes ≡ true

-- a line is `#include`, any blanks, `<fork.h>` or `<io.h>`, and any blanks
abbrev pub IsInclude : List ℕ → Type 0
IsInclude line =
    (gap name more : List ℕ) × AreBlank gap
    × ((name ≡ codes "<fork.h>") ⊎ (name ≡ codes "<io.h>")) × AreBlank more
    × (line ≡ codes "#include" ++ (gap ++ (name ++ more)))

-- after an opening quote come bytes that represent themselves, escapes, and the closing quote,
-- which are `n` bytes in all
abbrev pub IsTextBody : List ℕ → ℕ → Type 0
IsTextBody body n =
    (parts : List Part) × (rest : List ℕ) × AreGood parts × AreParts parts (34 ∷ rest)
    × (body ≡ bytes_of parts ++ 34 ∷ rest) × (n ≡ length (bytes_of parts) + 1)

pub record Spellings : Type 0 where
  pub commented : (before body : List ℕ) (n : ℕ) → NextStep before (codes "/*" ++ body) (Gap n)
      → IsComment (codes "/*" ++ body) n
  pub comments : (before text : List ℕ) (n : ℕ) → IsComment text n → NextStep before text (Gap n)
  pub unclosed : (before body : List ℕ) → NextStep before (codes "/*" ++ body) (Fault 0 OpenComment)
      → HasCommentEnd body → ⊥
  pub opened : (before body : List ℕ) → (HasCommentEnd body → ⊥)
      → NextStep before (codes "/*" ++ body) (Fault 0 OpenComment)
  pub line_commented : (before body : List ℕ) (n : ℕ) → NextStep before (codes "//" ++ body) (Gap n)
      → IsLineComment (codes "//" ++ body) n
  pub line_comments : (before text : List ℕ) (n : ℕ) → IsLineComment text n
      → NextStep before text (Gap n)
  pub included : (line : List ℕ) → is_include line ≡ true → IsInclude line
  pub includes : (line : List ℕ) → IsInclude line → is_include line ≡ true
  pub ended : (before body : List ℕ) (n : ℕ) → NextStep before (34 ∷ body) (Token (n + 1) Text)
      → IsTextBody body n
  pub ends : (before body : List ℕ) (n : ℕ) → IsTextBody body n
      → NextStep before (34 ∷ body) (Token (n + 1) Text)
