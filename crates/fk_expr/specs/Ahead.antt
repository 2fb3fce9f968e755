-- Readers of parts of expressions, which repeat as often as there may be tokens.
use Rattle.std.specs.Prelude.{◌≡◌, ℕ, ◌<◌, List, Option, false}
use Rattle.fk_parse_combinators.specs.Languages.{Placed}
use Rattle.fk_parse_combinators.specs.Readers.{Reader, giving, ◌and◌, repeated, tells, expect_told}
use Rattle.fk_parse_combinators.specs.Readers.{next_is}
use Rattle.fk_expr.specs.Reading.{Readers, inner, read_comma, read_assignment, read_choice}
use Rattle.fk_expr.specs.Reading.{read_prefix, read_joined}
use Rattle.fk_expr.specs.Grammar.{operator_at, linked}
use Rattle.fk_syntax.specs.Tree.{LinkTree}

-- the readers for `left` levels left
abbrev pub readers : ℕ → Readers
readers left = record {
  comma = read_comma (inner left);
  assignment = read_assignment (inner left);
  choice = read_choice (inner left);
  prefix = read_prefix (inner left);
}

-- an operator with this looseness, and its right operand, which binds tighter
abbrev pub read_link : Option Readers → ℕ → ℕ → Reader LinkTree
read_link inner looseness tighter =
    giving linked (expect_told (operator_at looseness) and read_joined inner tighter)

-- all links of this kind at the cursor
abbrev pub read_links : Option Readers → ℕ → ℕ → Reader (List LinkTree)
read_links inner looseness tighter =
    repeated (tells (operator_at looseness)) (read_link inner looseness tighter)

-- the next token isn't an operator looser than `tighter` and tighter than `looser`
abbrev pub NoOperator : ℕ → ℕ → List Placed → Type 0
NoOperator tighter looser ts = (level : ℕ) → tighter < level → level < looser
    → next_is (tells (operator_at level)) ts ≡ false
