-- How the code moves through a text: positions, and the parts of a text in quotes.
use Rattle.std.specs.Prelude.{ℕ, ◌+◌, ◌-◌, ◌^◌, ◌<◌, ◌≤◌, ◌==◌, Option, Some, None, List, [], ◌∷◌}
use Rattle.std.specs.Prelude.{length, if◌then◌else◌}
use Rattle.fk_syntax.specs.declared.place.Place.{Place}
use Rattle.fk_lex.specs.declared.position.Position.{Position}
use Rattle.fk_lex.specs.Bytes.{is_plain}
use Rattle.fk_lex.specs.Positions.{newlines, last_line}
use Rattle.fk_lex.specs.Texts.{is_escaped}

-- the position after these bytes
abbrev pub position_of : List ℕ → Position
position_of before = record {
  lines = newlines before;
  line_start = length before - length (last_line before);
  offset = length before;
}

-- the position after a byte; a newline ends a line
abbrev pub next : Position → ℕ → Position
next at c =
    if c == 10
    then record { lines = at.lines + 1; line_start = at.offset + 1; offset = at.offset + 1 }
    else record { lines = at.lines; line_start = at.line_start; offset = at.offset + 1 }

abbrev pub after : Position → List ℕ → Position
after at [] = at
after at (c ∷ cs) = after (next at c) cs

abbrev pub place_of : Position → Place
place_of at = record { line = at.lines + 1; column = at.offset - at.line_start + 1 }

-- the line and the column of the position are below 2^32
pub record HasPlace (at : Position) : Type 0 where
  pub lines : at.lines + 1 < 2 ^ 32
  pub line : at.line_start ≤ at.offset
  pub offset : at.offset + 1 < 2 ^ 32

-- the size in bytes of the escape or the plain byte at the beginning of these two bytes of a text
-- in quotes
abbrev pub part_size : ℕ → ℕ → Option ℕ
part_size c d =
    if c == 92 then (if is_escaped d then Some 2 else None)
    else (if is_plain 34 c then Some 1 else None)
