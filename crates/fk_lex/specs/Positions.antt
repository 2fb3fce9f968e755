-- Lines and columns, defined by the bytes before them.
use Rattle.std.specs.Prelude.{◌≡◌, ℕ, ◌+◌, ◌==◌, not, Bool, List, [], ◌∷◌, length, count_by}
use Rattle.std.specs.Prelude.{if◌then◌else◌}
use Rattle.std.specs.List.{list_all}
use Rattle.fk_syntax.specs.declared.place.Place.{Place}
use Rattle.fk_lex.specs.Bytes.{is_blank}

-- whether a byte isn't a newline
abbrev pub in_line : ℕ → Bool
in_line c = not (c == 10)

-- a line ends at the beginning of these bytes: they are empty or begin with a newline
abbrev pub EndsLine : List ℕ → Type 0
EndsLine [] = Unit {0}
EndsLine (c ∷ cs) = c ≡ 10

-- the number of newlines in these bytes
abbrev pub newlines : List ℕ → ℕ
newlines bytes = count_by (λ c. c == 10) bytes

-- the bytes after the last newline
abbrev pub last_line : List ℕ → List ℕ
last_line [] = []
last_line (c ∷ cs) = if list_all in_line (c ∷ cs) then c ∷ cs else last_line cs

-- the place after these bytes; lines and columns count from 1
abbrev pub place_behind : List ℕ → Place
place_behind before = record { line = newlines before + 1; column = length (last_line before) + 1 }

-- only blanks follow the last newline
abbrev pub only_blanks : List ℕ → Bool
only_blanks before = list_all is_blank (last_line before)
