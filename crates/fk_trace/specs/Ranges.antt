-- Ranges of the code, and the numbers of harts.
use Rattle.std.specs.Prelude.{ℕ, suc, ◌-◌, ◌==◌, Bool, not, List, ◌++◌, map, replicate}
use Rattle.std.specs.List.{list_any}
use Rattle.fk_trace.specs.declared.column.Column.{Column}
use Rattle.fk_trace.specs.declared.hart_range.HartRange.{HartRange}
use Rattle.fk_trace.specs.Text.{Commits, Range, number_in, event_of, ranges_text}

-- A range of the code.
abbrev pub range_of : HartRange → Range
range_of r = record { first = r.first; last = r.last; number = r.number }

-- The numbers of all harts in a column.
abbrev pub numbers_of : Column → Commits → List ℕ
numbers_of column commits = map (number_in column) commits

-- The text of the ranges of the harts of a range, and of the harts above it with these numbers.
abbrev pub text_from : Column → HartRange → List ℕ → List ℕ
text_from column r above =
    ranges_text column r.first (replicate (suc (r.last - r.first)) r.number ++ above)

-- Some hart has an event.
abbrev pub has_event : Commits → Bool
has_event commits = list_any (λ commit. not (event_of commit == 0)) commits
