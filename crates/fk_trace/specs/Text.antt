-- The text of a trace.
use Rattle.std.specs.Prelude.{ℕ, suc, ◌==◌, if◌then◌else◌, Bool, not, List, [], ◌∷◌, ◌++◌, Option}
use Rattle.std.specs.Prelude.{Some, None, codes, flat_map, length, map}
use Rattle.std.specs.Fmt.{decimal}
use Rattle.std.specs.List.{list_any}
use Rattle.fk_trace.specs.declared.column.Column.{Column}
use Rattle.fk_trace.specs.declared.column.Column.TheVariants.{Counts, Of}
use Rattle.fk_image.specs.Events.{event_number}
use Rattle.fk_image.specs.declared.event.Event.{Event}
use Rattle.fk_image.specs.declared.event.Event.TheVariants.{Split, Shrink, End, Resume, Meet, Agree}

-- What a hart commits in a cycle, if it commits: a count of operations, and the number of an event,
-- 0 for none.
abbrev pub Commit : Type 0
Commit = Option (ℕ × ℕ)

-- What each hart commits in a cycle.
abbrev pub Commits : Type 0
Commits = List Commit

abbrev pub event_of : Commit → ℕ
event_of None = 0
event_of (Some commit) = commit.1

-- ---- events

abbrev pub name_of : Event → List ℕ
name_of Split = codes "split"
name_of Shrink = codes "shrink"
name_of End = codes "end"
name_of Resume = codes "resume"
name_of Meet = codes "meet"
name_of Agree = codes "agree"

-- ---- ranges

-- A range of consecutive harts that have the same number.
pub record Range : Type 0 where
  pub first : ℕ
  pub last : ℕ
  pub number : ℕ

-- The longest ranges with one more hart before them.
abbrev pub joined : ℕ → ℕ → List Range → List Range
joined hart number [] = record { first = hart; last = hart; number = number } ∷ []
joined hart number (r ∷ rs) =
    if r.number == number then record r { first = hart } ∷ rs
    else record { first = hart; last = hart; number = number } ∷ r ∷ rs

-- The longest ranges of consecutive harts with the same number, where the harts from some hart on
-- have these numbers.
abbrev pub ranges : ℕ → List ℕ → List Range
ranges hart [] = []
ranges hart (number ∷ numbers) = joined hart number (ranges (suc hart) numbers)

-- ---- lines

-- The number of a hart in a column: its count or its event, 0 if it commits nothing.
abbrev pub number_in : Column → Commit → ℕ
number_in column None = 0
number_in Counts (Some commit) = commit.0
number_in (Of event) (Some commit) = commit.1

-- A line tells of the harts that commit, or of those that have its event.
abbrev pub shows : Column → ℕ → Bool
shows Counts number = not (number == 0)
shows (Of event) number = number == event_number event

abbrev pub head_text : Column → ℕ → List ℕ
head_text Counts cycle = codes "c " ++ decimal cycle
head_text (Of event) cycle = codes "g " ++ decimal cycle ++ codes " " ++ name_of event

abbrev pub count_text : Column → ℕ → List ℕ
count_text Counts count = codes "*" ++ decimal count
count_text (Of event) number = []

abbrev pub range_text : Column → Range → List ℕ
range_text column r =
    if shows column r.number
    then codes " " ++ decimal r.first ++ codes "-" ++ decimal r.last ++ count_text column r.number
    else []

abbrev pub ranges_text : Column → ℕ → List ℕ → List ℕ
ranges_text column hart numbers = flat_map (range_text column) (ranges hart numbers)

abbrev pub line_text : Column → ℕ → Commits → List ℕ
line_text column cycle commits =
    head_text column cycle ++ ranges_text column 0 (map (number_in column) commits) ++ 10 ∷ []

-- A line is written where it tells of some hart.
abbrev pub occurs : Column → Commits → Bool
occurs column commits = list_any (λ commit. shows column (number_in column commit)) commits

abbrev pub line_if : Column → ℕ → Commits → List ℕ
line_if column cycle commits = if occurs column commits then line_text column cycle commits else []

-- ---- cycles

abbrev pub all_events : List Event
all_events = Split ∷ Shrink ∷ End ∷ Resume ∷ Meet ∷ Agree ∷ []

abbrev pub event_lines : ℕ → Commits → List Event → List ℕ
event_lines cycle commits events = flat_map (λ event. line_if (Of event) cycle commits) events

-- The lines of a cycle: that of the counts, then those of the events that occur.
abbrev pub cycle_lines : ℕ → Commits → List ℕ
cycle_lines cycle commits =
    line_if Counts cycle commits ++ event_lines cycle commits all_events

-- The lines of the cycles from some cycle on.
abbrev pub lines_from : ℕ → List Commits → List ℕ
lines_from cycle [] = []
lines_from cycle (commits ∷ rest) = cycle_lines cycle commits ++ lines_from (suc cycle) rest

-- ---- the trace

abbrev pub first_lines : ℕ → List ℕ
first_lines harts = codes "fork95 trace 1" ++ 10 ∷ codes "harts " ++ decimal harts ++ 10 ∷ []

abbrev pub last_line : ℕ → List ℕ
last_line cycles = codes "end " ++ decimal cycles ++ 10 ∷ []

-- The trace of this many harts, which in each cycle commit this.
abbrev pub trace_text : ℕ → List Commits → List ℕ
trace_text harts cycles = first_lines harts ++ lines_from 1 cycles ++ last_line (length cycles)
