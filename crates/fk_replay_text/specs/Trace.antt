-- Trace texts.
use Rattle.std.specs.Prelude.{◌≡◌, ◌≢◌, ℕ, suc, ◌^◌, ◌<◌, ◌≤◌, List, [], ◌∷◌, ◌++◌, flat_map}
use Rattle.std.specs.Prelude.{length, Option, Some, None}
use Rattle.fk_image.specs.Events.{event_number}
use Rattle.fk_trace.specs.declared.column.Column.{Column}
use Rattle.fk_trace.specs.declared.column.Column.TheVariants.{Counts, Of}
use Rattle.fk_trace.specs.Text.{Range, head_text, range_text, first_lines, last_line}

-- A line of a cycle. It tells a number of the harts in each of some ranges: in the line of the
-- counts their count, in the line of an event the number of the event.
pub record Told : Type 0 where
  pub column : Column
  pub cycle : ℕ
  pub ranges : List Range

abbrev pub told_text : Told → List ℕ
told_text told =
    head_text told.column told.cycle ++ (flat_map (range_text told.column) told.ranges ++ 10 ∷ [])

abbrev pub all_told_text : List Told → List ℕ
all_told_text lines = flat_map told_text lines

-- ---- one line

abbrev pub HasNumber : Column → (number : ℕ) → Type 0
HasNumber Counts number = (0 < number) × (number ≤ 255)
HasNumber (Of event) number = number ≡ event_number event

pub record IsRange (column : Column) (harts : ℕ) (r : Range) : Type 0 where
  pub ordered : r.first ≤ r.last
  pub below : r.last < harts
  pub number : HasNumber column r.number

-- a range comes after another one, and isn't a part of one range with it
pub record IsAbove (r s : Range) : Type 0 where
  pub above : r.last < s.first
  pub apart : suc r.last ≡ s.first → r.number ≢ s.number

-- the first range of a line comes after none
abbrev pub ComesAfter : Option Range → Range → Type 0
ComesAfter None s = Unit {0}
ComesAfter (Some r) s = IsAbove r s

-- the ranges rise and are the longest ones
abbrev pub Rise : Column → (harts : ℕ) → (before : Option Range) → List Range → Type 0
Rise column harts before [] = Unit {0}
Rise column harts before (r ∷ rs) =
    IsRange column harts r × ComesAfter before r × Rise column harts (Some r) rs

-- a line tells of some hart
abbrev pub AreRanges : Column → (harts : ℕ) → List Range → Type 0
AreRanges column harts rs = (0 < length rs) × Rise column harts None rs

pub record IsLine (harts : ℕ) (told : Told) : Type 0 where
  pub begun : 0 < told.cycle
  pub word : told.cycle < 2 ^ 32
  pub ranges : AreRanges told.column harts told.ranges

-- ---- the order of lines

-- the place of a column among the lines of a cycle
abbrev pub rank : Column → ℕ
rank Counts = 0
rank (Of event) = event_number event

-- The line of the counts begins a later cycle than the line before it had. The line of an event
-- belongs to the same cycle, and to a later event.
abbrev pub Follows : (cycle before : ℕ) → Column → (now : ℕ) → Type 0
Follows cycle before Counts now = cycle < now
Follows cycle before (Of event) now = (now ≡ cycle) × (before < event_number event)

-- The lines follow a line of this cycle and rank. The last cycle has the number `last` or a lower
-- one.
abbrev pub AreInOrder : (harts last cycle before : ℕ) → List Told → Type 0
AreInOrder harts last cycle before [] = cycle ≤ last
AreInOrder harts last cycle before (told ∷ lines) =
    IsLine harts told × Follows cycle before told.column told.cycle
    × AreInOrder harts last told.cycle (rank told.column) lines

-- ---- the text

-- the lines behind the first two
pub record IsBody (harts last : ℕ) (lines : List Told) (text : List ℕ) : Type 0 where
  pub word : last < 2 ^ 32
  pub order : AreInOrder harts last 0 0 lines
  pub spells : text ≡ all_told_text lines ++ last_line last

pub record HasBody (harts : ℕ) (text : List ℕ) : Type 0 where
  pub last : ℕ
  pub lines : List Told
  pub is : IsBody harts last lines text

pub record IsTrace (harts last : ℕ) (lines : List Told) (text : List ℕ) : Type 0 where
  pub some : 0 < harts
  pub few : harts ≤ 1024
  pub behind : List ℕ
  pub body : IsBody harts last lines behind
  pub spells : text ≡ first_lines harts ++ behind

-- the text has the form of a trace
pub record IsTraceText (text : List ℕ) : Type 0 where
  pub harts : ℕ
  pub last : ℕ
  pub lines : List Told
  pub is : IsTrace harts last lines text

-- ---- what it tells

-- a line of the counts tells a moment: a cycle, and the counts of ranges of harts
abbrev pub with_moment : Column → (cycle : ℕ) → List Range → List (ℕ × List Range)
    → List (ℕ × List Range)
with_moment Counts cycle ranges moments = (cycle, ranges) ∷ moments
with_moment (Of event) cycle ranges moments = moments

abbrev pub moments_of : List Told → List (ℕ × List Range)
moments_of [] = []
moments_of (told ∷ lines) = with_moment told.column told.cycle told.ranges (moments_of lines)
