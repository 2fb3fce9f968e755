-- The lines of the trace of a run.
use Rattle.std.specs.Prelude.{◌≡◌, ℕ, suc, ◌^◌, ◌<◌, ◌≤◌, List, [], ◌∷◌, ◌++◌, filter, flat_map, length}
use Rattle.std.specs.Prelude.{if◌then◌else◌, map, Some, None}
use Rattle.fk_image.specs.declared.event.Event.{Event}
use Rattle.fk_trace.specs.declared.column.Column.{Column}
use Rattle.fk_trace.specs.declared.column.Column.TheVariants.{Counts, Of}
use Rattle.fk_trace.specs.Text.{Commit, Commits, Range, all_events, number_in, occurs, ranges, shows}
use Rattle.fk_trace.specs.Text.{trace_text}
use Rattle.fk_replay_text.specs.Trace.{IsTrace, Told}

-- the ranges of the harts of which a line tells
abbrev pub shown_ranges : Column → (numbers : List ℕ) → List Range
shown_ranges column numbers = filter (λ r. shows column r.number) (ranges 0 numbers)

abbrev pub told_if : Column → (cycle : ℕ) → Commits → List Told
told_if column cycle commits =
    if occurs column commits
    then record {
      column = column;
      cycle = cycle;
      ranges = shown_ranges column (map (number_in column) commits);
    } ∷ []
    else []

abbrev pub told_events : (cycle : ℕ) → Commits → List Event → List Told
told_events cycle commits events = flat_map (λ event. told_if (Of event) cycle commits) events

abbrev pub told_from : (cycle : ℕ) → List Commits → List Told
told_from cycle [] = []
told_from cycle (commits ∷ rest) =
    (told_if Counts cycle commits ++ told_events cycle commits all_events)
    ++ told_from (suc cycle) rest

-- a hart that commits does 1 to 255 operations
abbrev pub IsCommit : Commit → Type 0
IsCommit None = Unit {0}
IsCommit (Some commit) = (0 < commit.0) × (commit.0 ≤ 255)

abbrev pub AreCommits : Commits → Type 0
AreCommits [] = Unit {0}
AreCommits (commit ∷ commits) = IsCommit commit × AreCommits commits

-- in each cycle all harts do so
abbrev pub AreCycles : (harts : ℕ) → List Commits → Type 0
AreCycles harts [] = Unit {0}
AreCycles harts (commits ∷ cycles) =
    (length commits ≡ harts) × AreCommits commits × AreCycles harts cycles

-- the trace of such cycles is a trace text, and tells their lines
abbrev pub TracesAreTexts : Type 0
TracesAreTexts =
    (harts : ℕ) (cycles : List Commits)
    → 0 < harts → harts ≤ 1024 → length cycles < 2 ^ 32 → AreCycles harts cycles
    → IsTrace harts (length cycles) (told_from 1 cycles) (trace_text harts cycles)
