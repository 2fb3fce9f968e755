-- The rounds that a trace tells: for each cycle the count of each hart.
use Rattle.std.specs.Prelude.{◌≡◌, ℕ, zero, suc, ◌&&◌, ◌==◌, nat_le, if◌then◌else◌, List, [], ◌∷◌}
use Rattle.std.specs.Prelude.{length, map}
use Rattle.fk_trace.specs.declared.column.Column.TheVariants.{Counts}
use Rattle.fk_trace.specs.Text.{Commits, Range, number_in}
use Rattle.fk_replay_text.specs.Trace.{moments_of}
use Rattle.fk_replay_text.specs.Written.{AreCycles, told_from}

-- The count of a hart is that of the range that has it, or 0.
abbrev pub count_in : List Range → (hart : ℕ) → ℕ
count_in [] hart = 0
count_in (r ∷ rs) hart = if nat_le r.first hart && nat_le hart r.last then r.number
    else count_in rs hart

-- The counts of some harts, from a first one on.
abbrev pub counts_from : List Range → (first number : ℕ) → List ℕ
counts_from ranges first zero = []
counts_from ranges first (suc n) = count_in ranges first ∷ counts_from ranges (suc first) n

abbrev pub round_of : (harts : ℕ) → List Range → List ℕ
round_of harts ranges = counts_from ranges 0 harts

-- The ranges of a cycle. A cycle without a moment has none.
abbrev pub ranges_at : List (ℕ × List Range) → (cycle : ℕ) → List Range
ranges_at [] cycle = []
ranges_at ((at, ranges) ∷ moments) cycle = if at == cycle then ranges
    else ranges_at moments cycle

-- The rounds of some cycles, from a first one on.
abbrev pub rounds_from : (harts : ℕ) → List (ℕ × List Range) → (first number : ℕ)
    → List (List ℕ)
rounds_from harts moments first zero = []
rounds_from harts moments first (suc n) =
    round_of harts (ranges_at moments first) ∷ rounds_from harts moments (suc first) n

-- One round for each cycle, from cycle 1 on.
abbrev pub schedule_of : (harts : ℕ) → List (ℕ × List Range) → (cycles : ℕ) → List (List ℕ)
schedule_of harts moments cycles = rounds_from harts moments 1 cycles

-- The rounds of the trace of a run are the counts that its harts commit.
abbrev pub RoundsAreCounts : Type 0
RoundsAreCounts =
    (harts : ℕ) (cycles : List Commits) → AreCycles harts cycles
    → schedule_of harts (moments_of (told_from 1 cycles)) (length cycles)
    ≡ map (map (number_in Counts)) cycles
