-- The moments of a trace, in which somebody acts.
use Rattle.std.specs.Prelude.{◌≡◌, ℕ, ◌<◌, ◌≤◌, List, [], ◌∷◌}
use Rattle.fk_trace.specs.declared.column.Column.TheVariants.{Counts}
use Rattle.fk_trace.specs.Text.{Range}
use Rattle.fk_replay_text.specs.Trace.{Told, AreRanges, IsTrace, moments_of}
use Rattle.fk_replay_text.specs.Rounds.{ranges_at}

abbrev pub Moments : Type 0
Moments = List (ℕ × List Range)

-- moments behind a cycle, each later than those before it, and none behind the last cycle
abbrev pub AreMoments : (harts last behind : ℕ) → Moments → Type 0
AreMoments harts last behind [] = behind ≤ last
AreMoments harts last behind ((cycle, ranges) ∷ moments) =
    (behind < cycle) × AreRanges Counts harts ranges × AreMoments harts last cycle moments

-- of some moments those behind a cycle are still to come
pub record AreToCome (harts last : ℕ) (moments : Moments) (behind : ℕ) (rest : Moments) : Type 0
  where
    pub ordered : AreMoments harts last behind rest
    pub same : (cycle : ℕ) → behind < cycle → ranges_at moments cycle ≡ ranges_at rest cycle

abbrev pub TracesHaveMoments : Type 0
TracesHaveMoments =
    (harts last : ℕ) (lines : List Told) (text : List ℕ) → IsTrace harts last lines text
    → AreMoments harts last 0 (moments_of lines)
