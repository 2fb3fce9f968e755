-- The ranges of a round of a trace.
use Rattle.std.specs.Prelude.{ℕ, suc, nat_le, ◌&&◌, List, [], ◌∷◌, if◌then◌else◌}
use Rattle.fk_trace.specs.declared.column.Column.TheVariants.{Counts}
use Rattle.fk_trace.specs.Text.{Range}
use Rattle.fk_replay_text.specs.Trace as trace

abbrev pub AreRanges : (processors : ℕ) → List Range → Type 0
AreRanges processors ranges = trace.AreRanges Counts processors ranges

-- counts from a first number on, in which those of a range are the range's
abbrev pub with_range : Range → (first : ℕ) → List ℕ → List ℕ
with_range r first [] = []
with_range r first (c ∷ counts) =
    (if nat_le r.first first && nat_le first r.last then r.number else c)
    ∷ with_range r (suc first) counts
