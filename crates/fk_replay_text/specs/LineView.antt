-- What the code has of a line.
use Rattle.std.specs.Prelude.{◌≡◌, ◌<◌, ◌^◌, ℕ, List, ◌++◌, map}
use Rattle.fk_trace.specs.Text.{head_text}
use Rattle.fk_replay_text.specs.ColumnView.{column_of}
use Rattle.fk_replay_text.specs.Texts.{Stops}
use Rattle.fk_replay_text.specs.Trace as trace
use Rattle.fk_replay_text.specs.View.{range_of}
use Rattle.fk_replay_text.specs.declared.line.Told.{Told}
use Rattle.fk_replay_text.specs.declared.line.Head.{Head}

abbrev pub told_of : Told → trace.Told
told_of t = record { column = column_of t.column; cycle = t.cycle; ranges = map range_of t.ranges.items }

-- the beginning of a line
pub record IsHead (head : Head) (line : List ℕ) : Type 0 where
  pub ends : Stops 32 head.ranges.now
  pub word : head.cycle < 2 ^ 32
  pub spells : line ≡ head_text (column_of head.column) head.cycle ++ head.ranges.now
