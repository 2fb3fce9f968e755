use Rattle.std.proofs.Common.{length, map, option_map}
use Rattle.fk_replay_text.specs.ColumnView.{column_of}
use Rattle.fk_replay_text.specs.View.{range_of}
use Rattle.fk_replay_text.proofs.Ranges.{IsReadUpTo}
use Rattle.fk_replay_text.proofs.range.read_ranges.Given as goal

abbrev pub invariant-loop-behind : goal.invariant-loop-behind
invariant-loop-behind l = IsReadUpTo (column_of l.column) l.harts l.text l.rest (map range_of l.ranges.items) (option_map range_of l.last)

abbrev pub decreases-loop-behind : goal.decreases-loop-behind
decreases-loop-behind l = length l.rest
