-- Those so far have the count of the range, and are enlisted.
use Rattle.std.proofs.Common.{◌≡◌}
use Rattle.fk_tree.specs.View.{tree_of}
use Rattle.fk_replay_text.specs.View.{range_of}
use Rattle.fk_replay_phases.specs.Present.{present, all_acting}
use Rattle.fk_replay_take.proofs.Ranges.{RangeAt}
use Rattle.fk_replay_take.proofs.enlist.enlist_range.Given as goal

abbrev pub invariant-loop-number : goal.invariant-loop-number
invariant-loop-number l = record {
  counts : RangeAt (range_of l.acts) l.fn.counts.items l.number l.counts.items;
  acting : l.acting.items ≡ all_acting (tree_of l.tree) (present 0 l.counts.items);
}
