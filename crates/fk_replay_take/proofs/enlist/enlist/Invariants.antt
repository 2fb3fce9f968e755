-- The ranges so far are enlisted.
use Rattle.std.proofs.Common.{◌≡◌, map}
use Rattle.fk_tree.specs.View.{tree_of, processors}
use Rattle.fk_replay_text.specs.View.{range_of}
use Rattle.fk_replay_phases.specs.Present.{present, all_acting}
use Rattle.fk_replay_take.proofs.Ranges.{EnlistsAt}
use Rattle.fk_replay_take.proofs.enlist.enlist.Given as goal

abbrev pub invariant-loop-range : goal.invariant-loop-range
invariant-loop-range l = record {
  counts : EnlistsAt (processors l.tree) (map range_of l.acts) l.range-index l.counts.items;
  acting : l.acting.items ≡ all_acting (tree_of l.tree) (present 0 l.counts.items);
}
