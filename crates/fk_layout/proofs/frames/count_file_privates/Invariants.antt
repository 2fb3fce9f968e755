-- The count so far and that of the rest are that of all.
use Rattle.std.proofs.Common.{◌≡◌, ◌≤◌, ◌+◌, ◌-◌, ◌^◌, min, map, drop}
use Rattle.fk_syntax.specs.ProgramView.{item_of}
use Rattle.fk_layout.specs.Frames.{file_privates}
use Rattle.fk_layout.proofs.frames.count_file_privates.Given as goal

abbrev pub invariant-loop-item : goal.invariant-loop-item
invariant-loop-item l = record {
  counted : min (l.count + file_privates (map item_of (drop l.item-index l.items))) (2 ^ 64 - 1) ≡ min (file_privates (map item_of l.items)) (2 ^ 64 - 1);
  small : l.count ≤ 2 ^ 64 - 1;
}
