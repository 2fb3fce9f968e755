use Rattle.std.proofs.Common.{◌≡◌, ℕ, ◌<◌, nat_lt, length, slice_index, if◌then◌else◌}
use Rattle.fk_tree.proofs.nodes.below_count.Given as goal

abbrev pub invariant-loop-processor : goal.invariant-loop-processor
invariant-loop-processor l = record {
  length : length l.of.items ≡ l.processor;
  each : (h : ℕ) → h < l.processor → slice_index l.of.items h ≡ (if nat_lt h l.count then 0 else 1);
}
