-- What has been opened and closed so far, and the depths up to here.
use Rattle.std.proofs.Common.{◌≡◌, ◌+◌, ℕ, ◌≤◌, map, take, length}
use Rattle.std.specs.Prelude.{count_by, slice_index}
use Rattle.fk_types_names.specs.View.{mark_of}
use Rattle.fk_types_names.specs.Visible.{is_opening, is_closing, depth}
use Rattle.fk_types_names.proofs.survey.depths.Given as goal

abbrev pub invariant-loop-mark : goal.invariant-loop-mark
invariant-loop-mark l = record {
  opened : l.opened ≡ count_by is_opening (take l.mark-index (map mark_of l.marks));
  closed : l.closed ≡ count_by is_closing (take l.mark-index (map mark_of l.marks));
  size : length l.depths.items ≡ l.mark-index + 1;
  each : (k : ℕ) → k ≤ l.mark-index → slice_index l.depths.items k ≡ depth (map mark_of l.marks) k;
}
