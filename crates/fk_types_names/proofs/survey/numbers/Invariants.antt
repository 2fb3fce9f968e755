-- The number that comes next, and those up to here.
use Rattle.std.proofs.Common.{◌≡◌, ℕ, ◌<◌, map, length}
use Rattle.std.specs.Prelude.{slice_index}
use Rattle.fk_types_names.specs.View.{mark_of}
use Rattle.fk_types_names.specs.Means.{binding}
use Rattle.fk_types_names.proofs.survey.numbers.Given as goal

abbrev pub invariant-loop-mark : goal.invariant-loop-mark
invariant-loop-mark l = record {
  next : l.number ≡ binding (map mark_of l.marks) l.mark-index;
  size : length l.numbers.items ≡ l.mark-index;
  each : (k : ℕ) → k < l.mark-index → slice_index l.numbers.items k ≡ binding (map mark_of l.marks) k;
}
