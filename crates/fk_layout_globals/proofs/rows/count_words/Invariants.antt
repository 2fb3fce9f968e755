-- The words so far and those of the rest are all of them, up to the greatest number.
use Rattle.std.proofs.Common.{◌≡◌, ◌≤◌, ◌+◌, ◌-◌, ◌^◌, min, drop}
use Rattle.fk_layout_globals.specs.Variables.{declared_behind}
use Rattle.fk_layout_globals.specs.Rows.{total_of}
use Rattle.fk_layout_globals.specs.View.{tables_of}
use Rattle.fk_layout_globals.proofs.rows.count_words.Given as goal

abbrev pub invariant-loop-index : goal.invariant-loop-index
invariant-loop-index l = record {
  words : min (l.total + total_of (tables_of l.types) (declared_behind (drop l.index l.variables.items))) (2 ^ 64 - 1) ≡ min (total_of (tables_of l.types) (declared_behind l.variables.items)) (2 ^ 64 - 1);
  small : l.total ≤ 2 ^ 64 - 1;
}
