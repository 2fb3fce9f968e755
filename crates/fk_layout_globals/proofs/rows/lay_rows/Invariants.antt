-- The rows of the rest are missing, and nothing else; and the words of the rest stand behind those so far.
use Rattle.std.proofs.Common.{◌≡◌, ◌+◌, ◌++◌, map, drop}
use Rattle.fk_layout_globals.specs.Variables.{declared_behind}
use Rattle.fk_layout_globals.specs.Rows.{total_of, rows_from}
use Rattle.fk_layout_globals.specs.View.{tables_of, row_of}
use Rattle.fk_layout_globals.proofs.rows.lay_rows.Given as goal

abbrev pub invariant-loop-index : goal.invariant-loop-index
invariant-loop-index l = record {
  rows : map row_of l.rows.items ++ rows_from (tables_of l.types) l.first (declared_behind (drop l.index l.variables.items)) ≡ rows_from (tables_of l.types) 0 (declared_behind l.variables.items);
  words : l.first + total_of (tables_of l.types) (declared_behind (drop l.index l.variables.items)) ≡ total_of (tables_of l.types) (declared_behind l.variables.items);
}
