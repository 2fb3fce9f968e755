-- What the rest begins as is missing, and nothing else.
use Rattle.std.proofs.Common.{◌≡◌, ◌++◌, map, drop}
use Rattle.fk_layout_globals.specs.Variables.{declared_behind}
use Rattle.fk_layout_globals.specs.Rows.{first_of}
use Rattle.fk_layout_globals.specs.View.{tables_of}
use Rattle.fk_layout_globals.proofs.rows.lay_firsts.Given as goal

abbrev pub invariant-loop-index : goal.invariant-loop-index
invariant-loop-index l = l.firsts.items ++ map (first_of (tables_of l.types)) (declared_behind (drop l.index l.variables.items)) ≡ map (first_of (tables_of l.types)) (declared_behind l.variables.items)
