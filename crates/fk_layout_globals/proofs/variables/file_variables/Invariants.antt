-- What the rest has is still missing, and nothing else.
use Rattle.std.proofs.Common.{◌≡◌, ◌++◌, map, drop}
use Rattle.fk_syntax.specs.ProgramView.{item_of}
use Rattle.fk_layout_globals.specs.Variables.{variables_of, declared_behind}
use Rattle.fk_layout_globals.proofs.variables.file_variables.Given as goal

abbrev pub invariant-loop-item : goal.invariant-loop-item
invariant-loop-item l = declared_behind l.list.items ++ variables_of l.shared (map item_of (drop l.item-index l.items)) ≡ variables_of l.shared (map item_of l.items)
