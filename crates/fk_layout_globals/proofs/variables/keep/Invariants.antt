-- What is kept of the rest still makes of the list what is kept of all makes of it.
use Rattle.std.proofs.Common.{◌≡◌, ◌++◌, map, drop}
use Rattle.fk_syntax.specs.ProgramView.{declared_of}
use Rattle.fk_layout_globals.specs.Variables.{kept, declared_behind}
use Rattle.fk_layout_globals.proofs.variables.keep.Given as goal

abbrev pub invariant-loop-variable : goal.invariant-loop-variable
invariant-loop-variable l = declared_behind l.list.items ++ kept l.shared (map declared_of (drop l.variable-index l.variables)) ≡ declared_behind l.fn.list.items ++ kept l.shared (map declared_of l.variables)
