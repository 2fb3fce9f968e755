-- The marks so far, and those of what is left, are those before and those of all.
use Rattle.std.proofs.Common.{◌≡◌, ◌++◌, map, drop}
use Rattle.fk_syntax.specs.ProgramView.{declared_of}
use Rattle.fk_types_names.specs.Outline.{variables_marks}
use Rattle.fk_types_names.specs.OutlineView.{marks_in}
use Rattle.fk_types_names.proofs.outline.Outline.add_variables.Given as goal

abbrev pub invariant-loop-variable : goal.invariant-loop-variable
invariant-loop-variable l = marks_in l.into ++ variables_marks (map declared_of (drop l.variable-index l.variables)) ≡ marks_in l.fn.into ++ variables_marks (map declared_of l.variables)
