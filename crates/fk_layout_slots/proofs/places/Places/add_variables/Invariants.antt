-- The places so far, and those of what is left, are those before and those of all; and what is taken behind what is left is what
-- is taken behind all.
use Rattle.std.proofs.Common.{◌≡◌, ◌++◌, map, drop}
use Rattle.fk_syntax.specs.ProgramView.{declared_of}
use Rattle.fk_layout_slots.specs.KnownView.{told_by}
use Rattle.fk_layout_slots.specs.Places.{variables_slots, behind_variables}
use Rattle.fk_layout_slots.proofs.places.Places.add_variables.Given as goal

abbrev pub invariant-loop-variable : goal.invariant-loop-variable
invariant-loop-variable l = record {
  slots : l.into.list.items ++ variables_slots (told_by l.known) l.frame l.behind (map declared_of (drop l.variable-index l.variables)) ≡ l.fn.into.list.items ++ variables_slots (told_by l.known) l.frame l.fn.taken (map declared_of l.variables);
  taken : behind_variables (told_by l.known) l.behind (map declared_of (drop l.variable-index l.variables)) ≡ behind_variables (told_by l.known) l.fn.taken (map declared_of l.variables);
}
