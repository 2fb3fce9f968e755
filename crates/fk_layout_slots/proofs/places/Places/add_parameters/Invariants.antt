-- The places so far, and those of what is left, are those before and those of all; and what is taken behind what is left is what
-- is taken behind all.
use Rattle.std.proofs.Common.{◌≡◌, ◌++◌, map, drop}
use Rattle.fk_syntax.specs.ProgramView.{declared_of}
use Rattle.fk_layout_slots.specs.KnownView.{told_by}
use Rattle.fk_layout_slots.specs.Places.{parameters_slots, behind_parameters}
use Rattle.fk_layout_slots.proofs.places.Places.add_parameters.Given as goal

abbrev pub invariant-loop-parameter : goal.invariant-loop-parameter
invariant-loop-parameter l = record {
  slots : l.into.list.items ++ parameters_slots (told_by l.known) l.frame l.behind (map declared_of (drop l.parameter-index l.parameters)) ≡ l.fn.into.list.items ++ parameters_slots (told_by l.known) l.frame l.fn.taken (map declared_of l.parameters);
  taken : behind_parameters (told_by l.known) l.behind (map declared_of (drop l.parameter-index l.parameters)) ≡ behind_parameters (told_by l.known) l.fn.taken (map declared_of l.parameters);
}
