-- The places so far, and those of what is left, are those before and those of all.
use Rattle.std.proofs.Common.{◌≡◌, ◌++◌, map, drop}
use Rattle.fk_syntax.specs.ProgramView.{declared_of}
use Rattle.fk_layout_slots.specs.Places.{no_slots}
use Rattle.fk_layout_slots.proofs.places.Places.add_none.Given as goal

abbrev pub invariant-loop-parameter : goal.invariant-loop-parameter
invariant-loop-parameter l = l.into.list.items ++ no_slots (map declared_of (drop l._parameter-index l.parameters)) ≡ l.fn.into.list.items ++ no_slots (map declared_of l.parameters)
