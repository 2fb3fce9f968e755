use Rattle.std.proofs.Common.{map, take}
use Rattle.fk_syntax.specs.ProgramView.{declared_of}
use Rattle.fk_types_structs.specs.Types.{member_names}
use Rattle.fk_types_structs.specs.View.{Finds}
use Rattle.fk_types_structs.proofs.names.member_places.Given as goal

abbrev pub invariant-loop-place : goal.invariant-loop-place
invariant-loop-place l = Finds l.places.entries (take l.place (member_names (map declared_of l.members)))
