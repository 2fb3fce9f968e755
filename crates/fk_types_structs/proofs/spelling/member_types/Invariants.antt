use Rattle.std.proofs.Common.{◌≡◌, List, map, take}
use Rattle.fk_syntax.specs.ProgramView.{declared_of}
use Rattle.fk_types_structs.specs.Types.{StructTree, names_of, type_declared}
use Rattle.fk_types_structs.specs.View.{Finds}
use Rattle.fk_types_structs.proofs.spelling.member_types.Given as goal

abbrev pub invariant-loop-member : goal.invariant-loop-member
invariant-loop-member l = (structs : List StructTree) → Finds l.places.entries (names_of structs)
    → l.kinds.items ≡ map (type_declared structs) (map declared_of (take l.member-index l.members))
