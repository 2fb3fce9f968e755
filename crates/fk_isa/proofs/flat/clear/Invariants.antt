use Rattle.std.proofs.Common.{◌≡◌, ◌++◌, map, take, drop}
use Rattle.fk_isa.specs.Atomic.{unless}
use Rattle.fk_isa.proofs.flat.clear.Given as goal

abbrev pub invariant-loop-reservation : goal.invariant-loop-reservation
invariant-loop-reservation l =
    l.reserved ≡ map (unless l.word) (take l.reservation-index l.initial.reserved) ++ drop l.reservation-index l.initial.reserved
