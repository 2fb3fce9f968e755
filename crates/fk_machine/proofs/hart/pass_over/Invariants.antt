use Rattle.std.proofs.Common.{◌≡◌, ◌++◌, map, take, drop}
use Rattle.fk_machine.specs.View.{unserved}
use Rattle.fk_machine.proofs.hart.pass_over.Given as goal

abbrev pub invariant-loop-hart : goal.invariant-loop-hart
invariant-loop-hart l =
    l.harts ≡ map unserved (take l.hart-index l.initial.harts) ++ drop l.hart-index l.initial.harts
