use Rattle.std.proofs.Common.{◌≡◌, [], length}
use Rattle.fk_ports.specs.Known.{IsGiven}
use Rattle.fk_ports.proofs.sink.give_all.Given as goal

abbrev pub invariant-loop-rest : goal.invariant-loop-rest
invariant-loop-rest g l =
    IsGiven l.fn.bytes l.rest (g.K.Sink.taken l.initial.sink) (g.K.Sink.taken l.sink)
    × (g.K.Sink.faults l.sink ≡ g.K.Sink.faults l.initial.sink)
    × (l.fn.bytes ≡ [] → l.sink ≡ l.initial.sink)

abbrev pub decreases-loop-rest : goal.decreases-loop-rest
decreases-loop-rest g l = length l.rest
