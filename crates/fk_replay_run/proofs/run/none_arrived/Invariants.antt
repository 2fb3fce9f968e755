-- None of those so far has arrived.
use Rattle.fk_replay_run.specs.Arrivals.{NoneArrived}
use Rattle.fk_replay_run.proofs.run.none_arrived.Given as goal

abbrev pub invariant-loop-number : goal.invariant-loop-number
invariant-loop-number l = NoneArrived l._number l.arrived.items
