use Rattle.std.proofs.Common.{◌≡◌, false, take}
use Rattle.fk_machine.specs.Run.{committed}
use Rattle.fk_machine.specs.View.{machine_of}
use Rattle.fk_trace.specs.Ranges.{has_event}
use Rattle.fk_trace.proofs.line.has_event.Given as goal

abbrev pub invariant-loop-hart : goal.invariant-loop-hart
invariant-loop-hart l = has_event (take l.hart (committed (machine_of l.fn.machine))) ≡ false
