use Rattle.std.proofs.Common.{◌≡◌, false, take}
use Rattle.std.specs.List.{list_any}
use Rattle.fk_machine.specs.Run.{committed}
use Rattle.fk_machine.specs.View.{machine_of}
use Rattle.fk_trace.specs.Text.{number_in, shows}
use Rattle.fk_trace.proofs.line.occurs.Given as goal

abbrev pub invariant-loop-hart : goal.invariant-loop-hart
invariant-loop-hart l =
    list_any (λ commit. shows l.fn.column (number_in l.fn.column commit)) (take l.hart (committed (machine_of l.fn.machine))) ≡ false
