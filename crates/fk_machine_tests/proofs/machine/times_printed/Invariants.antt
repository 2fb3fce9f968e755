use Rattle.std.proofs.Common.{◌≤◌}
use Rattle.fk_machine.specs.View.{machine_of}
use Rattle.fk_machine_tests.proofs.machine.times_printed.Given as goal

abbrev pub invariant-loop : goal.invariant-loop
invariant-loop l = (machine_of l.machine).begun ≤ l.counter
