use Rattle.std.proofs.Common.{◌≡◌}
use Rattle.std.specs.Prelude.{replicate}
use Rattle.fk_machine.proofs.Harts.{fresh}
use Rattle.fk_machine.proofs.hart.first_harts.Given as goal

abbrev pub invariant-loop : goal.invariant-loop
invariant-loop l = l.harts.items ≡ replicate l.counter fresh
