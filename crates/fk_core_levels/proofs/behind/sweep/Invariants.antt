use Rattle.fk_core_levels.proofs.Swept.{IsSwept}
use Rattle.fk_core_levels.proofs.behind.sweep.Given as goal

abbrev pub invariant-list : goal.invariant-list
invariant-list l = IsSwept l.ops l.initial.saved l.saved l.back l.step l.found
