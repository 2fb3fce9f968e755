use Rattle.fk_core_levels.specs.Levels.{IsSettling, left_over}
use Rattle.fk_core_levels.proofs.behind.settle.Given as goal

abbrev pub invariant-sweeps : goal.invariant-sweeps
invariant-sweeps l = IsSettling l.ops l.saved

abbrev pub decreases-sweeps : goal.decreases-sweeps
decreases-sweeps l = left_over l.saved
