-- What is told so far, and what the rest of the list tells, is what the list tells.
use Rattle.std.proofs.Common.{◌≡◌, ◌≤◌, ◌++◌, false, drop}
use Rattle.fk_core_levels.specs.Forks.{no_part}
use Rattle.fk_core_levels.specs.Open.{parts_of}
use Rattle.fk_core_levels.specs.Levels.{told_from}
use Rattle.fk_core_levels.proofs.pass.told.Given as goal

abbrev pub invariant-loop-op : goal.invariant-loop-op
invariant-loop-op l = (l.saved.items ++ told_from l.parts l.around (parts_of l.open) l.opening (drop l.op-index l.ops) ≡ told_from 0 0 no_part false l.ops) × (l.parts ≤ l.op-index) × (l.around ≤ l.op-index)
