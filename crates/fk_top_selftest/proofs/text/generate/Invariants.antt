use Rattle.std.proofs.Common.{◌≡◌, ◌++◌}
use Rattle.fk_top_selftest.specs.Generated.{generated}
use Rattle.fk_top_selftest.proofs.Statements.{lines_from}
use Rattle.fk_top_selftest.proofs.text.generate.Given as goal

-- the lines from a statement on are still to be written
abbrev pub invariant-loop-index : goal.invariant-loop-index
invariant-loop-index l = l.text.items ++ lines_from l.index l.fn.statements ≡ generated l.fn.statements
