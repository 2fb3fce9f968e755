-- The rounds so far are late for nobody.
use Rattle.fk_replay.specs.Passed.{AreOnTime}
use Rattle.fk_replay.proofs.replay.pass_empty.Given as goal

abbrev pub invariant-loop-passed : goal.invariant-loop-passed
invariant-loop-passed l = AreOnTime l.pace l.fn.behind l.passed
