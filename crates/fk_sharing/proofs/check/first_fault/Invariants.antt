-- The first rule that the tokens so far break.
use Rattle.fk_check_rules.specs.Least.{IsLeast, among_first}
use Rattle.fk_sharing.specs.Found.{TokenBreaks}
use Rattle.fk_sharing.proofs.check.first_fault.Given as goal

abbrev pub invariant-loop-token : goal.invariant-loop-token
invariant-loop-token l = IsLeast (among_first l.token-index TokenBreaks l.tokens) l.fault
