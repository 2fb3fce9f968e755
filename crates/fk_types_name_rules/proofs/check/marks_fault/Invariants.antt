-- What the marks so far break is told.
use Rattle.fk_check_rules.specs.Least.{IsLeast, among_first}
use Rattle.fk_types_names.specs.Scoped.{all_marks}
use Rattle.fk_types_name_rules.specs.Found.{MarkBreaks}
use Rattle.fk_types_name_rules.proofs.check.marks_fault.Given as goal

abbrev pub invariant-loop-at : goal.invariant-loop-at
invariant-loop-at l = IsLeast (among_first l.at (MarkBreaks (all_marks l.scoped)) (all_marks l.scoped)) l.fault
