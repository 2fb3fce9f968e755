-- What the items so far break is told.
use Rattle.std.proofs.Common.{map}
use Rattle.fk_syntax.specs.ProgramView.{item_of}
use Rattle.fk_check_rules.specs.Least.{IsLeast, among_first}
use Rattle.fk_types_name_rules.specs.Found.{ItemBreaks}
use Rattle.fk_types_name_rules.proofs.check.headers_fault.Given as goal

abbrev pub invariant-loop-at : goal.invariant-loop-at
invariant-loop-at l = IsLeast (among_first l.at (ItemBreaks (map item_of l.items)) (map item_of l.items)) l.fault
