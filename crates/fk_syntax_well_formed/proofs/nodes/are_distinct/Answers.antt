use Rattle.std.proofs.Common.{true, refl}
use Rattle.fk_syntax_well_formed.proofs.Visits.{distinct_is}
use Rattle.fk_syntax_well_formed.proofs.nodes.are_distinct.Goals as goal

pub returns : goal.returns
returns c = rw c.visit_program.ensures (distinct_is (record { program = c.args.program; holds = true }) refl)
