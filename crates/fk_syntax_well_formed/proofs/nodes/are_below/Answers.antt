use Rattle.fk_syntax.specs.Nodes.{items_indices}
use Rattle.fk_syntax.specs.ProgramView.{program_of}
use Rattle.fk_syntax_well_formed.proofs.Visits.{bound_is}
use Rattle.fk_syntax_well_formed.proofs.nodes.are_below.Goals as goal

pub returns : goal.returns
returns c = rw c.visit_program.ensures (bound_is c.args.program.now.tokens (items_indices (program_of c.args.program.now).items))
