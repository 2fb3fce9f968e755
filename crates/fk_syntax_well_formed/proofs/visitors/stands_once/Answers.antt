use Rattle.fk_syntax.specs.Nodes.{items_indices}
use Rattle.fk_syntax.specs.ProgramView.{program_of}
use Rattle.fk_syntax_well_formed.proofs.Visits.{tally_is}
use Rattle.fk_syntax_well_formed.proofs.visitors.stands_once.Goals as goal

pub returns : goal.returns
returns c = rw c.visit_program.ensures (tally_is c.args.at (items_indices (program_of c.args.program.now).items))
