use Rattle.fk_syntax.specs.Nodes.{items_indices}
use Rattle.fk_syntax.specs.ProgramView.{program_of}
use Rattle.fk_syntax_well_formed.proofs.Visits.{rising_is}
use Rattle.fk_syntax_well_formed.proofs.nodes.are_rising.Goals as goal

pub returns : goal.returns
returns c = rw c.visit_program.ensures (rising_is (items_indices (program_of c.args.program.now).items))
