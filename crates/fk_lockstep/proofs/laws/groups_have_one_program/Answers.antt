use Rattle.fk_lockstep.proofs.ProgramRuns as whole
use Rattle.fk_lockstep.proofs.laws.groups_have_one_program.Goals as goal

pub returns : goal.returns
returns g c = whole.groups_have_one_program g.row.W.Denot
