use Rattle.fk_lockstep_structure.proofs.Programs.{programs_have_one_program}
use Rattle.fk_lockstep_structure.proofs.laws.programs_have_one_program.Goals as goal

pub returns : goal.returns
returns c = programs_have_one_program
