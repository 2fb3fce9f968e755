use Rattle.fk_lockstep_structure.proofs.Programs.{programs_follow}
use Rattle.fk_lockstep_structure.proofs.laws.programs_follow.Goals as goal

pub returns : goal.returns
returns c = programs_follow
