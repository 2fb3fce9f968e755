use Rattle.fk_lockstep_structure.proofs.FramePrograms.{programs_are_framed}
use Rattle.fk_lockstep_structure.proofs.laws.programs_are_framed.Goals as goal

pub returns : goal.returns
returns c = programs_are_framed
