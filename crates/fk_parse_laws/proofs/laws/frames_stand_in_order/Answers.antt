use Rattle.fk_parse_laws.proofs.FramesInPrograms as programs
use Rattle.fk_parse_laws.proofs.laws.frames_stand_in_order.Goals as goal

pub returns : goal.returns
returns c = programs.frames_stand_in_order
