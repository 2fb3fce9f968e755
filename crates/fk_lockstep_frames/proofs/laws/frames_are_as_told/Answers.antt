use Rattle.fk_lockstep_frames.proofs.Runs as whole
use Rattle.fk_lockstep_frames.proofs.laws.frames_are_as_told.Goals as goal

pub returns : goal.returns
returns g c = whole.frames_are_as_told g.row.W.Denot
