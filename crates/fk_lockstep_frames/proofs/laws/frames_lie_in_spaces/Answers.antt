use Rattle.fk_lockstep_frames.proofs.Lies as whole
use Rattle.fk_lockstep_frames.proofs.laws.frames_lie_in_spaces.Goals as goal

pub returns : goal.returns
returns c = whole.frames_lie_in_spaces
