use Rattle.fk_lockstep_frames.proofs.Lists as whole
use Rattle.fk_lockstep_frames.proofs.laws.lists_tell_frames.Goals as goal

pub returns : goal.returns
returns c = whole.lists_tell_frames
