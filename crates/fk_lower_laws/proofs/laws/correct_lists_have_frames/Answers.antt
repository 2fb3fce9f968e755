use Rattle.fk_lower_laws.proofs.Lists.{correct_lists_have_frames}
use Rattle.fk_lower_laws.proofs.laws.correct_lists_have_frames.Goals as goal

pub returns : goal.returns
returns c = correct_lists_have_frames
