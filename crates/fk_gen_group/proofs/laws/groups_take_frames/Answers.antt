use Rattle.fk_gen_group.proofs.Frames.{groups_take_frames}
use Rattle.fk_gen_group.proofs.laws.groups_take_frames.Goals as goal

pub returns : goal.returns
returns c = groups_take_frames
