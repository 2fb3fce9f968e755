use Rattle.fk_gen_group.proofs.Lacks.{groups_lack_room}
use Rattle.fk_gen_group.proofs.laws.groups_lack_room.Goals as goal

pub returns : goal.returns
returns c = groups_lack_room
