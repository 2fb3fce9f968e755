use Rattle.fk_gen_list.proofs.Levels.{levels_need_no_room}
use Rattle.fk_gen_list.proofs.laws.levels_need_no_room.Goals as goal

pub returns : goal.returns
returns c = levels_need_no_room
