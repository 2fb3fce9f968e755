use Rattle.fk_lower_names.proofs.WordRoom.{numbers_have_room}
use Rattle.fk_lower_names.proofs.laws.numbers_have_room.Goals as goal

pub returns : goal.returns
returns c = numbers_have_room
