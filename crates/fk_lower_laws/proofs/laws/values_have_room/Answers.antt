use Rattle.fk_lower_laws.proofs.Values.{values_have_room}
use Rattle.fk_lower_laws.proofs.laws.values_have_room.Goals as goal

pub returns : goal.returns
returns c = values_have_room
