use Rattle.fk_lower_laws.proofs.Room.{correct_programs_have_room}
use Rattle.fk_lower_laws.proofs.laws.correct_programs_have_room.Goals as goal

pub returns : goal.returns
returns c = correct_programs_have_room
