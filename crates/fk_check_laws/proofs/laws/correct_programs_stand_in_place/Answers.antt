use Rattle.fk_check_laws.proofs.PlacedPrograms.{correct_programs_stand_in_place}
use Rattle.fk_check_laws.proofs.laws.correct_programs_stand_in_place.Goals as goal

pub returns : goal.returns
returns c = correct_programs_stand_in_place
