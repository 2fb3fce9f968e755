use Rattle.fk_check_laws.proofs.PlacedPrograms.{valid_programs_are_in_place}
use Rattle.fk_check_laws.proofs.laws.valid_programs_are_in_place.Goals as goal

pub returns : goal.returns
returns c = valid_programs_are_in_place
