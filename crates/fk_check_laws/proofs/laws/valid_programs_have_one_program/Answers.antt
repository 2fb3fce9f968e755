use Rattle.fk_check_laws.proofs.PlacedPrograms.{valid_programs_have_one_program}
use Rattle.fk_check_laws.proofs.laws.valid_programs_have_one_program.Goals as goal

pub returns : goal.returns
returns c = valid_programs_have_one_program
