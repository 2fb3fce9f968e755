use Rattle.fk_check_laws.proofs.Spaces.{valid_programs_have_one_space}
use Rattle.fk_check_laws.proofs.laws.valid_programs_have_one_space.Goals as goal

pub returns : goal.returns
returns c = valid_programs_have_one_space
