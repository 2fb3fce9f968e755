use Rattle.fk_check_laws.proofs.Programs.{correct_programs_fit}
use Rattle.fk_check_laws.proofs.laws.correct_programs_fit.Goals as goal

pub returns : goal.returns
returns c = correct_programs_fit
