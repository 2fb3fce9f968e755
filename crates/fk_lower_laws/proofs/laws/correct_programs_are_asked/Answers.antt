use Rattle.fk_lower_laws.proofs.Programs.{correct_programs_are_asked}
use Rattle.fk_lower_laws.proofs.laws.correct_programs_are_asked.Goals as goal

pub returns : goal.returns
returns c = correct_programs_are_asked
