use Rattle.fk_compile.proofs.OneProgram.{correct_programs_have_one_program}
use Rattle.fk_compile.proofs.laws.correct_programs_have_one_program.Goals as goal

pub returns : goal.returns
returns c = correct_programs_have_one_program
