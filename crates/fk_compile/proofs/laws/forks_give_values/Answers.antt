use Rattle.fk_compile.proofs.OneProgram.{forks_give_values}
use Rattle.fk_compile.proofs.laws.forks_give_values.Goals as goal

pub returns : goal.returns
returns c = forks_give_values
