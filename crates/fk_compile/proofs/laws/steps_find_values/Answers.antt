use Rattle.fk_compile.proofs.Blocks.{steps_find_values}
use Rattle.fk_compile.proofs.laws.steps_find_values.Goals as goal

pub returns : goal.returns
returns c = steps_find_values
