use Rattle.fk_compile.proofs.Trees.{programs_stay_in_trees}
use Rattle.fk_compile.proofs.laws.programs_stay_in_trees.Goals as goal

pub returns : goal.returns
returns c = programs_stay_in_trees
