use Rattle.fk_lockstep_tree.proofs.Lists.{lists_stay_in_trees}
use Rattle.fk_lockstep_tree.proofs.laws.lists_stay_in_trees.Goals as goal

pub returns : goal.returns
returns c = lists_stay_in_trees
