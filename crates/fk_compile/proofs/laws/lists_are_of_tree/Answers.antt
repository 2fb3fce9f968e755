use Rattle.fk_compile.proofs.Trees.{lists_are_of_tree}
use Rattle.fk_compile.proofs.laws.lists_are_of_tree.Goals as goal

pub returns : goal.returns
returns c = lists_are_of_tree
