use Rattle.std.proofs.Common.{◌≡◌, []}
use Rattle.fk_tree.specs.Tree.{below}
use Rattle.fk_tree.proofs.nodes.processors_below.Given as goal

abbrev pub invariant-loop-processor : goal.invariant-loop-processor
invariant-loop-processor l = l.members.items ≡ below l.processor []
