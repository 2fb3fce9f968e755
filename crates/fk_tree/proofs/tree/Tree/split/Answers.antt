use Rattle.std.proofs.Common.{ap}
use Rattle.fk_tree.specs.declared.node.Kind.TheVariants.{Lockstep}
use Rattle.fk_tree.specs.Tree.{is_waiting}
use Rattle.fk_tree.specs.View.{tree_of}
use Rattle.fk_tree.proofs.Turns.{there_by}
use Rattle.fk_tree.proofs.tree.Tree.split.Goals as goal

pub make_parts-requires-clause-there : goal.make_parts-requires-clause-there
make_parts-requires-clause-there c = there_by (tree_of c.args.self.now) c.args.node Lockstep c.requires.lockstep

pub make_parts-requires-clause-idle : goal.make_parts-requires-clause-idle
make_parts-requires-clause-idle c = ap is_waiting c.requires.lockstep
