use Rattle.std.proofs.Common.{◌∙◌, nat_eq}
use Rattle.std.specs.HashMap.{get}
use Rattle.fk_tree.specs.View.{tree_of}
use Rattle.fk_tree.proofs.Ready.{ready_node}
use Rattle.fk_tree.proofs.tree.Tree.ready.Goals as goal

pub returns-in-Some : goal.returns-in-Some
returns-in-Some c =
    let tree = c.args.self.now in
    c.is_ready.ensures ∙ ready_node (tree_of tree) c.in-Some.node.now (get nat_eq tree.nodes c.args.node) c.in-Some.ensures.value (tree.counted c.args.node)
