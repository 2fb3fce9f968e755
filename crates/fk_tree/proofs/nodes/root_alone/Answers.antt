use Rattle.std.proofs.Common.{false, refl}
use Rattle.fk_tree.specs.declared.node.Kind.TheVariants.{Asynchronous}
use Rattle.fk_tree.specs.declared.node.LiveNode.{LiveNode}
use Rattle.fk_tree.proofs.Ready.{root_seen, root_held}
use Rattle.fk_tree.proofs.nodes.root_alone.Goals as goal

pub returns-clause-nodes : goal.returns-clause-nodes
returns-clause-nodes c =
    let node : LiveNode = record { members = c.in_ok-processors_below.field-0; parent = 0; kind = Asynchronous false; living = 0 } in
    root_held c.args.count c.new-nodes.result c.insert.new.self node c.requires c.new-nodes.ensures.empty
    (root_seen c.args.count node c.requires c.in_ok-processors_below.ensures refl refl)
    c.in_ok-insert.ensures.updates.0
