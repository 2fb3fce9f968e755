use Rattle.std.proofs.Common.{true, refl}
use Rattle.fk_tree.specs.declared.node.Kind.TheVariants.{Lockstep, Asynchronous}
use Rattle.fk_tree.specs.View.{tree_of}
use Rattle.fk_tree.proofs.Turns.{idle-lockstep, idle-asynchronous, free-asynchronous, leaf_by, there_by, turn_tree, turn_sound, turn_counted}
use Rattle.fk_tree.proofs.tree.Tree.single.Goals as goal

pub turn-requires : goal.turn-requires
turn-requires c = there_by (tree_of c.args.self.now) c.args.node Lockstep c.requires

pub invariant_of-self : goal.invariant_of-self
invariant_of-self c =
    let tree = c.args.self.now in
    let leaf = leaf_by _ c.args.node Lockstep (tree_of tree) tree.sound idle-lockstep c.requires in
    record {
      few = tree.few;
      sound = turn_sound tree.given tree.places.items tree.nodes c.turn.new.nodes c.args.node (Asynchronous true) c.turn.ensures.nodes _ tree.sound leaf (idle-asynchronous true) (λ e. free-asynchronous true);
      counted = turn_counted tree.given tree.places.items tree.nodes c.turn.new.nodes c.args.node (Asynchronous true) c.turn.ensures.nodes 0
          (there_by (tree_of tree) c.args.node Lockstep c.requires) refl tree.counted c.turn.ensures.living;
    }

pub returns-clause-tree : goal.returns-clause-tree
returns-clause-tree c =
    turn_tree c.args.self.now.given c.args.self.now.places.items c.args.self.now.nodes c.turn.new.nodes c.args.node (Asynchronous true) c.turn.ensures.nodes
