use Rattle.std.proofs.Common.{refl}
use Rattle.fk_tree.specs.declared.node.Kind.TheVariants.{Lockstep, Asynchronous}
use Rattle.fk_tree.specs.View.{tree_of}
use Rattle.fk_tree.proofs.Turns.{idle-lockstep, idle-asynchronous, leaf_by, there_by, turn_tree, turn_sound, turn_counted}
use Rattle.fk_tree.proofs.tree.Tree.meet.Goals as goal

pub turn-requires : goal.turn-requires
turn-requires c = there_by (tree_of c.args.self.now) c.args.node (Asynchronous c.requires.alone) c.requires.body

pub invariant_of-self : goal.invariant_of-self
invariant_of-self c =
    let tree = c.args.self.now in
    let body = Asynchronous c.requires.alone in
    let leaf = leaf_by _ c.args.node body (tree_of tree) tree.sound (idle-asynchronous c.requires.alone) c.requires.body in
    record {
      few = tree.few;
      sound = turn_sound tree.given tree.places.items tree.nodes c.turn.new.nodes c.args.node Lockstep c.turn.ensures.nodes _ tree.sound leaf idle-lockstep (λ e. absurd (c.requires.part e));
      counted = turn_counted tree.given tree.places.items tree.nodes c.turn.new.nodes c.args.node Lockstep c.turn.ensures.nodes 0
          (there_by (tree_of tree) c.args.node body c.requires.body) refl tree.counted c.turn.ensures.living;
    }

pub returns-clause-tree : goal.returns-clause-tree
returns-clause-tree c =
    turn_tree c.args.self.now.given c.args.self.now.places.items c.args.self.now.nodes c.turn.new.nodes c.args.node Lockstep c.turn.ensures.nodes
