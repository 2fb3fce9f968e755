use Rattle.std.proofs.Common.{◌≡◌, ap, sym, ℕ, ◌∙◌}
use Rattle.fk_tree.specs.declared.node.Kind.{Kind}
use Rattle.fk_tree.specs.Tree.{with_node, turned, kind_after}
use Rattle.fk_tree.specs.Seen.{Held, nodes_seen}
use Rattle.fk_tree.specs.View.{tree_of}
use Rattle.fk_tree.proofs.Turns.{idle-after, free-after, leaf_ready, there_ready, turn_tree, turn_sound, turn_counted}
use Rattle.fk_tree.proofs.tree.Tree.resume.Goals as goal

turned-after : (old new : Held) (n : ℕ) (k : Kind) → k ≡ kind_after n → ((i : ℕ) → nodes_seen new i ≡ with_node n (turned k (nodes_seen old n)) (nodes_seen old) i)
    → (i : ℕ) → nodes_seen new i ≡ with_node n (turned (kind_after n) (nodes_seen old n)) (nodes_seen old) i
turned-after old new n k e turn i = turn i ∙ ap (λ (j : Kind). with_node n (turned j (nodes_seen old n)) (nodes_seen old) i) e

pub turn-requires : goal.turn-requires
turn-requires c = there_ready (tree_of c.args.self.now) c.args.node c.requires

pub invariant_of-self : goal.invariant_of-self
invariant_of-self c =
    let tree = c.args.self.now in
    let leaf = leaf_ready _ c.args.node (tree_of tree) tree.sound c.requires in
    let idle = idle-after c.args.node in
    let turn = turned-after tree.nodes c.turn.new.nodes c.args.node c.kind_after.result c.kind_after.ensures c.turn.ensures.nodes in
    record {
      few = tree.few;
      sound = turn_sound tree.given tree.places.items tree.nodes c.turn.new.nodes c.args.node (kind_after c.args.node) turn _ tree.sound leaf idle (free-after c.args.node);
      counted = turn_counted tree.given tree.places.items tree.nodes c.turn.new.nodes c.args.node (kind_after c.args.node) turn 0
          (there_ready (tree_of tree) c.args.node c.requires) (sym (idle.counts_none (nodes_seen tree.nodes))) tree.counted c.turn.ensures.living;
    }

pub returns-clause-tree : goal.returns-clause-tree
returns-clause-tree c =
    let tree = c.args.self.now in
    let turn = turned-after tree.nodes c.turn.new.nodes c.args.node c.kind_after.result c.kind_after.ensures c.turn.ensures.nodes in
    turn_tree tree.given tree.places.items tree.nodes c.turn.new.nodes c.args.node (kind_after c.args.node) turn
