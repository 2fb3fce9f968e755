use Rattle.std.proofs.Common.{arith}
use Rattle.fk_tree.proofs.Roots.{root_tree, root_tree_sound, root_counted}
use Rattle.fk_tree.proofs.tree.Tree.root.Goals as goal

pub invariant_of-result : goal.invariant_of-result
invariant_of-result c =
    let zeros = c.in_ok-vec.ensures.items_if_clones_equal (λ y e. e) in
    let nodes = c.in_ok-root_alone.ensures in
    record {
      few = omega (arith, c.in_ok-vec.ensures.len, c.requires.few);
      sound = root_tree_sound c.args.p c.in_ok-vec.field-0.items c.in_ok-root_alone.field-0 zeros nodes.nodes _ c.in_ok-vec.ensures.len c.requires.some;
      counted = root_counted c.args.p c.in_ok-vec.field-0.items c.in_ok-root_alone.field-0 zeros nodes.nodes nodes.living;
    }

pub returns-clause-tree : goal.returns-clause-tree
returns-clause-tree c =
    root_tree c.args.p c.in_ok-vec.field-0.items c.in_ok-root_alone.field-0 (c.in_ok-vec.ensures.items_if_clones_equal (λ y e. e)) c.in_ok-root_alone.ensures.nodes
