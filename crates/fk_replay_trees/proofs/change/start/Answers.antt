use Rattle.std.proofs.Common.{ℕ, length, ap, ◌∙◌, arith}
use Rattle.fk_tree.specs.Tree as t
use Rattle.fk_tree.specs.View.{tree_of, processors}
use Rattle.fk_replay_trees.proofs.Members.{root_members}
use Rattle.fk_replay_trees.proofs.change.start.Goals as goal

pub overflow_cast-most : goal.overflow_cast-most
overflow_cast-most c =
    let tree = tree_of c.args.tree.now in
    let all = ap (λ (n : ℕ). length (t.members tree n)) c.requires.root ∙ root_members (processors c.args.tree.now) tree c.members.ensures.sound in
    let same = ap length c.members.ensures.members in
    let few = c.args.tree.now.few in
    omega (arith, all, same, few)

pub begin-requires-clause-count : goal.begin-requires-clause-count
begin-requires-clause-count c =
    let tree = tree_of c.args.tree.now in
    let all = ap (λ (n : ℕ). length (t.members tree n)) c.requires.root ∙ root_members (processors c.args.tree.now) tree c.members.ensures.sound in
    let same = ap length c.members.ensures.members in
    let least = c.min-count.ensures in
    omega (arith, all, same, least)
