use Rattle.std.proofs.Common.{ℕ, Bool, List, map, length, ap, sym, ◌∙◌, subst}
use Rattle.fk_tree.specs.Tree as t
use Rattle.fk_tree.specs.View.{tree_of, processors}
use Rattle.fk_meaning.specs.Group.{stays}
use Rattle.fk_replay_phases.specs.Present.{AreBelow}
use Rattle.fk_replay_phases.proofs.Highest.{members_below}
use Rattle.fk_replay_trees.specs.Changes.{has_of}
use Rattle.fk_replay_trees.proofs.change.shrink.Goals as goal

pub stays_of-requires : goal.stays_of-requires
stays_of-requires c =
    let tree = tree_of c.args.tree.now in
    record {
      members = subst (λ (ms : List ℕ). AreBelow (length c.args.actors.now) ms) (sym c.members.ensures.members)
          (subst (λ (n : ℕ). AreBelow n (t.members tree c.args.acting.node)) (sym c.requires.many)
          (members_below (processors c.args.tree.now) c.args.acting.node tree c.members.ensures.sound));
    }

pub returns-clause-tree : goal.returns-clause-tree
returns-clause-tree c =
    let tree = tree_of c.args.tree.now in
    let node = c.args.acting.node in
    let actors = c.args.actors.now in
    let stay : ℕ → Bool = λ h. stays (has_of actors h) in
    let told = c.deref.ensures.value ∙ c.in_ok-stay.ensures ∙ ap (map stay) c.members.ensures.members in
    c.shrink.ensures.tree
    ∙ ap (λ (xs : List Bool). t.shrink node (t.stays_by (t.members tree node) xs) tree) told
    ∙ (c.lists_tell_members.ensures node tree).stays stay
