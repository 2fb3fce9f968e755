use Rattle.std.proofs.Common.{◌≡◌, ℕ, List, Option, map, length, ap, sym, ◌∙◌, subst, arith}
use Rattle.fk_tree.specs.Tree as t
use Rattle.fk_tree.specs.View.{tree_of, processors}
use Rattle.fk_meaning.specs.Processor as p
use Rattle.fk_meaning.specs.Group.{part, parts}
use Rattle.fk_meaning.specs.Told.{number_of}
use Rattle.fk_replay_phases.specs.Present.{AreBelow}
use Rattle.fk_replay_phases.proofs.Highest.{members_below}
use Rattle.fk_replay_trees.specs.Changes.{has_of}
use Rattle.fk_replay_trees.proofs.Members.{has_there, below_parts}
use Rattle.fk_replay_trees.proofs.change.split.Goals as goal

pub parts_of-requires : goal.parts_of-requires
parts_of-requires c =
    let tree = tree_of c.args.tree.now in
    record {
      members = subst (λ (ms : List ℕ). AreBelow (length c.args.actors.now) ms) (sym c.members.ensures.members)
          (subst (λ (n : ℕ). AreBelow n (t.members tree c.args.acting.node)) (sym c.requires.many)
          (members_below (processors c.args.tree.now) c.args.acting.node tree c.members.ensures.sound));
    }

pub split-requires-clause-numbers : goal.split-requires-clause-numbers
split-requires-clause-numbers c =
    let low = c.args.acting.lowest in
    let same = c.parts-count.ensures
    ∙ ap (λ (q : p.Processor). parts c.args.by (p.values q)) (sym (has_there c.args.actors.now low c.index-actors-acting.result c.requires.low c.index-actors-acting.is)) in
    let few = c.requires.given in
    omega (arith, same, few)

pub returns-clause-tree : goal.returns-clause-tree
returns-clause-tree c =
    let tree = tree_of c.args.tree.now in
    let node = c.args.acting.node in
    let actors = c.args.actors.now in
    let by = c.args.by in
    let low = c.args.acting.lowest in
    let count = c.parts-count.result in
    let same : count ≡ parts by (p.values (has_of actors low))
    = c.parts-count.ensures
    ∙ ap (λ (q : p.Processor). parts by (p.values q)) (sym (has_there actors low c.index-actors-acting.result c.requires.low c.index-actors-acting.is)) in
    let part_of : ℕ → Option ℕ = λ h. part by (p.values (has_of actors h)) in
    let told = c.deref.ensures.value ∙ c.in_ok-of.ensures
    ∙ ap (map (λ (h : ℕ). number_of count (part by (p.values (has_of actors h))))) c.members.ensures.members in
    let tells = (c.lists_tell_members.ensures node tree).parts count part_of
    (below_parts tree actors node by count c.requires.divide (same ∙ ap (λ (h : ℕ). parts by (p.values (has_of actors h))) c.requires.lowest)) in
    c.in_ok-split.ensures.tree
    ∙ ap (λ (of : List ℕ). t.split node count (t.parts_by count (t.members tree node) of) tree) told ∙ tells
    ∙ ap (λ (k : ℕ). t.split node k part_of tree) same
