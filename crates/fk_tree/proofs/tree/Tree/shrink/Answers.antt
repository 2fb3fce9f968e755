-- Those who stay are the part's members, and where nobody does, the part ends.
use Rattle.std.proofs.Common.{◌≡◌, length, drop, refl, arith}
use Rattle.std.proofs.lemmas.List.{take_at}
use Rattle.std.proofs.lemmas.Bool.{false≢true}
use Rattle.fk_tree.specs.Tree.{members, stays_by}
use Rattle.fk_tree.specs.View.{tree_of}
use Rattle.fk_tree.proofs.Finishes.{can_shrink}
use Rattle.fk_tree.proofs.Shrinks.{empty_from, kept_tree, kept_sound, kept_counted, up_counted, ended_tree, ended_sound, new_counted}
use Rattle.fk_tree.proofs.tree.Tree.shrink.Goals as goal

pub invariant_of-self : goal.invariant_of-self
invariant_of-self c =
    let tree = c.args.self.now in
    let can = can_shrink _ c.args.node (tree_of tree) tree.sound c.requires.lockstep in
    let size : length c.shrink.new.places ≡ tree.places.len = omega (arith, c.shrink.auto.places, c.deref_mut.ensures.len) in
    let out = take_at c.shrink.new.places (drop (length c.shrink.new.places) tree.places.items) tree.places.len size in
    let e = c.if-shrink.ensures in
    record {
      few = tree.few;
      sound = kept_sound _ c.args.node tree.given tree.places.items _ c.shrink.new.places c.deref_mut.result.now tree.nodes c.shrink.new.nodes
          (stays_by (members (tree_of tree) c.args.node) c.args.stay.now) tree.sound tree.counted can c.deref_mut.ensures.value out
          e.members e.parent e.kind e.others e.living e.places (e.stay.0 refl) _ refl;
      counted = kept_counted _ c.args.node tree.given tree.places.items _ c.shrink.new.places c.deref_mut.result.now tree.nodes c.shrink.new.nodes
          (stays_by (members (tree_of tree) c.args.node) c.args.stay.now) tree.sound tree.counted can c.deref_mut.ensures.value out
          e.members e.parent e.kind e.others e.living e.places (e.stay.0 refl);
    }

pub returns-then-shrink-clause-tree : goal.returns-then-shrink-clause-tree
returns-then-shrink-clause-tree c =
    let tree = c.args.self.now in
    let can = can_shrink _ c.args.node (tree_of tree) tree.sound c.requires.lockstep in
    let size : length c.shrink.new.places ≡ tree.places.len = omega (arith, c.shrink.auto.places, c.deref_mut.ensures.len) in
    let out = take_at c.shrink.new.places (drop (length c.shrink.new.places) tree.places.items) tree.places.len size in
    let e = c.if-shrink.ensures in
    kept_tree _ c.args.node tree.given tree.places.items _ c.shrink.new.places c.deref_mut.result.now tree.nodes c.shrink.new.nodes
    (stays_by (members (tree_of tree) c.args.node) c.args.stay.now) tree.sound tree.counted can c.deref_mut.ensures.value out
    e.members e.parent e.kind e.others e.living e.places (e.stay.0 refl)

pub lose-requires-clause-counted : goal.lose-requires-clause-counted
lose-requires-clause-counted c =
    let tree = c.args.self.now in
    let can = can_shrink _ c.args.node (tree_of tree) tree.sound c.requires.lockstep in
    let size : length c.shrink.new.places ≡ tree.places.len = omega (arith, c.shrink.auto.places, c.deref_mut.ensures.len) in
    let out = take_at c.shrink.new.places (drop (length c.shrink.new.places) tree.places.items) tree.places.len size in
    let e = c.if-shrink.ensures in
    up_counted _ c.args.node tree.given tree.places.items _ c.shrink.new.places c.deref_mut.result.now tree.nodes c.shrink.new.nodes
    (stays_by (members (tree_of tree) c.args.node) c.args.stay.now) tree.sound tree.counted can c.deref_mut.ensures.value out
    e.members e.parent e.kind e.others e.living e.places
    c.remove.new.self c.in-Some.part (empty_from _ (λ some. false≢true (e.stay.1 some))) c.in-Some.ensures.value c.in-Some.ensures.updates.0

pub invariant_of-self-in-Some : goal.invariant_of-self-in-Some
invariant_of-self-in-Some c =
    let tree = c.args.self.now in
    let can = can_shrink _ c.args.node (tree_of tree) tree.sound c.requires.lockstep in
    let size : length c.shrink.new.places ≡ tree.places.len = omega (arith, c.shrink.auto.places, c.deref_mut.ensures.len) in
    let out = take_at c.shrink.new.places (drop (length c.shrink.new.places) tree.places.items) tree.places.len size in
    let e = c.if-shrink.ensures in
    record {
      few = tree.few;
      sound = ended_sound _ c.args.node tree.given tree.places.items _ c.shrink.new.places c.deref_mut.result.now tree.nodes c.shrink.new.nodes
          (stays_by (members (tree_of tree) c.args.node) c.args.stay.now) tree.sound tree.counted can c.deref_mut.ensures.value out
          e.members e.parent e.kind e.others e.living e.places
          c.remove.new.self c.in-Some.part (empty_from _ (λ some. false≢true (e.stay.1 some))) c.in-Some.ensures.value c.in-Some.ensures.updates.0 c.lose.new.nodes c.lose.ensures.nodes c.lose.ensures.living _ refl;
      counted = new_counted _ c.args.node tree.given tree.places.items _ c.shrink.new.places c.deref_mut.result.now tree.nodes c.shrink.new.nodes
          (stays_by (members (tree_of tree) c.args.node) c.args.stay.now) tree.sound tree.counted can c.deref_mut.ensures.value out
          e.members e.parent e.kind e.others e.living e.places
          c.remove.new.self c.in-Some.part (empty_from _ (λ some. false≢true (e.stay.1 some))) c.in-Some.ensures.value c.in-Some.ensures.updates.0 c.lose.new.nodes c.lose.ensures.nodes c.lose.ensures.living;
    }

pub returns-in-Some-clause-tree : goal.returns-in-Some-clause-tree
returns-in-Some-clause-tree c =
    let tree = c.args.self.now in
    let can = can_shrink _ c.args.node (tree_of tree) tree.sound c.requires.lockstep in
    let size : length c.shrink.new.places ≡ tree.places.len = omega (arith, c.shrink.auto.places, c.deref_mut.ensures.len) in
    let out = take_at c.shrink.new.places (drop (length c.shrink.new.places) tree.places.items) tree.places.len size in
    let e = c.if-shrink.ensures in
    ended_tree _ c.args.node tree.given tree.places.items _ c.shrink.new.places c.deref_mut.result.now tree.nodes c.shrink.new.nodes
    (stays_by (members (tree_of tree) c.args.node) c.args.stay.now) tree.sound tree.counted can c.deref_mut.ensures.value out
    e.members e.parent e.kind e.others e.living e.places
    c.remove.new.self c.in-Some.part (empty_from _ (λ some. false≢true (e.stay.1 some))) c.in-Some.ensures.value c.in-Some.ensures.updates.0 c.lose.new.nodes c.lose.ensures.nodes c.lose.ensures.living
