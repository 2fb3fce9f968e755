use Rattle.std.proofs.Common.{◌≡◌, ℕ, List, length, drop, slice_index, refl, ap, ◌∙◌, arith, if◌then◌else◌}
use Rattle.std.proofs.lemmas.List.{take_at}
use Rattle.fk_tree.specs.Tree.{is_member}
use Rattle.fk_tree.specs.View.{tree_of}
use Rattle.fk_tree.proofs.Finishes.{can_shrink, up_counted, new_counted, finish_tree, finish_sound}
use Rattle.fk_tree.proofs.tree.Tree.finish.Goals as goal

pub lose-requires-clause-counted : goal.lose-requires-clause-counted
lose-requires-clause-counted c =
    let tree = c.args.self.now in
    up_counted _ c.args.node tree.given tree.places.items tree.nodes c.remove.new.self c.in-Some.part tree.sound tree.counted
    (can_shrink _ c.args.node (tree_of tree) tree.sound c.requires) c.in-Some.ensures.value c.in-Some.ensures.updates.0

pub invariant_of-self : goal.invariant_of-self
invariant_of-self c =
    let tree = c.args.self.now in
    let can = can_shrink _ c.args.node (tree_of tree) tree.sound c.requires in
    let size : length c.settle.new.places ≡ tree.places.len = omega (arith, c.settle.auto.places, c.deref_mut.ensures.len) in
    let out = take_at c.settle.new.places (drop (length c.settle.new.places) tree.places.items) tree.places.len size in
    record {
      few = tree.few;
      sound = finish_sound _ c.args.node tree.given tree.places.items tree.nodes c.remove.new.self c.in-Some.part tree.sound tree.counted
          can c.in-Some.ensures.value c.in-Some.ensures.updates.0 c.lose.new.nodes c.lose.ensures.nodes c.lose.ensures.living _
          (λ h. ap (λ (xs : List ℕ). slice_index xs h) out ∙ c.settle.ensures h
          ∙ ap (λ (ms : List ℕ). if is_member h ms then c.in-Some.part.parent else slice_index c.deref_mut.result.now h) c.as_slice.ensures.value
          ∙ ap (λ (xs : List ℕ). if is_member h c.in-Some.part.members.items then c.in-Some.part.parent else slice_index xs h) c.deref_mut.ensures.value)
          _ refl;
      counted = new_counted _ c.args.node tree.given tree.places.items tree.nodes c.remove.new.self c.in-Some.part tree.sound tree.counted
          can c.in-Some.ensures.value c.in-Some.ensures.updates.0 c.lose.new.nodes c.lose.ensures.nodes c.lose.ensures.living;
    }

pub returns-in-Some-clause-tree : goal.returns-in-Some-clause-tree
returns-in-Some-clause-tree c =
    let tree = c.args.self.now in
    let can = can_shrink _ c.args.node (tree_of tree) tree.sound c.requires in
    let size : length c.settle.new.places ≡ tree.places.len = omega (arith, c.settle.auto.places, c.deref_mut.ensures.len) in
    let out = take_at c.settle.new.places (drop (length c.settle.new.places) tree.places.items) tree.places.len size in
    finish_tree _ c.args.node tree.given tree.places.items tree.nodes c.remove.new.self c.in-Some.part tree.sound tree.counted
    can c.in-Some.ensures.value c.in-Some.ensures.updates.0 c.lose.new.nodes c.lose.ensures.nodes c.lose.ensures.living _
    (λ h. ap (λ (xs : List ℕ). slice_index xs h) out ∙ c.settle.ensures h
    ∙ ap (λ (ms : List ℕ). if is_member h ms then c.in-Some.part.parent else slice_index c.deref_mut.result.now h) c.as_slice.ensures.value
    ∙ ap (λ (xs : List ℕ). if is_member h c.in-Some.part.members.items then c.in-Some.part.parent else slice_index xs h) c.deref_mut.ensures.value)
