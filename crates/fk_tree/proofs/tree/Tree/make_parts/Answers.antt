use Rattle.std.proofs.Common.{◌≡◌, ◌+◌, ℕ, length, drop, refl, sym, ap, ◌∙◌, arith}
use Rattle.std.proofs.lemmas.List.{take_at}
use Rattle.fk_tree.specs.Tree.{members}
use Rattle.fk_tree.specs.View.{tree_of}
use Rattle.fk_tree.proofs.Lists.{length-between}
use Rattle.fk_tree.proofs.Turns.{leaf_not_waiting}
use Rattle.fk_tree.proofs.Splits.{unsplit_tree, unsplit_sound, unsplit_counted}
use Rattle.fk_tree.proofs.Made.{made_tree, made_sound, made_counted}
use Rattle.fk_tree.proofs.tree.Tree.make_parts.Goals as goal

pub divide-requires-clause-few : goal.divide-requires-clause-few
divide-requires-clause-few c =
    let tree = c.args.self.now in
    let copy = c.as_slice-members.ensures.value ∙ c.in_ok-copied.ensures ∙ c.members.ensures.members in
    let short = length-between 0 _ (members (tree_of tree) c.args.node) (tree.sound.ascending c.args.node) (λ h is. (omega arith, tree.sound.within c.args.node h is)) in
    omega (arith, ap length copy, short, tree.few)

pub divide-requires-clause-length : goal.divide-requires-clause-length
divide-requires-clause-length c =
    c.requires.length ∙ ap length (sym (c.as_slice-members.ensures.value ∙ c.in_ok-copied.ensures ∙ c.members.ensures.members))

pub invariant_of-self : goal.invariant_of-self
invariant_of-self c =
    let tree = c.args.self.now in
    let copy = c.as_slice-members.ensures.value ∙ c.in_ok-copied.ensures ∙ c.members.ensures.members in
    let leaf = leaf_not_waiting _ c.args.node (tree_of tree) tree.sound c.requires.idle in
    let size : length c.place.new.places ≡ tree.places.len = omega (arith, c.place.auto.places, c.deref_mut.ensures.len) in
    let out = take_at c.place.new.places (drop (length c.place.new.places) tree.places.items) tree.places.len size in
    let more = ap (λ (k : ℕ). tree.given + k) c.from.ensures in
    record {
      few = tree.few;
      sound = made_sound _ c.args.node c.args.parts tree.given (tree.given + c.from.result) tree.places.items _ c.deref_mut.result.now c.place.new.places
          tree.nodes c.divide.new.nodes c.turn.new.nodes c.as_slice-members.result.now c.args.of.now tree.sound c.requires.there leaf more copy
          c.deref_mut.ensures.value out c.in-Ok.ensures.nodes c.turn.ensures.nodes c.place.ensures _ refl;
      counted = made_counted _ c.args.node c.args.parts tree.given (tree.given + c.from.result) tree.places.items _ c.deref_mut.result.now c.place.new.places
          tree.nodes c.divide.new.nodes c.turn.new.nodes c.as_slice-members.result.now c.args.of.now tree.sound c.requires.there leaf more copy
          c.deref_mut.ensures.value out c.in-Ok.ensures.nodes c.turn.ensures.nodes c.place.ensures c.in-Ok.living tree.counted
          c.in-Ok.ensures.count c.in-Ok.ensures.living c.turn.ensures.living;
    }

pub returns-in-Ok-clause-tree : goal.returns-in-Ok-clause-tree
returns-in-Ok-clause-tree c =
    let tree = c.args.self.now in
    let copy = c.as_slice-members.ensures.value ∙ c.in_ok-copied.ensures ∙ c.members.ensures.members in
    let leaf = leaf_not_waiting _ c.args.node (tree_of tree) tree.sound c.requires.idle in
    let size : length c.place.new.places ≡ tree.places.len = omega (arith, c.place.auto.places, c.deref_mut.ensures.len) in
    let out = take_at c.place.new.places (drop (length c.place.new.places) tree.places.items) tree.places.len size in
    let more = ap (λ (k : ℕ). tree.given + k) c.from.ensures in
    made_tree _ c.args.node c.args.parts tree.given (tree.given + c.from.result) tree.places.items _ c.deref_mut.result.now c.place.new.places
    tree.nodes c.divide.new.nodes c.turn.new.nodes c.as_slice-members.result.now c.args.of.now tree.sound c.requires.there leaf more copy
    c.deref_mut.ensures.value out c.in-Ok.ensures.nodes c.turn.ensures.nodes c.place.ensures

pub invariant_of-self-in-Err : goal.invariant_of-self-in-Err
invariant_of-self-in-Err c =
    let tree = c.args.self.now in
    record {
      few = tree.few;
      sound = unsplit_sound tree.given tree.places.items tree.nodes c.divide.new.nodes c.forget.new.nodes c.in-Err.ensures.err c.forget.ensures.before c.forget.ensures.after _ tree.sound;
      counted = unsplit_counted tree.given tree.places.items tree.nodes c.divide.new.nodes c.forget.new.nodes c.in-Err.ensures.err c.forget.ensures.before c.forget.ensures.after
          _ tree.sound tree.counted c.in-Err.ensures.living c.forget.ensures.living c.forget.ensures.idle;
    }

pub returns-clause-err : goal.returns-clause-err
returns-clause-err c =
    let tree = c.args.self.now in
    unsplit_tree tree.given tree.places.items tree.nodes c.divide.new.nodes c.forget.new.nodes c.in-Err.ensures.err c.forget.ensures.before c.forget.ensures.after _ tree.sound
