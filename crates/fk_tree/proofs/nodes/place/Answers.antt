use Rattle.std.proofs.Common.{◌<◌, length, get_or, arith, ◌∙◌, slice_index}
use Rattle.fk_tree.proofs.Lists.{member_at}
use Rattle.fk_tree.proofs.Places.{moves, stays_put}
use Rattle.fk_tree.proofs.nodes.place.Goals as goal
use Rattle.fk_tree.proofs.nodes.place.Goals.{then-part-parts, else-part-parts}

pub bounds-places-member : goal.bounds-places-member
bounds-places-member c =
    omega (arith, c.requires.within (get_or c.args.members.now c.loop-index.index 0) (member_at c.args.members.now c.loop-index.index c.loop-index-test.true), c.loop-index.auto.places)

pub loop-index-preserved : goal.loop-index-preserved
loop-index-preserved c =
    elim c.if-part-parts.branch [
      | then-part-parts w ↦ rw w.places-is
          (let within : get_or c.args.members.now c.loop-index.index 0 < length c.loop-index.places =
          omega (arith, c.requires.within (get_or c.args.members.now c.loop-index.index 0) (member_at c.args.members.now c.loop-index.index c.loop-index-test.true), c.loop-index.auto.places) in
          let in_part : w.from.result < c.args.parts = omega (arith, w.from.ensures, w.if-part-parts.true) in
          moves c.args.first c.args.parts c.args.members.now c.args.of.now (slice_index c.args.places.now) c.requires.ascending c.requires.length
          c.loop-index.index w.from.result c.loop-index-test.true w.from.ensures in_part c.loop-index.places within c.loop-index.invariant)
      | else-part-parts w ↦ rw w.places-is
          (λ h. c.loop-index.invariant h
          ∙ stays_put c.args.first c.args.parts c.args.members.now c.args.of.now (slice_index c.args.places.now) c.requires.ascending c.requires.length
          c.loop-index.index c.loop-index-test.true w.if-part-parts.false h)
    ]
