use Rattle.std.proofs.Common.{◌<◌, length, arith, slice_index, ◌∙◌}
use Rattle.std.proofs.lemmas.List.Filters.{FiltersInPlace-more_set, FiltersInPlace-more_no}
use Rattle.fk_tree.proofs.Leaves.{member_is, stays_at, one_stays, one_leaves, member_within}
use Rattle.fk_tree.proofs.nodes.leave.Goals as goal
use Rattle.fk_tree.proofs.nodes.leave.Goals.{then-stays, else-stays}

pub bounds-places-member : goal.bounds-places-member
bounds-places-member c =
    let ms = c.args.members.now.items in
    let lt : c.loop-index.index < length ms = omega (arith, c.loop-index-test.true, c.requires.length) in
    let is = member_is c.args.node ms c.args.stay.now (slice_index c.args.places.now) c.requires.ascending c.requires.length
    c.loop-index.members.items c.loop-index.kept c.loop-index.index c.index-member.result.now c.loop-index.invariant.members lt c.index-member.ensures in
    omega (
      arith,
      c.loop-index.auto.places,
      member_within c.args.node ms c.args.stay.now (slice_index c.args.places.now) c.requires.ascending c.requires.length
          c.loop-index.index c.index-member.result.now (length c.args.places.now) lt is c.requires.within,
    )

pub loop-index-preserved : goal.loop-index-preserved
loop-index-preserved c =
    let ms = c.args.members.now.items in
    let x = c.index-member.result.now in
    let f = c.loop-index.invariant.members in
    let lt : c.loop-index.index < length ms = omega (arith, c.loop-index-test.true, c.requires.length) in
    let lt' : c.loop-index.index < length c.loop-index.members.items = omega (arith, lt, f.long) in
    let is = member_is c.args.node ms c.args.stay.now (slice_index c.args.places.now) c.requires.ascending c.requires.length
    c.loop-index.members.items c.loop-index.kept c.loop-index.index x f lt c.index-member.ensures in
    elim c.if-stays.branch [
      | then-stays w ↦ rw (w.members-is, w.places-is, w.kept-is)
          (let stays = stays_at c.args.node ms c.args.stay.now (slice_index c.args.places.now) c.requires.ascending c.requires.length c.loop-index.index x _ lt is w.if-stays.true in
          record {
            members = FiltersInPlace-more_set f lt' stays c.index-member.ensures;
            places = λ h. c.loop-index.invariant.places h
                ∙ one_stays c.args.node ms c.args.stay.now (slice_index c.args.places.now) c.requires.ascending c.requires.length c.loop-index.index x lt is stays h;
          })
      | else-stays w ↦ rw (w.members-is, w.places-is, w.kept-is)
          (let stays = stays_at c.args.node ms c.args.stay.now (slice_index c.args.places.now) c.requires.ascending c.requires.length c.loop-index.index x _ lt is w.if-stays.false in
          let within : x < length c.loop-index.places =
          omega (
            arith,
            c.loop-index.auto.places,
            member_within c.args.node ms c.args.stay.now (slice_index c.args.places.now) c.requires.ascending c.requires.length
                c.loop-index.index x (length c.args.places.now) lt is c.requires.within,
          ) in
          record {
            members = FiltersInPlace-more_no f lt' stays c.index-member.ensures;
            places = one_leaves c.args.node ms c.args.stay.now (slice_index c.args.places.now) c.requires.ascending c.requires.length c.loop-index.index x lt is stays
                c.loop-index.places within c.loop-index.invariant.places;
          })
    ]
