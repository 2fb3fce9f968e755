-- One range after the other.
use Rattle.std.proofs.Common.{◌+◌, ◌<◌, length, map, get_or, sym, ◌∙◌, subst, arith}
use Rattle.fk_tree.specs.View.{tree_of, processors}
use Rattle.fk_replay_text.specs.View.{range_of}
use Rattle.fk_replay_text.specs.declared.trace.Acts.{Acts}
use Rattle.fk_replay_take.proofs.Ranges.{EnlistsAt, enlists_first, next_is, enlists_more, enlists_end, none_acting, ranges_rise, range_at, many_ranges}
use Rattle.fk_replay_take.proofs.enlist.enlist.Goals as goal

abbrev nobody : Acts
nobody = record { first = 0; last = 0; count = 0 }

pub loop-range-init : goal.loop-range-init
loop-range-init c =
    let ranges = map range_of c.args.acts.now in
    record {
      counts = enlists_first (processors c.args.tree.now) ranges c.args.counts.now.items c.requires.counts (ranges_rise (processors c.args.tree.now) ranges c.requires.ranges);
      acting = c.clear.ensures.items ∙ none_acting (tree_of c.args.tree.now) c.args.counts.now.items (processors c.args.tree.now) c.requires.counts;
    }

pub enlist_range-requires : goal.enlist_range-requires
enlist_range-requires c =
    let ranges = map range_of c.args.acts.now in
    let i = c.loop-range.range-index in
    let x = get_or c.args.acts.now i nobody in
    let lt : i < length c.args.acts.now = c.loop-range-test.true in
    let same = many_ranges c.args.acts.now in
    let next = next_is (processors c.args.tree.now) ranges i c.loop-range.counts.items (range_of x) c.loop-range.invariant.counts (omega (arith, same, lt)) (range_at c.args.acts.now i nobody lt) in
    let many = c.loop-range.invariant.counts.counts_to.many in
    let held = c.loop-range.counts.ok.0 in
    record {
      many = omega (arith, many, held);
      ordered = next.ordered;
      within = next.below;
      some = next.some;
      behind = next.behind;
      acting = c.loop-range.invariant.acting;
    }

pub loop-range-preserved : goal.loop-range-preserved
loop-range-preserved c =
    let ranges = map range_of c.args.acts.now in
    let i = c.loop-range.range-index in
    let x = get_or c.args.acts.now i nobody in
    let lt : i < length c.args.acts.now = c.loop-range-test.true in
    let same = many_ranges c.args.acts.now in
    record {
      counts = subst (EnlistsAt (processors c.args.tree.now) ranges (i + 1)) (sym c.in_ok-enlist_range.ensures.counts)
          (enlists_more (processors c.args.tree.now) ranges i c.loop-range.counts.items (range_of x) c.loop-range.invariant.counts (omega (arith, same, lt)) (range_at c.args.acts.now i nobody lt));
      acting = c.in_ok-enlist_range.ensures.acting;
    }

pub returns-clause-counts : goal.returns-clause-counts
returns-clause-counts c =
    let ranges = map range_of c.args.acts.now in
    let same = many_ranges c.args.acts.now in
    let past = c.loop-range-test.false in
    enlists_end (processors c.args.tree.now) ranges c.loop-range.range-index c.loop-range.counts.items c.loop-range.invariant.counts (omega (arith, same, past))
