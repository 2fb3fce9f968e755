-- One number after the other.
use Rattle.std.proofs.Common.{◌<◌, length, set, arith}
use Rattle.fk_tree.specs.View.{tree_of}
use Rattle.fk_replay_text.specs.View.{range_of}
use Rattle.fk_replay_take.proofs.Ranges.{range_first, range_more, range_present, range_end, acting_more}
use Rattle.fk_replay_take.proofs.enlist.enlist_range.Goals as goal

pub loop-number-init : goal.loop-number-init
loop-number-init c = record {
  counts = range_first (range_of c.args.acts) c.args.counts.now.items c.requires.behind;
  acting = c.requires.acting;
}

pub loop-number-preserved : goal.loop-number-preserved
loop-number-preserved c =
    let r = range_of c.args.acts in
    let old = c.args.counts.now.items in
    let number = c.loop-number.number in
    let at = c.loop-number.invariant.counts in
    let held = c.args.counts.now.ok.0 in
    let many = c.requires.many in
    let last = c.requires.within in
    let lt : number < length old = omega arith in
    record {
      counts = range_more r old number c.loop-number.counts.items at (omega arith) (omega arith) lt;
      acting = acting_more (tree_of c.args.tree.now) c.loop-number.acting.items _ _ c.loop-number.counts.items (set c.loop-number.counts.items number c.args.acts.count) number c.loop-number.invariant.acting
          c.in_ok-push.ensures.items c.acting_in.ensures (range_present r old number c.loop-number.counts.items at lt c.requires.some);
    }

pub returns-clause-counts : goal.returns-clause-counts
returns-clause-counts c =
    range_end (range_of c.args.acts) c.args.counts.now.items c.loop-number.number c.loop-number.counts.items c.loop-number.invariant.counts (omega arith) (omega arith) c.requires.behind

pub returns-clause-acting : goal.returns-clause-acting
returns-clause-acting c = c.loop-number.invariant.acting
