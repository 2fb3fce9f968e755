use Rattle.std.proofs.Common.{◌+◌}
use Rattle.fk_layout_lookup.proofs.Found.{one_more}
use Rattle.fk_layout_lookup.proofs.lookup.reach.Goals as goal

pub loop-fill-preserved : goal.loop-fill-preserved
loop-fill-preserved g c =
    let n = c.loop-fill.invariant.0 in
    (n + 1, one_more c.args.list.now.items c.loop-fill.list.items c.push.new.self.items n c.args.fill c.loop-fill.invariant.1 c.in_ok-push.ensures.items)
