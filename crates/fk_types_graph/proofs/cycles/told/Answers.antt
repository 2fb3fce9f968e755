use Rattle.std.proofs.Common.{true, unwrap_or, slice_get}
use Rattle.fk_types_graph.proofs.RankLemmas.{told-more}
use Rattle.fk_types_graph.proofs.cycles.told.Goals as goal

pub loop-rank-preserved : goal.loop-rank-preserved
loop-rank-preserved c = told-more (λ rank. unwrap_or (slice_get c.args.covered.now rank) true) c.args.ranks.now c.loop-rank.rank-index c.loop-rank.suspects.items c.push.new.self.items c.is_covered.result
    c.loop-rank-test.true c.loop-rank.invariant c.in_ok-push.ensures.items c.is_covered.ensures
