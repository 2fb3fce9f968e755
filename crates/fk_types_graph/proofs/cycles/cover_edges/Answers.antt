use Rattle.std.proofs.Common.{length, get_or, refl, subst}
use Rattle.std.proofs.lemmas.Option.{slice_get_read}
use Rattle.fk_types_graph.specs.Ranks.{CoversAll}
use Rattle.fk_types_graph.proofs.RankLemmas.{CoversFirst-more}
use Rattle.fk_types_graph.proofs.cycles.cover_edges.Goals as goal

pub loop-vertex-preserved : goal.loop-vertex-preserved
loop-vertex-preserved c =
    let graph = c.args.graph.now in
    let ranks = c.args.ranks.now in
    let n = c.loop-vertex.vertex in
    CoversFirst-more c.cover_all.new.covered c.loop-vertex.covered ranks graph n c.index-graph-vertex.result
    (slice_get_read graph (length graph) n c.index-graph-vertex.result refl c.loop-vertex-test.true c.index-graph-vertex.is)
    c.cover_all.ensures.kept c.loop-vertex.invariant
    (subst (CoversAll c.cover_all.new.covered c.args.ranks.now (get_or c.args.ranks.now c.loop-vertex.vertex 0)) c.deref.ensures.value c.cover_all.ensures.all)
