use Rattle.std.proofs.Common.{get_or, refl}
use Rattle.fk_types_graph.proofs.SearchLemmas.{Marks-more}
use Rattle.fk_types_graph.proofs.marks.mark_all.Goals as goal

pub loop-vertex-preserved : goal.loop-vertex-preserved
loop-vertex-preserved c =
    let i = c.loop-vertex.vertex-index in
    Marks-more c.args.vertices.now i (get_or c.args.vertices.now i 0) c.args.marks.now c.loop-vertex.marks c.mark.new.marks
    c.args.waiting.now.items c.loop-vertex.waiting.items c.mark.new.waiting.items c.loop-vertex-test.true refl c.loop-vertex.invariant c.in_ok-mark.ensures
