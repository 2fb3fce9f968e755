use Rattle.std.proofs.Common.{ap, length, sym, subst, arith}
use Rattle.fk_types_graph.specs.Marks.{IsMarked}
use Rattle.fk_types_graph.specs.Ranks.{Covers, Keeps}
use Rattle.fk_types_graph.proofs.RankLemmas.{CoversAll-more}
use Rattle.fk_types_graph.proofs.cycles.cover_all.Goals.{then-vertex-ranks, else-vertex-ranks}
use Rattle.fk_types_graph.proofs.cycles.cover_all.Goals as goal

pub loop-vertex-preserved : goal.loop-vertex-preserved
loop-vertex-preserved c =
    let more = CoversAll-more c.args.covered.now c.loop-vertex.covered c.if-vertex-ranks.covered c.args.ranks.now c.args.vertices.now c.args.low c.loop-vertex.vertex-index
    c.loop-vertex-test.true c.loop-vertex.invariant.0 c.loop-vertex.invariant.1 in
    elim c.if-vertex-ranks.branch [
      | then-vertex-ranks w ↦ more (subst (λ ms. Keeps c.loop-vertex.covered ms) (sym w.covered-is) w.cover.ensures.kept)
          (λ _. subst (λ ms. Covers ms c.args.low _) (sym w.covered-is) w.cover.ensures.all)
      | else-vertex-ranks w ↦ more (record { same_length = ap length w.covered-is; kept = λ v m. subst (λ ms. IsMarked ms v) (sym w.covered-is) m })
          (λ less. absurd (omega (arith, w.if-vertex-ranks.false, less)))
    ]
