use Rattle.std.proofs.Common.{◌≡◌, length, ℕ, true, unwrap_or, slice_get, map, subst, ap, ◌∙◌}
use Rattle.std.proofs.lemmas.Result.{IfOk-weaker}
use Rattle.fk_types_graph.specs.Graph.{IsOnCycle}
use Rattle.fk_types_graph.specs.Marks.{IsMarked}
use Rattle.fk_types_graph.specs.Ranks.{CoversFirst}
use Rattle.fk_types_graph.proofs.RankLemmas.{IsOnCycle-told}
use Rattle.fk_types_graph.proofs.cycles.suspects.Goals as goal

pub returns-clause-marked : goal.returns-clause-marked
returns-clause-marked c =
    let graph = c.args.graph.now in
    let ranks = c.in_ok-ranks.ranks.items in
    let covered = c.in_ok-covered.covered.items in
    let covers = subst (λ rs. CoversFirst c.in_ok-covered.covered.items rs c.args.graph.now (length c.args.graph.now)) c.deref.ensures.value c.in_ok-covered.ensures in
    IfOk-weaker c.told.result (λ suspects. suspects.items ≡ map (λ rank. unwrap_or (slice_get c.deref-2.result.now rank) true) c.deref-3.result.now)
    (λ suspects. (v : ℕ) → IsOnCycle c.args.graph.now v → IsMarked suspects.items v)
    (λ suspects is. IsOnCycle-told graph ranks covered c.in_ok-ranks.ensures covers suspects.items
    (is ∙ ap (λ xs. map (λ rank. unwrap_or (slice_get xs rank) true) c.deref-3.result.now) c.deref-2.ensures.value ∙ ap (map (λ rank. unwrap_or (slice_get covered rank) true)) c.deref-3.ensures.value))
    c.told.ensures
