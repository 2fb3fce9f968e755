use Rattle.std.proofs.Common.{◌≡◌, ◌++◌, length, take, drop, get_or, ap, subst, ◌∙◌, arith}
use Rattle.std.proofs.Math.Seq.{take-append_seam}
use Rattle.fk_types_graph.specs.Graph.{IsOnCycle}
use Rattle.fk_types_graph.specs.Marks.{IsMarked}
use Rattle.fk_types_graph.proofs.SearchLemmas.{none_marked, read_mark}
use Rattle.fk_types_graph.proofs.marks.is_on_cycle.Goals as goal

pub search-requires-clause-unmarked : goal.search-requires-clause-unmarked
search-requires-clause-unmarked c =
    let items = c.in_ok-marks.ensures.items_if_clones_equal (λ y e. e) in
    λ v marked. none_marked (length c.args.graph.now) v (subst (λ ms. IsMarked ms v) (c.deref_mut.ensures.value ∙ items) marked)

pub returns : goal.returns
returns c =
    let marks = c.search.new.marks in
    let rest = drop (length c.search.new.marks) c.in_ok-marks.marks.items in
    let same : c.in_ok-marks.marks.len ≡ length c.search.new.marks = omega (arith, c.search.auto.marks, c.deref_mut.ensures.len) in
    let whole : take c.in_ok-marks.marks.len (marks ++ rest) ≡ marks = ap (λ n. take n (c.search.new.marks ++ drop (length c.search.new.marks) c.in_ok-marks.marks.items)) same ∙ take-append_seam marks rest in
    read_mark marks c.args.vertex c.index.result.now (IsOnCycle c.args.graph.now c.args.vertex)
    (omega (arith, c.search.auto.marks, c.deref_mut.ensures.len, c.in_ok-marks.ensures.len))
    (c.index.ensures ∙ ap (λ ms. get_or ms c.args.vertex c.index.result.now) whole) c.in_ok-search.ensures
