use Rattle.std.proofs.Common.{◌≡◌, ◌<◌, length, sym, subst, arith}
use Rattle.fk_types_graph.specs.Marks.{Marks, IsSearch}
use Rattle.fk_types_graph.proofs.SearchLemmas.{there, IsSearch-begin, IsSearch-next, IsSearch-step, IsSearch-finds, IsSearch-tells, nothing}
use Rattle.fk_types_graph.proofs.marks.search.Goals as goal

pub loop-next-init : goal.loop-next-init
loop-next-init c =
    let row = there c.args.graph.now c.args.vertex c.requires.inside in
    IsSearch-begin c.args.graph.now c.args.vertex row.0 c.args.marks.now c.mark_next.new.marks c.mark_next.new.waiting.items row.1 c.requires.same_length c.requires.unmarked
    (subst (λ w. Marks row.0.items c.args.marks.now c.mark_next.new.marks w c.mark_next.new.waiting.items) c.new-waiting.ensures.items (c.in_ok-mark_next.ensures.row row.0 row.1))

pub loop-next-preserved : goal.loop-next-preserved
loop-next-preserved c =
    let graph = c.args.graph.now in
    let popped = c.pop.new.self.items in
    let s = subst (IsSearch c.args.graph.now c.args.vertex c.loop-next.marks) c.in-Some.ensures.items c.loop-next.invariant in
    let row = IsSearch-next graph c.args.vertex c.in-Some.next c.loop-next.marks popped s in
    IsSearch-step graph c.args.vertex c.in-Some.next row.0 c.loop-next.marks c.mark_next-in-Some.new.marks popped c.mark_next-in-Some.new.waiting.items row.1 s
    (c.in_ok-mark_next-2.ensures.row row.0 row.1)

pub returns : goal.returns
returns c =
    let empty : length c.loop-next.waiting.items ≡ 0 = omega (arith, c.in_default.ensures.cases) in
    let s = subst (IsSearch c.args.graph.now c.args.vertex c.loop-next.marks) (nothing c.loop-next.waiting.items empty) c.loop-next.invariant in (
      λ k. IsSearch-tells c.args.graph.now c.args.vertex c.loop-next.marks s k,
      λ h. IsSearch-finds c.args.graph.now c.args.vertex c.loop-next.marks s (subst (λ n. c.args.vertex < n) (sym s.same_length) c.requires.inside) h,
    )
