use Rattle.std.proofs.Common.{true, [], ◌∷◌, set, sym, subst}
use Rattle.fk_types_graph.specs.Marks.{Marks}
use Rattle.fk_types_graph.proofs.SearchLemmas.{Marks-new}
use Rattle.fk_types_graph.proofs.marks.mark.Goals as goal

pub returns-in_ok-push : goal.returns-in_ok-push
returns-in_ok-push c =
    let marks = c.args.marks.now in
    let waiting = c.args.waiting.now.items in
    subst (λ w. Marks (c.args.vertex ∷ []) c.args.marks.now (set c.args.marks.now c.args.vertex true) c.args.waiting.now.items w)
    (sym c.in_ok-push.ensures.items) (Marks-new marks waiting c.args.vertex c.if-is_unmarked.ensures.yes)
