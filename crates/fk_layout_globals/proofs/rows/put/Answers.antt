use Rattle.std.proofs.Common.{◌≡◌, ◌∙◌, ℕ, suc, ◌+◌, ◌-◌, List, [], ◌∷◌, ◌++◌, ap, sym, arith}
use Rattle.std.proofs.lemmas.List.{append_assoc}
use Rattle.fk_layout_globals.specs.Rows.{begun}
use Rattle.fk_layout_globals.proofs.rows.put.Goals as goal

pub loop-preserved : goal.loop-preserved
loop-preserved c =
    let left : ℕ = c.args.count - (c.loop.counter + 1) in
    let one_less : c.args.count - c.loop.counter ≡ suc left = omega arith in
    ap (λ (xs : List ℕ). xs ++ begun left 0) c.in_ok-push.ensures.items
    ∙ append_assoc c.loop.words.items (c.loop.next ∷ []) (begun left 0)
    ∙ ap (λ (n : ℕ). c.loop.words.items ++ begun n c.loop.next) (sym one_less)
    ∙ c.loop.invariant
