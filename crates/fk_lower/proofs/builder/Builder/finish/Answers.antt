use Rattle.std.proofs.Common.{◌∙◌, sym, arith}
use Rattle.std.proofs.lemmas.Bool.{eqb-false}
use Rattle.fk_lower.proofs.Shown.{left_open}
use Rattle.fk_lower.proofs.builder.Builder.finish.Goals as goal

pub returns-then-not-is_empty-clause-open : goal.returns-then-not-is_empty-clause-open
returns-then-not-is_empty-clause-open c =
    let outer = c.args.self.outer in
    left_open outer.items (λ e. eqb-false outer.len 0 (sym c.is_empty.ensures ∙ c.if-not-is_empty.true) (omega (arith, e, outer.ok.0)))
