use Rattle.std.proofs.Common.{sym, ◌∙◌}
use Rattle.fk_expr.proofs.Halting.{next_some, opens_next, opens_none}
use Rattle.fk_expr.proofs.level.open_prefix.Goals as goal

pub returns-then-not-prefix_is_next-clause-read : goal.returns-then-not-prefix_is_next-clause-read
returns-then-not-prefix_is_next-clause-read c = opens_none _ _ _ _ (sym c.prefix_is_next.ensures ∙ c.if-not-prefix_is_next.true) c.unexpected.ensures.fault

pub inside-requires : goal.inside-requires
inside-requires c = next_some _ _ (sym c.prefix_is_next.ensures ∙ c.if-not-prefix_is_next.false)

pub returns-clause-read : goal.returns-clause-read
returns-clause-read c = opens_next _ _ _ _ (sym c.prefix_is_next.ensures ∙ c.if-not-prefix_is_next.false) c.inside.ensures.read
