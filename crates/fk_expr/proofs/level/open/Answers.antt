use Rattle.std.proofs.Common.{sym, ◌∙◌}
use Rattle.fk_expr.proofs.Halting.{next_some, opens_next, opens_none}
use Rattle.fk_expr.proofs.level.open.Goals as goal

pub returns-then-not-next_is-clause-read : goal.returns-then-not-next_is-clause-read
returns-then-not-next_is-clause-read c = opens_none _ _ _ _ (sym c.next_is.ensures.next ∙ c.if-not-next_is.true) c.unexpected.ensures.fault

pub inside-requires : goal.inside-requires
inside-requires c = next_some _ _ (sym c.next_is.ensures.next ∙ c.if-not-next_is.false)

pub returns-clause-read : goal.returns-clause-read
returns-clause-read c = opens_next _ _ _ _ (sym c.next_is.ensures.next ∙ c.if-not-next_is.false) c.inside.ensures.read
