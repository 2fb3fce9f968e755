use Rattle.std.proofs.Common.{◌∙◌}
use Rattle.fk_parse_combinators.proofs.SameKind.{just_is}
use Rattle.fk_parse_combinators.proofs.Cursors.{next_by}
use Rattle.fk_parse_combinators.proofs.cursor.Cursor.next_is.Goals as goal

pub returns-in-Some-clause-next : goal.returns-in-Some-clause-next
returns-in-Some-clause-next c = c.eq.ensures ∙ just_is c.args.kind c.in-Some.next ∙ next_by c.args.kind c.in-Some.next c.args.self.now c.in-Some.ensures.kind
