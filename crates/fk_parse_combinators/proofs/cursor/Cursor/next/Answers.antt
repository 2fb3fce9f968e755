use Rattle.std.proofs.Common.{arith}
use Rattle.std.proofs.lemmas.Grind.{common_steps}
use Rattle.fk_parse_combinators.proofs.Cursors.{few, length-numbered}
use Rattle.fk_parse_combinators.proofs.cursor.Cursor.next.Goals as goal

pub returns-clause-shorter : goal.returns-clause-shorter
returns-clause-shorter c =
    let n = length-numbered c.self.inside.at c.self.inside.rest.now in
    (rw (← c.self.view_is) (grind (arith, length-numbered, common_steps)), rw (← c.self.view_is) (few _ _ c.self.invariant))
