use Rattle.fk_parse_combinators.proofs.Cursors.{few}
use Rattle.fk_parse_combinators.proofs.cursor.Cursor.peek.Goals as goal

pub returns-in-len1-up-clause-few : goal.returns-in-len1-up-clause-few
returns-in-len1-up-clause-few c = rw (← c.self.view_is) (few _ _ c.self.invariant)
