use Rattle.std.proofs.Common.{sym}
use Rattle.fk_parse_combinators.proofs.Cursors.{length-numbered}
use Rattle.fk_parse_combinators.proofs.cursor.Cursor.len.Goals as goal

pub returns : goal.returns
returns c = rw (← c.self.view_is) (sym (length-numbered _ _))
