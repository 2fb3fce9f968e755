use Rattle.std.proofs.Common.{sym}
use Rattle.fk_parse_combinators.proofs.Cursors.{length-numbered, triple_short}
use Rattle.fk_parse_combinators.proofs.cursor.Cursor.triple_is.Goals as goal

pub returns-in_default : goal.returns-in_default
returns-in_default c = rw (← c.self.view_is) (sym (triple_short c.args.first c.args.second c.args.third _ (rw length-numbered c.in_default.len_below)))
