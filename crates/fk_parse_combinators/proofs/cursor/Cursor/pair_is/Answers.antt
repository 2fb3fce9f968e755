use Rattle.std.proofs.Common.{sym}
use Rattle.fk_parse_combinators.proofs.Cursors.{length-numbered, pair_short}
use Rattle.fk_parse_combinators.proofs.cursor.Cursor.pair_is.Goals as goal

pub returns-in_default : goal.returns-in_default
returns-in_default c = rw (← c.self.view_is) (sym (pair_short c.args.first c.args.second _ (rw length-numbered c.in_default.len_below)))
