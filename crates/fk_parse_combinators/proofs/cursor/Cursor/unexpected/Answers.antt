use Rattle.std.proofs.Common.{arith}
use Rattle.fk_parse_combinators.proofs.Halting.{halts_unexpected}
use Rattle.fk_parse_combinators.proofs.cursor.Cursor.unexpected.Goals as goal

pub returns-in-len1-up-clause-fault : goal.returns-in-len1-up-clause-fault
returns-in-len1-up-clause-fault c = halts_unexpected c.self.inside.at c.self.inside.rest.now _ _ (omega (arith, c.in-len1-up.len_at_least)) c.self.view_is
