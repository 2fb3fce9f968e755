-- The word is what is read, and its spot is what is made of it.
use Rattle.std.proofs.Common.{rules, sym}
use Rattle.fk_parse_combinators.specs.Ahead.{seen}
use Rattle.fk_parse_headers.proofs.simple.plain.Goals as goal

pub returns-clause-read : goal.returns-clause-read
returns-clause-read c = (seen c.in_ok-word.word, search rules, sym c.spot.ensures)
