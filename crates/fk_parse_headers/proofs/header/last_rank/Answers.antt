-- What is read are the rank and the parenthesis behind it.
use Rattle.std.proofs.Common.{rules, refl}
use Rattle.std.specs.Option.{option_map}
use Rattle.fk_syntax.specs.View.{tree_of}
use Rattle.fk_parse_combinators.specs.Ahead.{seen}
use Rattle.fk_parse_headers.proofs.header.last_rank.Goals as goal

pub returns-in-Ok-clause-read : goal.returns-in-Ok-clause-read
returns-in-Ok-clause-read c = ((option_map tree_of c.in_ok-rank.rank, seen c.in-Ok._end), search rules, refl)
