-- What is read are the part and the rank, and the parenthesis behind them.
use Rattle.std.proofs.Common.{refl, ap}
use Rattle.fk_syntax.specs.View.{tree_of}
use Rattle.fk_parse_headers.proofs.header.portion.Goals as goal

pub returns-in-Ok-clause-read : goal.returns-in-Ok-clause-read
returns-in-Ok-clause-read c =
    ((tree_of c.in_ok-part.part, c.in-Ok.ensures.read.0), rw (c.in_ok-part.ensures.read, c.in-Ok.ensures.read.1) refl, ap (λ r. (tree_of c.in_ok-part.part, r)) c.in-Ok.ensures.read.2)
