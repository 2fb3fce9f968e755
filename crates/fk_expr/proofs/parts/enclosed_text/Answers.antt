-- What is read stands between the parentheses.
use Rattle.std.proofs.Common.{refl}
use Rattle.fk_parse_combinators.specs.Ahead.{seen}
use Rattle.fk_expr.proofs.parts.enclosed_text.Goals as goal

pub returns-clause-read : goal.returns-clause-read
returns-clause-read c = (
  (seen c.in_ok-expect.field-0, (seen c.in_ok-text.text, seen c.in_ok-expect-2.field-0)),
  rw (c.in_ok-open.ensures.read.0, c.in_ok-open.ensures.read.1, c.in_ok-expect.ensures.read, c.in_ok-text.ensures.read, c.in_ok-expect-2.ensures.read) refl,
  refl,
)
