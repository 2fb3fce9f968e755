use Rattle.std.proofs.Common.{map, refl}
use Rattle.std.specs.Option.{option_map}
use Rattle.fk_syntax.specs.Program.{statements_of}
use Rattle.fk_syntax.specs.ProgramView.{declared_of, statement_of}
use Rattle.fk_parse.specs.Reading.{read_function_tail}
use Rattle.fk_parse.proofs.item.function.Goals as goal

pub returns-clause-read : goal.returns-clause-read
unfolding read_function_tail
returns-clause-read c = (
  (map declared_of c.in_ok-params.params.items, option_map (λ b. statements_of (map statement_of b.items)) c.in_ok-body.body),
  rw (c.in_ok-expect.ensures.read, c.in_ok-params.ensures.read, c.in_ok-expect-2.ensures.read, c.in_ok-body.ensures.read),
  refl,
)
