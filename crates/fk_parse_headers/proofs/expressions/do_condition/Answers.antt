-- What is read are the word, the condition and the semicolon.
use Rattle.std.proofs.Common.{rules, refl}
use Rattle.fk_syntax.specs.View.{tree_of}
use Rattle.fk_parse_combinators.specs.Ahead.{seen}
use Rattle.fk_parse_headers.proofs.expressions.do_condition.Goals as goal

pub returns-in-Ok-clause-read : goal.returns-in-Ok-clause-read
returns-in-Ok-clause-read c =
    ((seen c.in_ok-expect.field-0, (tree_of c.in_ok-condition.condition, seen c.in-Ok._end)), search rules, refl)
