use Rattle.fk_expr.proofs.Expressions.{faithful_comma}
use Rattle.fk_parse_combinators.proofs.Determined.{has_one_answer}
use Rattle.fk_expr.proofs.laws.one_expression.Goals as goal

pub returns : goal.returns
returns c = λ level h. has_one_answer (faithful_comma level h)
