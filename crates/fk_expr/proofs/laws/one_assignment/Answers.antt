use Rattle.fk_expr.proofs.Expressions.{faithful_assignment}
use Rattle.fk_parse_combinators.proofs.Determined.{has_one_answer}
use Rattle.fk_expr.proofs.laws.one_assignment.Goals as goal

pub returns : goal.returns
returns c = λ level h. has_one_answer (faithful_assignment level h)
