use Rattle.fk_gen_expr.proofs.Expressions as expressions
use Rattle.fk_gen_expr.proofs.laws.expressions_keep.Goals as goal

pub returns : goal.returns
returns c = expressions.expressions_keep
