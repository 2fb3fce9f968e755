use Rattle.fk_compile.proofs.Evaluating.{typed_evaluates}
use Rattle.fk_compile.proofs.laws.typed_expressions_evaluate.Goals as goal

pub returns : goal.returns
returns c = typed_evaluates
