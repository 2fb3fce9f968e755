use Rattle.fk_compile.proofs.Evaluating.{asked_evaluates}
use Rattle.fk_compile.proofs.laws.asked_expressions_evaluate.Goals as goal

pub returns : goal.returns
returns c = asked_evaluates
