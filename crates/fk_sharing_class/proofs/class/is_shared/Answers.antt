use Rattle.fk_syntax.specs.View.{tree_of}
use Rattle.fk_sharing_class.proofs.Telling.{shared-in}
use Rattle.fk_sharing_class.proofs.class.is_shared.Goals as goal

pub returns : goal.returns
returns c = λ program are. shared-in program c.args.names.now are (tree_of c.args.expression.now) c.is_expression_shared.result c.is_expression_shared.ensures
