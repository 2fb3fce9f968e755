use Rattle.fk_syntax.specs.View.{base_of}
use Rattle.fk_expr.specs.Grammar.{base}
use Rattle.fk_parse_combinators.specs.Reads.{Reads}
use Rattle.fk_expr.proofs.Public.{given, not_given, base_where}
use Rattle.fk_expr.proofs.at_cursor.base.Goals as goal

pub returns-clause-grammar : goal.returns-clause-grammar
returns-clause-grammar c =
    given base_of _ _ _ (λ a. Reads (λ bound. base 0) c.args.cursor.now a) c.base.ensures.read (base_where c.args.cursor.now)

pub returns-clause-refused : goal.returns-clause-refused
returns-clause-refused c =
    not_given base_of _ _ _ (λ a. Reads (λ bound. base 0) c.args.cursor.now a) c.base.ensures.read (base_where c.args.cursor.now)
