use Rattle.std.proofs.Common.{◌-◌}
use Rattle.fk_parse_combinators.specs.declared.limits.TheConstants.{LEVELS}
use Rattle.fk_syntax.specs.View.{tree_of}
use Rattle.fk_expr.specs.Grammar.{Comma}
use Rattle.fk_parse_combinators.specs.Reads.{Reads}
use Rattle.fk_expr.proofs.Public.{given, not_given, comma_where}
use Rattle.fk_expr.proofs.at_cursor.comma.Goals as goal

pub returns-clause-grammar : goal.returns-clause-grammar
returns-clause-grammar c = λ levels.
    given tree_of _ _ _ (λ a. Reads (Comma (LEVELS - c.args.left)) c.args.cursor.now a) c.comma.ensures.read (comma_where c.args.left c.args.cursor.now levels)

pub returns-clause-refused : goal.returns-clause-refused
returns-clause-refused c = λ levels.
    not_given tree_of _ _ _ (λ a. Reads (Comma (LEVELS - c.args.left)) c.args.cursor.now a) c.comma.ensures.read (comma_where c.args.left c.args.cursor.now levels)
