use Rattle.std.proofs.Common.{◌-◌, sym, ap, subst, ◌∙◌, length, List, arith, Ok, Err}
use Rattle.fk_parse_combinators.specs.declared.limits.TheConstants.{LEVELS}
use Rattle.fk_syntax.specs.View.{tree_of}
use Rattle.fk_parse_combinators.specs.Languages.{Placed}
use Rattle.fk_expr.specs.Grammar.{Comma}
use Rattle.fk_parse_combinators.specs.Reads.{Reads}
use Rattle.fk_expr.specs.Reading.{inner, read_comma}
use Rattle.fk_parse_combinators.specs.Gives.{Halts}
use Rattle.fk_parse_combinators.specs.Faults.{tokens_from}
use Rattle.fk_expr.proofs.Public.{read_to, refuses, tells_fault, short_from}
use Rattle.fk_expr.proofs.Expressions.{reads_comma}
use Rattle.fk_expr.proofs.entry.expression.Goals as goal

pub returns-in_err-value-clause-refused : goal.returns-in_err-value-clause-refused
returns-in_err-value-clause-refused c =
    tells_fault (λ stop. Reads (Comma c.args.level) (tokens_from c.args.at c.args.tokens.now) (Err stop)) _ _ c.from_residual.ensures.1
    (refuses (Comma c.args.level) _ _ _ c.comma.new.cursor (reads_comma c.args.level (tokens_from c.args.at c.args.tokens.now) c.requires.levels)
    (subst (λ ts. Halts (read_comma (inner (LEVELS - c.args.level)) ts) c.in_err-value.field-0.0 c.comma.new.cursor) c.new-cursor.ensures c.in_err-value.ensures.read))

pub overflow_sub-result : goal.overflow_sub-result
overflow_sub-result c =
    omega (arith, c.len.ensures, c.in_ok-value.ensures.shorter, ap (λ (ts : List Placed). length ts) c.new-cursor.ensures, short_from c.args.at c.args.tokens.now)

pub returns-clause-read : goal.returns-clause-read
returns-clause-read c =
    subst (λ n. Reads (Comma c.args.level) (tokens_from c.args.at c.args.tokens.now) (Ok (tree_of c.in_ok-value.value, tokens_from (length c.args.tokens.now - n) c.args.tokens.now))) (sym c.len.ensures)
    (read_to (Comma c.args.level) c.args.at c.args.tokens.now _ _ _ c.requires.begins (reads_comma c.args.level (tokens_from c.args.at c.args.tokens.now) c.requires.levels)
    (ap (λ ts. read_comma (inner (LEVELS - c.args.level)) ts) (sym c.new-cursor.ensures) ∙ c.in_ok-value.ensures.read))
