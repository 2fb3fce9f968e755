-- How statements are read, token by token. It is proved that the result is what the grammar says,
-- and the contracts of the public functions refer only to the grammar.
use Rattle.std.specs.Prelude.{ℕ, zero, suc, Option, Some, None, Bool, ◌||◌}
use Rattle.fk_syntax.specs.Program.{Statement, Empty, Block, Declare, DoWhile, While, For, Start}
use Rattle.fk_syntax.specs.Program.{Farm, Seq, Fork, Barrier, Break, Continue, Statements}
use Rattle.fk_syntax.specs.Program.{statements_of, branch}
use Rattle.fk_lex.specs.declared.token.TokenKind.{TokenKind}
use Rattle.fk_parse_combinators.specs.Languages.{spot}
use Rattle.fk_parse_combinators.specs.Readers.{Reader, giving, ◌and◌, expect, by_next, optional}
use Rattle.fk_parse_combinators.specs.Readers.{repeated, opened}
use Rattle.fk_expr.specs.Reading.{begins_expression, Readers, inner, read_comma}
use Rattle.fk_parse_combinators.specs.Kinds.{just}
use Rattle.fk_lex.specs.declared.token.TokenKind.TheVariants as kind
use Rattle.fk_parse_declarations.specs.Reading.{begins_parameter, read_variables}
use Rattle.fk_parse_headers.specs.Reading.{read_condition, read_some, read_rank, read_plain}
use Rattle.fk_parse_headers.specs.Reading.{read_return, read_expression}

-- E reads expressions, and S reads statements one level deeper, if these may be read

-- the keywords that begin a statement
abbrev pub begins_word : TokenKind → Bool
begins_word k =
    just kind.If k || just kind.While k || just kind.Do k || just kind.For k || just kind.Start k
    || just kind.Farm k || just kind.Seq k || just kind.Fork k
    || just kind.Barrier k || just kind.Break k || just kind.Continue k || just kind.Return k

-- the kinds that begin a block or an empty statement
abbrev pub begins_bare : TokenKind → Bool
begins_bare k = just kind.OpenBrace k || just kind.Semicolon k

-- the kinds that begin a statement
abbrev pub begins_statement : TokenKind → Bool
begins_statement k = begins_bare k || begins_parameter k || begins_word k || begins_expression k

-- an inner statement opens a level at its first token
abbrev pub nested : Option (Reader Statement) → Reader Statement
nested S = opened begins_statement S (λ P. P)

unfoldable pub read_block : Option (Reader Statement) → Reader Statements
read_block S =
    giving (λ (opening, (list, closing)). statements_of list)
    (expect kind.OpenBrace and repeated begins_statement (nested S) and expect kind.CloseBrace)

unfoldable pub read_if : Option Readers → Option (Reader Statement) → Reader Statement
read_if E S =
    giving (λ (word, (test, (inside, otherwise))). branch (spot word) test inside otherwise)
    (expect kind.If and read_condition E and nested S and optional (just kind.Else)
    (giving (λ (mark, inside). inside) (expect kind.Else and nested S)))

unfoldable pub read_while : Option Readers → Option (Reader Statement) → Reader Statement
read_while E S = giving (λ (word, (test, inside)). While (spot word) test inside)
    (expect kind.While and read_condition E and nested S)

unfoldable pub read_do : Option Readers → Option (Reader Statement) → Reader Statement
read_do E S =
    giving (λ (word, (inside, (mark, (test, end)))). DoWhile (spot word) inside test)
    (expect kind.Do and nested S and expect kind.While and read_condition E
    and expect kind.Semicolon)

unfoldable pub read_for : Option Readers → Option (Reader Statement) → Reader Statement
read_for E S =
    giving (λ (word, (opening, (before, (first, (test, (second, (after, (closing, inside)))))))).
    For (spot word) before test after inside)
    (expect kind.For and expect kind.OpenParenthesis and read_some E and expect kind.Semicolon
    and read_some E and expect kind.Semicolon and read_some E
    and expect kind.CloseParenthesis and nested S)

unfoldable pub read_start : Option Readers → Option (Reader Statement) → Reader Statement
read_start E S =
    giving (λ (word, (count, inside)). Start (spot word) count inside)
    (expect kind.Start and optional (just kind.OpenParenthesis) (read_condition E) and nested S)

unfoldable pub read_fork : Option Readers → Option (Reader Statement) → Reader Statement
read_fork E S =
    giving (λ (word, (opening, (parts, (end, (at, (equals, (part, (rank, (closing, inside))))))))).
    Fork (spot word) parts part rank inside)
    (expect kind.Fork and expect kind.OpenParenthesis and read_comma E and expect kind.Semicolon
    and expect kind.At and expect kind.Assign
    and read_comma E and optional (just kind.Semicolon) (read_rank E)
    and expect kind.CloseParenthesis and nested S)

unfoldable pub read_statement : Option Readers → Option (Reader Statement) → Reader Statement
read_statement E S =
    by_next (just kind.OpenBrace) (giving Block (read_block S))
    (by_next (just kind.Semicolon) (giving (λ t. Empty) (expect kind.Semicolon))
    (by_next begins_parameter (giving Declare (read_variables E))
    (by_next (just kind.If) (read_if E S)
    (by_next (just kind.While) (read_while E S)
    (by_next (just kind.Do) (read_do E S)
    (by_next (just kind.For) (read_for E S)
    (by_next (just kind.Start) (read_start E S)
    (by_next (just kind.Farm)
    (giving (λ (word, inside). Farm (spot word) inside) (expect kind.Farm and nested S))
    (by_next (just kind.Seq)
    (giving (λ (word, inside). Seq (spot word) inside) (expect kind.Seq and nested S))
    (by_next (just kind.Fork) (read_fork E S)
    (by_next (just kind.Barrier) (giving (λ t. Barrier (spot t)) (read_plain kind.Barrier))
    (by_next (just kind.Break) (giving (λ t. Break (spot t)) (read_plain kind.Break))
    (by_next (just kind.Continue) (giving (λ t. Continue (spot t)) (read_plain kind.Continue))
    (by_next (just kind.Return) (read_return E)
    (read_expression E)))))))))))))))

-- the reader of statements, with `left` levels left below them
abbrev pub statements_with : ℕ → Option (Reader Statement)
statements_with zero = None
statements_with (suc left) = Some (read_statement (inner left) (statements_with left))
