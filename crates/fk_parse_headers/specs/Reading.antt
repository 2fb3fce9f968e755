-- How parts of statements that have no others in them are read, token by token. What is read so is
-- what the grammar says: that is proved, and the contracts of the functions of the grammar speak of
-- the grammar alone.
use Rattle.std.specs.Prelude.{Option}
use Rattle.fk_syntax.specs.Tree.{Tree}
use Rattle.fk_syntax.specs.Program.{Statement, Expression, Return}
use Rattle.fk_lex.specs.declared.token.TokenKind.{TokenKind}
use Rattle.fk_parse_combinators.specs.Languages.{Placed, spot}
use Rattle.fk_parse_combinators.specs.Readers.{Reader, giving, ◌and◌, expect, optional}
use Rattle.fk_expr.specs.Reading.{begins_expression, Readers, read_comma}
use Rattle.fk_lex.specs.declared.token.TokenKind.TheVariants as kind

-- E reads expressions

unfoldable pub read_condition : Option Readers → Reader Tree
read_condition E = giving (λ (opening, (tree, closing)). tree)
    (expect kind.OpenParenthesis and read_comma E and expect kind.CloseParenthesis)

-- an expression, where one comes next
abbrev pub read_some : Option Readers → Reader (Option Tree)
read_some E = optional begins_expression (read_comma E)

unfoldable pub read_rank : Option Readers → Reader Tree
read_rank E = giving (λ (end, (dollar, (equals, rank))). rank)
    (expect kind.Semicolon and expect kind.Dollar and expect kind.Assign and read_comma E)

abbrev pub read_plain : TokenKind → Reader Placed
read_plain is = giving (λ (word, end). word) (expect is and expect kind.Semicolon)

unfoldable pub read_return : Option Readers → Reader Statement
read_return E = giving (λ (word, (value, end)). Return (spot word) value)
    (expect kind.Return and read_some E and expect kind.Semicolon)

unfoldable pub read_expression : Option Readers → Reader Statement
read_expression E = giving (λ (tree, end). Expression tree) (read_comma E and expect kind.Semicolon)
