-- How statements are read by what stands before the last statement in them: what is read so is
-- what Reading says.
use Rattle.fk_parse_declarations.specs.Reading.{begins_parameter, read_variables}
use Rattle.fk_parse_headers.specs.Headers.{headed, begins_header, read_header}
use Rattle.fk_parse_headers.specs.Parts.{read_worded}
use Rattle.fk_expr.specs.Reading.{inner}
use Rattle.fk_lex.specs.declared.token.TokenKind.TheVariants as kind
use Rattle.fk_parse_combinators.specs.Kinds.{just}
use Rattle.fk_parse_combinators.specs.Readers.{Reader, giving, ◌and◌, expect, by_next, optional}
use Rattle.fk_parse_statements.specs.Reading.{nested, statements_with, read_block, read_if, read_do}
use Rattle.fk_syntax.specs.Program.{Statement, Empty, Block, Declare}
use Rattle.std.specs.Prelude.{ℕ, Option}

-- an inner statement, where `left` levels are left
abbrev pub read_nested : ℕ → Reader Statement
read_nested left = nested (statements_with left)

-- [ "else" stmt ]
abbrev pub read_otherwise : ℕ → Reader (Option Statement)
read_otherwise left = optional (just kind.Else)
    (giving (λ (mark, inside). inside) (expect kind.Else and read_nested left))

-- stmt [ "else" stmt ]
abbrev pub read_branches : ℕ → Reader (Statement × Option Statement)
read_branches left = read_nested left and read_otherwise left

-- a header, and the statement after it
abbrev pub read_headed : ℕ → Reader Statement
read_headed left =
    giving (λ (header, body). headed header body) (read_header left and read_nested left)

-- a statement that has no others in it
abbrev pub read_simple : ℕ → Reader Statement
read_simple left =
    by_next (just kind.Semicolon) (giving (λ t. Empty) (expect kind.Semicolon))
    (by_next begins_parameter (giving Declare (read_variables (inner left)))
    (read_worded left))

-- any statement, where so many levels are left in it
abbrev pub read_any : ℕ → Reader Statement
read_any left =
    by_next (just kind.OpenBrace) (giving Block (read_block (statements_with left)))
    (by_next (just kind.If) (read_if (inner left) (statements_with left))
    (by_next (just kind.Do) (read_do (inner left) (statements_with left))
    (by_next begins_header (read_headed left)
    (read_simple left))))
