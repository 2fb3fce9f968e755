-- Parts of declarations, as the functions read them.
use Rattle.std.specs.Prelude.{ℕ, List, Option, Bool}
use Rattle.fk_syntax.specs.Tree.{Tree}
use Rattle.fk_parse_combinators.specs.Languages.{Placed}
use Rattle.fk_parse_combinators.specs.Readers.{Reader, giving, ◌and◌, tells, expect, expect_told}
use Rattle.fk_parse_combinators.specs.Readers.{optional, repeated}
use Rattle.fk_expr.specs.Reading.{inner, read_assignment}
use Rattle.fk_parse_declarations.specs.Kinds.{sharing_told}
use Rattle.fk_parse_declarations.specs.Grammar.{Declarator}
use Rattle.fk_parse_declarations.specs.Reading.{read_length, read_variable}
use Rattle.fk_parse_combinators.specs.Kinds.{just}
use Rattle.fk_lex.specs.declared.token.TokenKind.TheVariants as kind

-- [ "sh" | "pr" ]
abbrev pub read_sharing : Reader (Option (Placed × Bool))
read_sharing = optional (tells sharing_told) (expect_told sharing_told)

-- [ "[" Number "]" ]
abbrev pub read_array_length : Reader (Option ℕ)
read_array_length = optional (just kind.OpenBracket) read_length

-- [ "=" assign ]
abbrev pub read_first_value : ℕ → Reader (Option Tree)
read_first_value left = optional (just kind.Assign)
    (giving (λ (equals, value). value) (expect kind.Assign and read_assignment (inner left)))

-- { "," variable }
abbrev pub read_others : ℕ → Reader (List Declarator)
read_others left = repeated (just kind.Comma)
    (giving (λ (comma, next). next) (expect kind.Comma and read_variable (inner left)))
