-- Parts of items.
use Rattle.std.specs.Prelude.{ℕ, ◌-◌, List, Option, Some, None, Result}
use Rattle.fk_syntax.specs.declared.program.Mode.{Mode}
use Rattle.fk_syntax.specs.Tree.{Named, BaseType, TypeTree, Tree}
use Rattle.fk_syntax.specs.Program.{DeclaredTree, Statements, ItemTree, FunctionItem}
use Rattle.fk_parse_combinators.specs.Languages.{Placed}
use Rattle.fk_parse_combinators.specs.Reads.{Stop}
use Rattle.fk_parse_combinators.specs.Readers.{Reader, giving, expect, by_next, repeated}
use Rattle.fk_expr.specs.Reading.{inner}
use Rattle.fk_parse_declarations.specs.Grammar.{Declarator}
use Rattle.fk_parse.specs.Reading.{begins_item, OfVariables, made_of, read_item, ended}
use Rattle.fk_parse_statements.specs.Reading.{statements_with, read_block}
use Rattle.fk_parse_combinators.specs.Kinds.{just}
use Rattle.fk_lex.specs.declared.token.TokenKind.TheVariants as kind

-- ---- items, where `left` levels may be open. A function's body opens the first of them

abbrev pub read_body_within : ℕ → Reader Statements
read_body_within left = read_block (statements_with (left - 1))

-- ";" | block
abbrev pub read_optional_body : Reader Statements → Reader (Option Statements)
read_optional_body B =
    by_next (just kind.OpenBrace) (giving Some B) (giving (λ t. None) (expect kind.Semicolon))

abbrev pub read_item_within : ℕ → Reader ItemTree
read_item_within left = read_item (inner left) (read_body_within left)

-- a function, made of its mode, type and name, and of what follows its name
abbrev pub function_made : Mode → TypeTree → Named
    → List DeclaredTree × Option Statements → ItemTree
function_made mode result name (list, inside) = FunctionItem
    (record { mode = mode; result = result; name = name; parameters = list; body = inside })

-- variables, made of the base of their type, the stars and the name of the first one, and of what
-- follows that name
abbrev pub variables_made : BaseType → ℕ → Named
    → (Option ℕ × Option Tree) × List Declarator → ItemTree
variables_made base stars name ((size, first), others) =
    made_of base stars name (OfVariables size first others)

abbrev pub read_text_within : ℕ → List Placed → Result (List ItemTree) Stop
read_text_within left tokens = ended (repeated begins_item (read_item_within left) tokens)
