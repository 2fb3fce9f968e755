-- The grammar of items and programs.
use Rattle.std.specs.Prelude.{ℕ, List, ◌∷◌, Option, Some, None, length}
use Rattle.fk_syntax.specs.declared.program.Mode.{Mode}
use Rattle.fk_syntax.specs.declared.program.Mode.TheVariants as mode
use Rattle.fk_syntax.specs.Program.{Statements, ItemTree, StructItem, VariablesItem, FunctionItem}
use Rattle.fk_parse_combinators.specs.Languages.{Placed, Language, token, telling, ◌then◌, ◌or◌}
use Rattle.fk_parse_combinators.specs.Languages.{making, many, maybe, name}
use Rattle.fk_parse_combinators.specs.Reads.{Family}
use Rattle.fk_expr.specs.Grammar.{base}
use Rattle.fk_parse.specs.Kinds.{mode_told}
use Rattle.fk_lex.specs.declared.token.TokenKind.TheVariants as kind
use Rattle.fk_parse_declarations.specs.Grammar.{variables, member, joined_lists, parameters}
use Rattle.fk_parse_statements.specs.Statements.{block, statement_within}

-- ---- items and programs, whose own tokens have no open level. A function's body is level 1

-- "struct" Name "{" member { member } "}" ";"
abbrev pub struct_item : Language ItemTree
struct_item =
    making (λ (word, (called, (opening, (first, (others, (closing, end)))))).
    StructItem (name called) (joined_lists (first ∷ others)))
    (token 0 kind.Struct then token 0 kind.Word then token 0 kind.OpenBrace then member 0
    then many (member 0) then token 0 kind.CloseBrace then token 0 kind.Semicolon)

-- the mode of a function; without a mode word it is `async`
abbrev pub mode_of : Option (Placed × Mode) → Mode
mode_of None = mode.Async
mode_of (Some x) = x.1

-- ";" | block
abbrev pub body : ℕ → Language (Option Statements)
body bound =
    making (λ t. None) (token 0 kind.Semicolon) or making Some (block (statement_within bound) 1)

-- [ "sync" | "async" | "straight" ] type stars Name "(" params ")" ( ";" | block )
abbrev pub function_item : ℕ → Language ItemTree
function_item bound =
    making (λ (mode, (words, (stars, (word, (opening, (list, (closing, inside))))))).
    FunctionItem (record {
      mode = mode_of mode;
      result = record { base = words; stars = length stars };
      name = name word;
      parameters = list;
      body = inside;
    }))
    (maybe (telling 0 mode_told) then base 0 then many (token 0 kind.Star) then token 0 kind.Word
    then token 0 kind.OpenParenthesis then parameters 0 then token 0 kind.CloseParenthesis
    then body bound)

abbrev pub item : ℕ → Language ItemTree
item bound = struct_item or making VariablesItem (variables bound 0) or function_item bound

-- program = { item }
abbrev pub Items : Family (List ItemTree)
Items bound = many (item bound)
