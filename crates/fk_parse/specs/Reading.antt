-- How items and programs are read, token by token. It is proved that the result is what the grammar
-- says, and the contracts of the public functions refer only to the grammar.
use Rattle.fk_parse_combinators.specs.declared.limits.TheConstants.{LEVELS}
use Rattle.std.specs.Prelude.{◌-◌, ℕ, List, [], ◌∷◌, map, Option, Some, None, Bool, false, Result}
use Rattle.std.specs.Prelude.{Ok, Err, length, ◌||◌, ◌&&◌}
use Rattle.fk_syntax.specs.Tree.{Named, BaseType, Tree}
use Rattle.fk_syntax.specs.Program.{DeclaredTree, Statements, ItemTree, StructItem, VariablesItem}
use Rattle.fk_syntax.specs.Program.{FunctionItem}
use Rattle.fk_lex.specs.declared.token.TokenKind.{TokenKind}
use Rattle.fk_parse_combinators.specs.Languages.{Placed, name}
use Rattle.fk_parse_combinators.specs.Reads.{Stop, Unexpected, Answer}
use Rattle.fk_parse_combinators.specs.Readers.{Reader, giving, ◌and◌, tells, expect, expect_told}
use Rattle.fk_parse_combinators.specs.Readers.{either, by_next, repeated}
use Rattle.fk_expr.specs.Reading.{read_base, begins_type, Readers, inner}
use Rattle.fk_parse_declarations.specs.Kinds.{sharing_told}
use Rattle.fk_parse.specs.Kinds.{mode_told}
use Rattle.fk_parse_declarations.specs.Grammar.{Declarator, declared, joined_lists}
use Rattle.fk_parse.specs.Items.{mode_of}
use Rattle.fk_parse_combinators.specs.Kinds.{just}
use Rattle.fk_lex.specs.declared.token.TokenKind.TheVariants as kind
use Rattle.fk_parse_declarations.specs.Reading.{read_rest, read_variable, read_variables}
use Rattle.fk_parse_declarations.specs.Reading.{read_member, begins_parameter, read_parameters}
use Rattle.fk_parse_statements.specs.Reading.{read_block, statements_with}

-- ---- items: E reads expressions with all levels left, and B reads a function's body

-- the next tokens are "struct", a name and an opening brace
abbrev pub struct_is_next : List Placed → Bool
struct_is_next (s ∷ n ∷ t ∷ ts) =
    just kind.Struct s.kind && just kind.Word n.kind && just kind.OpenBrace t.kind
struct_is_next ts = false

unfoldable pub read_struct : Reader ItemTree
read_struct =
    giving (λ (word, (called, (opening, (first, (others, (closing, end)))))).
    StructItem (name called) (joined_lists (first ∷ others)))
    (expect kind.Struct and expect kind.Word and expect kind.OpenBrace and read_member
    and repeated begins_type read_member
    and expect kind.CloseBrace and expect kind.Semicolon)

-- the rest of a function after its name
unfoldable pub read_function_tail : Reader Statements
    → Reader (List DeclaredTree × Option Statements)
read_function_tail B =
    giving (λ (opening, (list, (closing, inside))). (list, inside))
    (expect kind.OpenParenthesis and read_parameters and expect kind.CloseParenthesis
    and by_next (just kind.OpenBrace) (giving Some B) (giving (λ t. None) (expect kind.Semicolon)))

-- the rest of a declaration after the name of the first variable: its own part, and the other
-- variables
unfoldable pub read_variables_tail : Option Readers
    → Reader ((Option ℕ × Option Tree) × List Declarator)
read_variables_tail E =
    giving (λ (rest, (others, end)). (rest, others))
    (read_rest E and repeated (just kind.Comma) (giving (λ (comma, next). next)
    (expect kind.Comma and read_variable E)) and expect kind.Semicolon)

-- what follows the first name of an item: the rest of a function, or that of variables
pub data Tail : Type 0 where
  OfFunction : (parameters : List DeclaredTree) (body : Option Statements) → Tail
  OfVariables : (length : Option ℕ) (first : Option Tree) (others : List Declarator) → Tail

-- an item that begins with a type, made of the base of the type, its stars, its name, and what
-- follows the name
abbrev pub made_of : BaseType → ℕ → Named → Tail → ItemTree
made_of base stars name (OfFunction parameters body) =
    FunctionItem (record {
      mode = mode_of None;
      result = record { base = base; stars = stars };
      name = name;
      parameters = parameters;
      body = body;
    })
made_of base stars name (OfVariables length first others) =
    VariablesItem (map (declared false base)
    (record { stars = stars; name = name; length = length; first = first } ∷ others))

-- an item is a function if a parenthesis follows its name
unfoldable pub read_tail : Option Readers → Reader Statements → Reader Tail
read_tail E B =
    by_next (just kind.OpenParenthesis)
    (giving (λ (list, inside). OfFunction list inside) (read_function_tail B))
    (giving (λ ((size, first), others). OfVariables size first others) (read_variables_tail E))

unfoldable pub read_bare : Option Readers → Reader Statements → Reader ItemTree
read_bare E B =
    giving (λ (words, (stars, (word, tail))). made_of words (length stars) (name word) tail)
    (read_base and repeated (just kind.Star) (expect kind.Star) and expect kind.Word
    and read_tail E B)

unfoldable pub read_moded : Reader Statements → Reader ItemTree
read_moded B =
    giving (λ ((at, mode), (words, (stars, (word, (list, inside))))). FunctionItem (record {
      mode = mode;
      result = record { base = words; stars = length stars };
      name = name word;
      parameters = list;
      body = inside;
    }))
    (expect_told mode_told and read_base and repeated (just kind.Star) (expect kind.Star)
    and expect kind.Word and read_function_tail B)

unfoldable pub read_item : Option Readers → Reader Statements → Reader ItemTree
read_item E B ts =
    either (struct_is_next ts) read_struct
    (by_next (tells sharing_told) (giving VariablesItem (read_variables E))
    (by_next (tells mode_told) (read_moded B)
    (read_bare E B))) ts

-- the kinds that begin an item
abbrev pub begins_item : TokenKind → Bool
begins_item k = begins_parameter k || tells mode_told k

-- a body is level 1, and a statement in it opens level 2
abbrev pub read_body : Reader Statements
read_body = read_block (statements_with (LEVELS - 1))

unfoldable pub read_items : Reader (List ItemTree)
read_items = repeated begins_item (read_item (inner LEVELS) read_body)

-- the items of a text, if they use all its tokens
abbrev pub whole : List ItemTree → List Placed → Result (List ItemTree) Stop
whole items [] = Ok items
whole items (t ∷ rest) = Err (Unexpected (t ∷ rest))

abbrev pub ended : Answer (List ItemTree) → Result (List ItemTree) Stop
ended (Ok x) = whole x.0 x.1
ended (Err e) = Err e

abbrev pub read_text : List Placed → Result (List ItemTree) Stop
read_text tokens = ended (read_items tokens)
