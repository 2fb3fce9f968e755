-- How declarations are read, token by token. What is read so is what the grammar says: that is
-- proved, and the contracts of the functions of the grammar speak of the grammar alone.
use Rattle.std.specs.Prelude.{ℕ, List, [], ◌∷◌, map, Option, None, Bool, false, Ok, length, ◌||◌}
use Rattle.std.specs.Prelude.{◌&&◌}
use Rattle.fk_syntax.specs.Tree.{Tree}
use Rattle.fk_syntax.specs.Program.{DeclaredTree}
use Rattle.fk_lex.specs.declared.token.TokenKind.{TokenKind}
use Rattle.fk_parse_combinators.specs.Languages.{Placed, name}
use Rattle.fk_expr.specs.Kinds.{number_told}
use Rattle.fk_parse_combinators.specs.Readers.{Reader, giving, ◌and◌, next_is, tells, expect}
use Rattle.fk_parse_combinators.specs.Readers.{expect_told, either, by_next, optional, repeated}
use Rattle.fk_expr.specs.Reading.{read_base, begins_type, Readers, read_assignment}
use Rattle.fk_parse_declarations.specs.Kinds.{sharing_told}
use Rattle.fk_parse_declarations.specs.Grammar.{Declarator, declared, is_shared}
use Rattle.fk_parse_combinators.specs.Kinds.{just}
use Rattle.fk_lex.specs.declared.token.TokenKind.TheVariants as kind

unfoldable pub read_separated : {A : Type 0} → Reader A → Reader (List A)
read_separated P = giving (λ (first, others). first ∷ others)
    (P and repeated (just kind.Comma) (giving (λ (comma, next). next) (expect kind.Comma and P)))

unfoldable pub read_length : Reader ℕ
read_length = giving (λ (opening, ((at, (value, unsigned)), closing)). value)
    (expect kind.OpenBracket and expect_told number_told and expect kind.CloseBracket)

-- [ length ] [ "=" assign ], after the stars and the name
unfoldable pub read_rest : Option Readers → Reader (Option ℕ × Option Tree)
read_rest E =
    optional (just kind.OpenBracket) read_length and optional (just kind.Assign)
    (giving (λ (equals, value). value) (expect kind.Assign and read_assignment E))

unfoldable pub read_variable : Option Readers → Reader Declarator
read_variable E =
    giving (λ (stars, (word, (size, first))).
    record { stars = length stars; name = name word; length = size; first = first })
    (repeated (just kind.Star) (expect kind.Star) and expect kind.Word and read_rest E)

unfoldable pub read_member_name : Reader Declarator
read_member_name =
    giving (λ (stars, (word, size)).
    record { stars = length stars; name = name word; length = size; first = None })
    (repeated (just kind.Star) (expect kind.Star) and expect kind.Word
    and optional (just kind.OpenBracket) read_length)

unfoldable pub read_variables : Option Readers → Reader (List DeclaredTree)
read_variables E =
    giving (λ (sharing, (words, (list, end))). map (declared (is_shared sharing) words) list)
    (optional (tells sharing_told) (expect_told sharing_told) and read_base
    and read_separated (read_variable E) and expect kind.Semicolon)

unfoldable pub read_member : Reader (List DeclaredTree)
read_member =
    giving (λ (words, (list, end)). map (declared false words) list)
    (read_base and read_separated read_member_name and expect kind.Semicolon)

unfoldable pub read_parameter : Reader DeclaredTree
read_parameter =
    giving (λ (sharing, (words, (stars, word))). record {
      shared = is_shared sharing;
      kind = record { base = words; stars = length stars };
      name = name word;
      length = None;
      first = None;
    })
    (optional (tells sharing_told) (expect_told sharing_told) and read_base
    and repeated (just kind.Star) (expect kind.Star) and expect kind.Word)

-- the next tokens are "void" and a closing parenthesis
abbrev pub void_is_next : List Placed → Bool
void_is_next [] = false
void_is_next (t ∷ ts) = just kind.Void t.kind && next_is (just kind.CloseParenthesis) ts

-- the kinds that begin a parameter
abbrev pub begins_parameter : TokenKind → Bool
begins_parameter k = tells sharing_told k || begins_type k

unfoldable pub read_parameters : Reader (List DeclaredTree)
read_parameters ts =
    either (void_is_next ts) (giving (λ t. []) (expect kind.Void))
    (by_next begins_parameter (read_separated read_parameter) (λ rest. Ok ([], rest))) ts
