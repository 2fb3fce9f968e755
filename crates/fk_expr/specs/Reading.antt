-- How expressions are read, token by token. It is proved that the result is what the grammar says,
-- and the contracts of the public functions refer only to the grammar.
use Rattle.std.specs.Prelude.{ℕ, zero, suc, List, [], ◌∷◌, Option, Some, None, Bool, false, length}
use Rattle.std.specs.Prelude.{◌||◌, ◌&&◌}
use Rattle.fk_syntax.specs.declared.sign.Sign.{Sign}
use Rattle.fk_syntax.specs.Tree.{BaseType, Int, Unsigned, Void, Struct, TypeTree, Tree, Number}
use Rattle.fk_syntax.specs.Tree.{Puts, Sizeof, Variable, GroupNumber, GroupRank, Prefix, Cast}
use Rattle.fk_syntax.specs.Tree.{LinkTree, SuffixTree, Index, Call, Dot, Arrow, Up, Down, trees_of}
use Rattle.fk_lex.specs.declared.token.TokenKind.{TokenKind}
use Rattle.fk_parse_combinators.specs.Languages.{Placed, spot, name}
use Rattle.fk_expr.specs.Kinds.{number_told, prefix_told, assignment_told}
use Rattle.fk_expr.specs.Grammar.{suffixed, operator_at, linked, comma_linked, chained, chosen}
use Rattle.fk_expr.specs.Grammar.{assigned, listed}
use Rattle.fk_parse_combinators.specs.Kinds.{just}
use Rattle.fk_lex.specs.declared.token.TokenKind.TheVariants as kind
use Rattle.fk_parse_combinators.specs.Readers.{Reader, giving, ◌and◌, next_is, tells, expect}
use Rattle.fk_parse_combinators.specs.Readers.{expect_told, either, by_next, optional, repeated}
use Rattle.fk_parse_combinators.specs.Readers.{opened}

-- ---- types

abbrev pub read_base : Reader BaseType
read_base =
    by_next (just kind.Int) (giving (λ t. Int) (expect kind.Int))
    (by_next (just kind.Unsigned) (giving (λ words. Unsigned)
    (expect kind.Unsigned and optional (just kind.Int) (expect kind.Int)))
    (by_next (just kind.Void) (giving (λ t. Void) (expect kind.Void))
    (giving (λ (word, called). Struct (name called)) (expect kind.Struct and expect kind.Word))))

abbrev pub read_type_name : Reader TypeTree
read_type_name = giving (λ (words, stars). record { base = words; stars = length stars })
    (read_base and repeated (just kind.Star) (expect kind.Star))

-- the kinds that begin a type
abbrev pub begins_type : TokenKind → Bool
begins_type k = just kind.Int k || just kind.Unsigned k || just kind.Void k || just kind.Struct k

-- ---- expressions, given the readers of expressions one level deeper, if these may be read

pub record Readers : Type 0 where
  pub comma : Reader Tree
  pub assignment : Reader Tree
  pub choice : Reader Tree
  pub prefix : Reader Tree

abbrev pub read_parenthesized : Option Readers → Reader Tree
read_parenthesized inner =
    opened (just kind.OpenParenthesis) inner (λ R. giving (λ (opening, (tree, closing)). tree)
    (expect kind.OpenParenthesis and R.comma and expect kind.CloseParenthesis))

abbrev pub read_enclosed_text : Option Readers → Reader (Placed × (Placed × Placed))
read_enclosed_text inner =
    opened (just kind.OpenParenthesis) inner
    (λ R. expect kind.OpenParenthesis and expect kind.Text and expect kind.CloseParenthesis)

abbrev pub read_puts : Option Readers → Reader Tree
read_puts inner =
    giving (λ (word, (opening, (text, closing))). Puts (spot word) text.bytes)
    (expect kind.Puts and read_enclosed_text inner)

unfoldable pub read_primary : Option Readers → Reader Tree
read_primary inner =
    by_next (tells number_told)
    (giving (λ (at, (value, unsigned)). Number (spot at) value unsigned) (expect_told number_told))
    (by_next (just kind.Word) (giving (λ t. Variable (name t)) (expect kind.Word))
    (by_next (just kind.At) (giving (λ t. GroupNumber (spot t)) (expect kind.At))
    (by_next (just kind.Dollar) (giving (λ t. GroupRank (spot t)) (expect kind.Dollar))
    (by_next (just kind.OpenParenthesis) (read_parenthesized inner)
    (read_puts inner)))))

-- the kinds that begin a primary expression
abbrev pub begins_primary : TokenKind → Bool
begins_primary k =
    tells number_told k || just kind.Word k || just kind.At k || just kind.Dollar k
    || just kind.OpenParenthesis k || just kind.Puts k

-- the kinds that begin an expression
abbrev pub begins_expression : TokenKind → Bool
begins_expression k = tells prefix_told k || just kind.Sizeof k || begins_primary k

-- a comma, and an argument
abbrev pub read_next_argument : Readers → Reader Tree
read_next_argument R = giving (λ (comma, next). next) (expect kind.Comma and R.assignment)

unfoldable pub read_arguments : Readers → Reader (List Tree)
read_arguments R = giving listed (optional begins_expression
    (R.assignment and repeated (just kind.Comma) (read_next_argument R)))

abbrev pub read_index : Option Readers → Reader SuffixTree
read_index inner =
    opened (just kind.OpenBracket) inner (λ R. giving (λ (opening, (by, closing)).
    Index (spot opening) by) (expect kind.OpenBracket and R.comma and expect kind.CloseBracket))

abbrev pub read_call : Option Readers → Reader SuffixTree
read_call inner =
    opened (just kind.OpenParenthesis) inner
    (λ R. giving (λ (opening, (list, closing)). Call (spot opening) (trees_of list))
    (expect kind.OpenParenthesis and read_arguments R and expect kind.CloseParenthesis))

abbrev pub read_dot : Reader SuffixTree
read_dot =
    giving (λ (mark, member). Dot (spot mark) (name member)) (expect kind.Dot and expect kind.Word)

abbrev pub read_arrow : Reader SuffixTree
read_arrow = giving (λ (mark, member). Arrow (spot mark) (name member))
    (expect kind.Arrow and expect kind.Word)

abbrev pub read_mark : Reader SuffixTree
read_mark =
    by_next (just kind.Dot) read_dot
    (by_next (just kind.Arrow) read_arrow
    (by_next (just kind.Increment) (giving (λ t. Up (spot t)) (expect kind.Increment))
    (giving (λ t. Down (spot t)) (expect kind.Decrement))))

unfoldable pub read_suffix : Option Readers → Reader SuffixTree
read_suffix inner =
    by_next (just kind.OpenBracket) (read_index inner)
    (by_next (just kind.OpenParenthesis) (read_call inner)
    read_mark)

-- the kinds that begin a suffix
abbrev pub begins_suffix : TokenKind → Bool
begins_suffix k =
    just kind.OpenBracket k || just kind.OpenParenthesis k || just kind.Dot k || just kind.Arrow k
    || just kind.Increment k || just kind.Decrement k

abbrev pub read_suffixes : Option Readers → Reader (List SuffixTree)
read_suffixes inner = repeated begins_suffix (read_suffix inner)

unfoldable pub read_postfix : Option Readers → Reader Tree
read_postfix inner =
    giving (λ (whole, suffixes). suffixed whole suffixes)
    (read_primary inner and read_suffixes inner)

unfoldable pub read_cast : Option Readers → Reader Tree
read_cast inner =
    opened (just kind.OpenParenthesis) inner
    (λ R. giving (λ (opening, (type, (closing, operand))). Cast (spot opening) type operand)
    (expect kind.OpenParenthesis and read_type_name and expect kind.CloseParenthesis and R.prefix))

abbrev pub read_enclosed_type : Option Readers → Reader (Placed × (TypeTree × Placed))
read_enclosed_type inner =
    opened (just kind.OpenParenthesis) inner
    (λ R. expect kind.OpenParenthesis and read_type_name and expect kind.CloseParenthesis)

unfoldable pub read_sizeof : Option Readers → Reader Tree
read_sizeof inner =
    giving (λ (word, (opening, (type, closing))). Sizeof (spot word) type)
    (expect kind.Sizeof and read_enclosed_type inner)

-- the next two tokens are a parenthesis and one that begins a type
abbrev pub cast_is_next : List Placed → Bool
cast_is_next [] = false
cast_is_next (t ∷ ts) = just kind.OpenParenthesis t.kind && next_is begins_type ts

unfoldable pub read_signed : Option Readers → Reader Tree
read_signed inner =
    opened (tells prefix_told) inner (λ R. giving (λ ((at, operator), operand).
    Prefix (spot at) operator operand) (expect_told prefix_told and R.prefix))

unfoldable pub read_prefix : Option Readers → Reader Tree
read_prefix inner =
    by_next (tells prefix_told) (read_signed inner)
    (λ ts. either (cast_is_next ts) (read_cast inner)
    (by_next (just kind.Sizeof) (read_sizeof inner) (read_postfix inner)) ts)

unfoldable pub read_joined : Option Readers → ℕ → Reader Tree
read_joined inner zero = read_prefix inner
read_joined inner (suc looseness) =
    giving (λ (first, links). chained first links)
    (read_joined inner looseness
    and repeated (tells (operator_at (suc looseness)))
    (giving linked (expect_told (operator_at (suc looseness)) and read_joined inner looseness)))

abbrev pub read_otherwise : Readers → Reader (Placed × Tree)
read_otherwise R = expect kind.Colon and R.choice

abbrev pub read_branches : Option Readers → Reader (Placed × (Tree × (Placed × Tree)))
read_branches inner =
    opened (just kind.Question) inner (λ R. expect kind.Question and R.comma and read_otherwise R)

unfoldable pub read_choice : Option Readers → Reader Tree
read_choice inner =
    giving (λ (condition, branches). chosen condition branches)
    (read_joined inner 10 and optional (just kind.Question) (read_branches inner))

-- the right side of an assignment opens a level at its first token
abbrev pub read_assigned : Option Readers → Reader ((Placed × Sign) × Tree)
read_assigned inner =
    expect_told assignment_told and opened begins_expression inner (λ R. R.assignment)

unfoldable pub read_assignment : Option Readers → Reader Tree
read_assignment inner =
    giving (λ (target, value). assigned target value)
    (read_choice inner and optional (tells assignment_told) (read_assigned inner))

-- a comma, and its right operand
abbrev pub read_comma_link : Option Readers → Reader LinkTree
read_comma_link inner = giving comma_linked (expect kind.Comma and read_assignment inner)

abbrev pub read_comma_links : Option Readers → Reader (List LinkTree)
read_comma_links inner = repeated (just kind.Comma) (read_comma_link inner)

unfoldable pub read_comma : Option Readers → Reader Tree
read_comma inner =
    giving (λ (first, links). chained first links)
    (read_assignment inner and read_comma_links inner)

-- ---- the readers for a number of levels left

abbrev pub inner : ℕ → Option Readers
inner zero = None
inner (suc left) =
    let deeper = inner left in
    Some (record {
      comma = read_comma deeper;
      assignment = read_assignment deeper;
      choice = read_choice deeper;
      prefix = read_prefix deeper;
    })
