-- The grammar of expressions. Each token of a stretch has the number of levels that are open at it.
use Rattle.std.specs.Prelude.{ℕ, zero, suc, ◌+◌, ◌==◌, if◌then◌else◌, List, [], ◌∷◌, Option, Some}
use Rattle.std.specs.Prelude.{None, length}
use Rattle.fk_syntax.specs.declared.sign.Sign.{Sign}
use Rattle.fk_syntax.specs.declared.sign.Sign.TheVariants as sign
use Rattle.fk_syntax.specs.Tree.{BaseType, Int, Unsigned, Void, Struct, TypeTree, Tree, Number}
use Rattle.fk_syntax.specs.Tree.{Puts, Sizeof, Variable, GroupNumber, GroupRank, Prefix, Cast}
use Rattle.fk_syntax.specs.Tree.{Chain, Postfix, Assign, Choose, LinkTree, SuffixTree, Index, Call}
use Rattle.fk_syntax.specs.Tree.{Dot, Arrow, Up, Down, links_of, trees_of, suffixes_of}
use Rattle.fk_lex.specs.declared.token.TokenKind.{TokenKind}
use Rattle.fk_parse_combinators.specs.Languages.{Placed, Language, nothing, token, telling, ◌then◌}
use Rattle.fk_parse_combinators.specs.Languages.{◌or◌, making, many, maybe, spot, name}
use Rattle.fk_expr.specs.Kinds.{number_told, prefix_told, assignment_told, operator_told}
use Rattle.fk_parse_combinators.specs.Reads.{Family}
use Rattle.fk_lex.specs.declared.token.TokenKind.TheVariants as kind

-- ---- types

-- type = "int" | "unsigned" [ "int" ] | "void" | "struct" Name
abbrev pub base : ℕ → Language BaseType
base l =
    making (λ t. Int) (token l kind.Int)
    or making (λ words. Unsigned) (token l kind.Unsigned then maybe (token l kind.Int))
    or making (λ t. Void) (token l kind.Void)
    or making (λ (word, called). Struct (name called)) (token l kind.Struct then token l kind.Word)

-- a type and its stars
abbrev pub type_name : ℕ → Language TypeTree
type_name l = making (λ (words, stars). record { base = words; stars = length stars })
    (base l then many (token l kind.Star))

-- ---- expressions, given the languages of expressions one level deeper

-- the languages of expressions one level deeper, by that level
pub record Deeper : Type 1 where
  pub comma : ℕ → Language Tree
  pub assignment : ℕ → Language Tree
  pub choice : ℕ → Language Tree
  pub prefix : ℕ → Language Tree

-- "(" comma ")", which isn't kept in the tree
abbrev pub parenthesized : Deeper → ℕ → Language Tree
parenthesized D l =
    making (λ (opening, (tree, closing)). tree) (token (l + 1) kind.OpenParenthesis
    then D.comma (l + 1) then token (l + 1) kind.CloseParenthesis)

-- "puts" "(" Text ")"
abbrev pub puts : ℕ → Language Tree
puts l =
    making (λ (word, (opening, (text, closing))). Puts (spot word) text.bytes)
    (token l kind.Puts then token (l + 1) kind.OpenParenthesis then token (l + 1) kind.Text
    then token (l + 1) kind.CloseParenthesis)

-- primary = Number | Name | "@" | "$" | "(" comma ")" | "puts" "(" Text ")"
abbrev pub primary : Deeper → ℕ → Language Tree
primary D l =
    making (λ (at, (value, unsigned)). Number (spot at) value unsigned) (telling l number_told)
    or making (λ t. Variable (name t)) (token l kind.Word)
    or making (λ t. GroupNumber (spot t)) (token l kind.At)
    or making (λ t. GroupRank (spot t)) (token l kind.Dollar)
    or parenthesized D l
    or puts l

abbrev pub listed : {A : Type 0} → Option (A × List A) → List A
listed None = []
listed (Some (first, others)) = first ∷ others

-- [ assign { "," assign } ]
abbrev pub arguments : Deeper → ℕ → Language (List Tree)
arguments D l = making listed (maybe (D.assignment l
    then many (making (λ (comma, next). next) (token l kind.Comma then D.assignment l))))

-- "[" comma "]" | "(" arguments ")" | "." Name | "->" Name | "++" | "--"
abbrev pub suffix : Deeper → ℕ → Language SuffixTree
suffix D l =
    making (λ (opening, (by, closing)). Index (spot opening) by)
    (token (l + 1) kind.OpenBracket then D.comma (l + 1) then token (l + 1) kind.CloseBracket)
    or making (λ (opening, (list, closing)). Call (spot opening) (trees_of list)) (token
    (l + 1) kind.OpenParenthesis then arguments D (l + 1) then token (l + 1) kind.CloseParenthesis)
    or making (λ (mark, member). Dot (spot mark) (name member))
    (token l kind.Dot then token l kind.Word)
    or making (λ (mark, member). Arrow (spot mark) (name member))
    (token l kind.Arrow then token l kind.Word)
    or making (λ t. Up (spot t)) (token l kind.Increment)
    or making (λ t. Down (spot t)) (token l kind.Decrement)

abbrev pub suffixed : Tree → List SuffixTree → Tree
suffixed whole [] = whole
suffixed whole (s ∷ suffixes) = Postfix whole (suffixes_of (s ∷ suffixes))

-- postfix = primary { suffix }
abbrev pub postfix : Deeper → ℕ → Language Tree
postfix D l =
    making (λ (whole, suffixes). suffixed whole suffixes) (primary D l then many (suffix D l))

-- "(" type stars ")" prefix
abbrev pub cast : Deeper → ℕ → Language Tree
cast D l =
    making (λ (opening, (type, (closing, operand))). Cast (spot opening) type operand)
    (token (l + 1) kind.OpenParenthesis then type_name (l + 1)
    then token (l + 1) kind.CloseParenthesis then D.prefix (l + 1))

-- "sizeof" "(" type stars ")"
abbrev pub sizeof : ℕ → Language Tree
sizeof l =
    making (λ (word, (opening, (type, closing))). Sizeof (spot word) type)
    (token l kind.Sizeof then token (l + 1) kind.OpenParenthesis then type_name (l + 1)
    then token (l + 1) kind.CloseParenthesis)

-- prefix = sign prefix | "(" type stars ")" prefix | "sizeof" "(" type stars ")" | postfix
abbrev pub prefix : Deeper → ℕ → Language Tree
prefix D l =
    making (λ ((at, operator), operand). Prefix (spot at) operator operand)
    (telling (l + 1) prefix_told then D.prefix (l + 1))
    or cast D l
    or sizeof l
    or postfix D l

abbrev pub only : ℕ → Option (ℕ × Sign) → Option Sign
only looseness None = None
only looseness (Some x) = if x.0 == looseness then Some x.1 else None

-- an operator with this looseness, from 1 for * / % to 10 for ||
abbrev pub operator_at : ℕ → TokenKind → Option Sign
operator_at looseness kind = only looseness (operator_told kind)

abbrev pub linked : (Placed × Sign) × Tree → LinkTree
linked = λ ((at, operator), operand). record { spot = spot at; sign = operator; right = operand }

abbrev pub chained : Tree → List LinkTree → Tree
chained first [] = first
chained first (link ∷ links) = Chain first (links_of (link ∷ links))

-- operands joined by operators with at most this looseness; each level of looseness groups to the
-- left
abbrev pub joined : Deeper → ℕ → ℕ → Language Tree
joined D l zero = prefix D l
joined D l (suc looseness) =
    making (λ (first, links). chained first links)
    (joined D l looseness
    then many (making linked (telling l (operator_at (suc looseness)) then joined D l looseness)))

abbrev pub chosen : Tree → Option (Placed × (Tree × (Placed × Tree))) → Tree
chosen condition None = condition
chosen condition (Some (question, (first, (colon, second)))) =
    Choose (spot question) condition first second

-- choose = binary [ "?" comma ":" choose ]
abbrev pub choice : Deeper → ℕ → Language Tree
choice D l =
    making (λ (condition, branches). chosen condition branches)
    (joined D l 10
    then maybe (token (l + 1) kind.Question then D.comma (l + 1) then token (l + 1) kind.Colon
    then D.choice (l + 1)))

abbrev pub assigned : Tree → Option ((Placed × Sign) × Tree) → Tree
assigned target None = target
assigned target (Some ((at, operator), value)) = Assign (spot at) operator target value

-- assign = choose [ asign assign ]
abbrev pub assignment : Deeper → ℕ → Language Tree
assignment D l = making (λ (target, value). assigned target value)
    (choice D l then maybe (telling l assignment_told then D.assignment (l + 1)))

abbrev pub comma_linked : Placed × Tree → LinkTree
comma_linked = λ (comma, operand). record { spot = spot comma; sign = sign.Comma; right = operand }

-- comma = assign { "," assign }
abbrev pub comma : Deeper → ℕ → Language Tree
comma D l =
    making (λ (first, links). chained first links)
    (assignment D l then many (making comma_linked (token l kind.Comma then assignment D l)))

-- ---- the languages for a number of levels that may be opened

abbrev pub deeper : ℕ → Deeper
deeper zero = record {
  comma = λ l. nothing;
  assignment = λ l. nothing;
  choice = λ l. nothing;
  prefix = λ l. nothing;
}
deeper (suc n) =
    record {
      comma = comma (deeper n);
      assignment = assignment (deeper n);
      choice = choice (deeper n);
      prefix = prefix (deeper n);
    }

-- the productions `comma` and `assignment` inside `level` open levels, for each bound on the levels
-- that they open
abbrev pub Comma : ℕ → Family Tree
Comma level bound = comma (deeper bound) level

abbrev pub Assignment : ℕ → Family Tree
Assignment level bound = assignment (deeper bound) level
