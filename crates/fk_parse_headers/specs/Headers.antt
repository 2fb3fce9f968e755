-- Headers, the parts of statements before their bodies, and how they are read.
use Rattle.std.specs.Prelude.{ℕ, Option, Bool, ◌||◌}
use Rattle.fk_syntax.specs.declared.place.Spot.{Spot}
use Rattle.fk_syntax.specs.Tree.{Tree}
use Rattle.fk_syntax.specs.Program.{Statement, While, For, Start, Farm, Seq, Fork}
use Rattle.fk_lex.specs.declared.token.TokenKind.{TokenKind}
use Rattle.fk_lex.specs.declared.token.TokenKind.TheVariants as kind
use Rattle.fk_parse_combinators.specs.Languages.{Placed, spot}
use Rattle.fk_parse_combinators.specs.Kinds.{just}
use Rattle.fk_parse_combinators.specs.Readers.{Reader, giving, ◌and◌, expect, by_next, optional}
use Rattle.fk_expr.specs.Reading.{inner, read_comma}
use Rattle.fk_parse_headers.specs.Reading.{read_condition, read_some, read_rank}

pub data Header : Type 0 where
  OfWhile : (at : Spot) (condition : Tree) → Header
  OfFor : (at : Spot) (before condition after : Option Tree) → Header
  OfStart : (at : Spot) (count : Option Tree) → Header
  OfFarm : (at : Spot) → Header
  OfSeq : (at : Spot) → Header
  OfFork : (at : Spot) (parts part : Tree) (rank : Option Tree) → Header

-- the whole statement, with this body
abbrev pub headed : Header → Statement → Statement
headed (OfWhile at condition) body = While at condition body
headed (OfFor at before condition after) body = For at before condition after body
headed (OfStart at count) body = Start at count body
headed (OfFarm at) body = Farm at body
headed (OfSeq at) body = Seq at body
headed (OfFork at parts part rank) body = Fork at parts part rank body

-- "while" "(" comma ")"
abbrev pub read_while_header : ℕ → Reader Header
read_while_header left =
    giving (λ (word, condition). OfWhile (spot word) condition)
    (expect kind.While and read_condition (inner left))

-- [ comma ], and the token after it
abbrev pub read_part : ℕ → TokenKind → Reader (Option Tree)
read_part left end = giving (λ (value, closing). value) (read_some (inner left) and expect end)

-- [ comma ] ";" [ comma ] ")"
abbrev pub read_last_parts : ℕ → Reader (Option Tree × Option Tree)
read_last_parts left = read_part left kind.Semicolon and read_part left kind.CloseParenthesis

-- "for" "(" [ comma ] ";" [ comma ] ";" [ comma ] ")"
abbrev pub read_for_header : ℕ → Reader Header
read_for_header left =
    giving
    (λ (word, (opening, (before, (condition, after)))). OfFor (spot word) before condition after)
    (expect kind.For and expect kind.OpenParenthesis and read_part left kind.Semicolon
    and read_last_parts left)

-- "start" [ "(" comma ")" ]
abbrev pub read_start_header : ℕ → Reader Header
read_start_header left =
    giving (λ (word, count). OfStart (spot word) count)
    (expect kind.Start and optional (just kind.OpenParenthesis) (read_condition (inner left)))

-- a word, "=" and comma
abbrev pub read_assigned : ℕ → TokenKind → Reader Tree
read_assigned left word = giving (λ (mark, (equals, value)). value)
    (expect word and expect kind.Assign and read_comma (inner left))

-- "fork" "(" comma ";"
abbrev pub read_parts : ℕ → Reader (Spot × Tree)
read_parts left =
    giving (λ (word, (opening, (parts, end))). (spot word, parts))
    (expect kind.Fork and expect kind.OpenParenthesis and read_comma (inner left)
    and expect kind.Semicolon)

-- [ ";" "$" "=" comma ] ")"
abbrev pub read_last_rank : ℕ → Reader (Option Tree × Placed)
read_last_rank left =
    optional (just kind.Semicolon) (read_rank (inner left)) and expect kind.CloseParenthesis

-- "@" "=" comma [ ";" "$" "=" comma ] ")"
abbrev pub read_portion : ℕ → Reader (Tree × (Option Tree × Placed))
read_portion left = read_assigned left kind.At and read_last_rank left

-- "fork" "(" comma ";" "@" "=" comma [ ";" "$" "=" comma ] ")"
abbrev pub read_fork_header : ℕ → Reader Header
read_fork_header left =
    giving (λ ((at, parts), (part, (rank, closing))). OfFork at parts part rank)
    (read_parts left and read_portion left)

-- the keywords that begin a header
abbrev pub begins_header : TokenKind → Bool
begins_header k = just kind.While k || (just kind.For k
    || (just kind.Start k || (just kind.Farm k || (just kind.Seq k || just kind.Fork k))))

abbrev pub read_header : ℕ → Reader Header
read_header left =
    by_next (just kind.While) (read_while_header left)
    (by_next (just kind.For) (read_for_header left)
    (by_next (just kind.Start) (read_start_header left)
    (by_next (just kind.Farm) (giving (λ t. OfFarm (spot t)) (expect kind.Farm))
    (by_next (just kind.Seq) (giving (λ t. OfSeq (spot t)) (expect kind.Seq))
    (read_fork_header left)))))
