-- The tokens of the code in the form of the definitions.
use Rattle.std.specs.Prelude.{◌^◌, ◌<◌, ◌≤◌, length, List, [], ◌∷◌, Option, Some, None, Bool, false}
use Rattle.std.specs.Prelude.{◌&&◌}
use Rattle.fk_lex.specs.declared.token.TokenKind.{TokenKind}
use Rattle.fk_lex.specs.View.{spelled}
use Rattle.fk_parse_combinators.specs.declared.cursor.Numbered.{Numbered}
use Rattle.fk_parse_combinators.specs.Languages.{Placed, placed}
use Rattle.fk_parse_combinators.specs.Readers.{next_is}
use Rattle.fk_parse_combinators.specs.Kinds.{just}

abbrev pub seen : Numbered → Placed
seen token = placed token.at (spelled token.token)

-- at least one token was read, of fewer than 2^32
abbrev pub Shortens : List Placed → List Placed → Type 0
Shortens old new = (length new < length old) × (length old < 2 ^ 32)

-- any number of tokens was read, of fewer than 2^32
abbrev pub Leaves : List Placed → List Placed → Type 0
Leaves old new = (length new ≤ length old) × (length old < 2 ^ 32)

-- the kind of the next token
abbrev pub next_kind : List Placed → Option TokenKind
next_kind [] = None
next_kind (t ∷ ts) = Some t.kind

-- the kind of the token after the next one
abbrev pub second_kind : List Placed → Option TokenKind
second_kind (t ∷ u ∷ ts) = Some u.kind
second_kind ts = None

-- the next tokens have these kinds
abbrev pub pair_is : TokenKind → TokenKind → List Placed → Bool
pair_is first second [] = false
pair_is first second (t ∷ ts) = just first t.kind && next_is (just second) ts

abbrev pub triple_is : TokenKind → TokenKind → TokenKind → List Placed → Bool
triple_is first second third (s ∷ n ∷ t ∷ ts) =
    just first s.kind && just second n.kind && just third t.kind
triple_is first second third ts = false
