-- Tokens with their indices, and the faults at the next one.
use Rattle.std.proofs.Common.{Some, None, ◌≡◌, ℕ, suc, ◌+◌, ◌^◌, ◌<◌, List, [], ◌∷◌, true, false, ◌&&◌, length, map, refl, ap, arith}
use Rattle.fk_lex.specs.View.{spelled}
use Rattle.fk_lex.specs.declared.token.Token.{Token}
use Rattle.fk_lex.specs.declared.token.TokenKind.{TokenKind}
use Rattle.fk_parse_combinators.specs.Ahead.{next_kind, second_kind, pair_is, triple_is}
use Rattle.fk_parse_combinators.specs.Readers.{next_is}
use Rattle.fk_parse_combinators.specs.Languages.{Placed, numbered}
use Rattle.fk_parse_combinators.specs.Kinds.{just}

pub length-numbered : (at : ℕ) (tokens : List Token) → length (numbered at (map spelled tokens)) ≡ length tokens
length-numbered at [] = refl
length-numbered at (t ∷ ts) = ap suc (length-numbered (at + 1) ts)

pub few : (at : ℕ) (tokens : List Token) → at + length tokens < 2 ^ 32 → length (numbered at (map spelled tokens)) < 2 ^ 32
few at tokens h = omega (arith, length-numbered at tokens)

-- what the kind of the next token tells of it
pub next_by : (k n : TokenKind) (ts : List Placed) → Some n ≡ next_kind ts → just k n ≡ next_is (just k) ts
next_by k n [] e = cc
next_by k n (t ∷ ts) e = let same : n ≡ t.kind = cc in ap (just k) same

pub second_short : (ts : List Placed) → length ts < 2 → second_kind ts ≡ None
second_short [] h = refl
second_short (t ∷ []) h = refl
second_short (t ∷ u ∷ ts) h = absurd (omega arith)

pub pair_short : (f g : TokenKind) (ts : List Placed) → length ts < 2 → pair_is f g ts ≡ false
pair_short f g [] h = refl
pair_short f g (t ∷ []) h = elim (just f t.kind) as (λ b. (b && false) ≡ false) [ true ↦ refl | false ↦ refl ]
pair_short f g (t ∷ u ∷ ts) h = absurd (omega arith)

pub triple_short : (f g h : TokenKind) (ts : List Placed) → length ts < 3 → triple_is f g h ts ≡ false
triple_short f g h [] few = refl
triple_short f g h (s ∷ []) few = refl
triple_short f g h (s ∷ n ∷ []) few = refl
triple_short f g h (s ∷ n ∷ t ∷ ts) few = absurd (omega arith)
