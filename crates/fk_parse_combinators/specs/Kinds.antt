-- Comparison of the kinds of tokens, as the code does it.
use Rattle.std.specs.Prelude.{Bool}
use Rattle.fk_lex.specs.declared.token.TokenKind.{TokenKind}
use Rattle.fk_lex.specs.contracts.token.TokenKindPartialEq.TheImpl.{eq-value}

-- a kind is this one and no other: the comparison that `==` makes
unfoldable pub just : TokenKind → TokenKind → Bool
just kind other = eq-value.it kind other
