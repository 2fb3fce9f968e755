-- Kinds that tell nothing.
use Rattle.std.proofs.Common.{◌≡◌, ℕ, Bool, false, refl}
use Rattle.fk_lex.specs.declared.token.TokenKind.{TokenKind}
use Rattle.fk_lex.specs.declared.token.TokenKind.TheVariants as kind
use Rattle.fk_parse_combinators.specs.Readers.{tells}
use Rattle.fk_expr.specs.Kinds.{number_told}

-- what is no number tells none
pub not_number : (k : TokenKind) → ((value : ℕ) (unsigned : Bool) → k ≡ kind.Number value unsigned → ⊥) → tells number_told k ≡ false
not_number (kind.Number value unsigned) h = absurd (h value unsigned refl)
not_number k h = refl
