use Rattle.std.proofs.Common.{◌≡◌, length, List}
use Rattle.fk_parse_combinators.specs.Languages.{Placed}
use Rattle.fk_parse_combinators.specs.Readers.{expect}
use Rattle.fk_parse_combinators.proofs.Loops.{Loops}
use Rattle.fk_expr.proofs.types.stars.Given as goal
use Rattle.fk_parse_combinators.specs.Kinds.{just}
use Rattle.fk_lex.specs.declared.token.TokenKind.TheVariants as kind

abbrev pub invariant-loop-star : goal.invariant-loop-star
invariant-loop-star l = record {
  stars : List Placed;
  counted : length stars ≡ l.stars;
  loops : Loops (just kind.Star) (expect kind.Star) l.initial.cursor stars l.cursor;
}

abbrev pub decreases-loop-star : goal.decreases-loop-star
decreases-loop-star l = length l.cursor
