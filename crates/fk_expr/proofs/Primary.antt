-- Primary expressions are read exactly.
use Rattle.std.proofs.Common.{ℕ, ◌+◌, Option, false, refl, arith}
use Rattle.fk_lex.specs.declared.token.TokenKind.TheVariants as kind
use Rattle.fk_expr.specs.Kinds.{number_told}
use Rattle.fk_expr.specs.Grammar.{Deeper, parenthesized, puts, primary}
use Rattle.fk_expr.specs.Reading.{Readers, begins_primary, read_parenthesized, read_puts, read_primary}
use Rattle.fk_parse_combinators.specs.Readers.{tells}
use Rattle.fk_parse_combinators.proofs.Sets.{none, none_apart}
use Rattle.fk_parse_combinators.proofs.EachKind.{apart_by, within_by}
use Rattle.fk_parse_combinators.proofs.Token.{example_token}
use Rattle.fk_parse_combinators.proofs.Productions.{IsRead, reads_token, reads_telling, reads_making, reads_then, reads_or, reads_in_parentheses, shape_in_parentheses, reads_lower, reads_kinds, reads_wider}
use Rattle.fk_expr.proofs.Beginnings.{shape_parenthesized, primaries}
use Rattle.fk_expr.proofs.Followers.{goes_comma}
use Rattle.fk_expr.proofs.Inner.{Inner, examples_of, reads_opened}
use Rattle.fk_parse_combinators.specs.Kinds.{just}

-- an expression in parentheses is read exactly
pub reads_parenthesized : {levels : ℕ} {room : Type 0} (D : Deeper) (l : ℕ) (inner : Option Readers) → Inner levels D l inner room
    → IsRead levels (parenthesized D l) (read_parenthesized inner) (l + 1) (just kind.OpenParenthesis) none room
unfolding just
reads_parenthesized D l inner w =
    reads_opened _ w (shape_parenthesized D l (examples_of w)) (λ v.
    (reads_making _ (reads_in_parentheses v.shallow v.comma (apart_by goes_comma (just kind.CloseParenthesis) refl (λ v u. refl)))).exact)

-- `puts` is read exactly
pub reads_puts : {levels : ℕ} {room : Type 0} (D : Deeper) (l : ℕ) (inner : Option Readers) → Inner levels D l inner room
    → IsRead levels (puts l) (read_puts inner) l (just kind.Puts) none room
reads_puts D l inner w =
    reads_making _ (reads_then (reads_token l kind.Puts w.level)
    (reads_opened _ w (shape_in_parentheses (l + 1) (λ r. example_token (l + 1) kind.Text)) (λ v.
    (reads_in_parentheses v.shallow (reads_token (l + 1) kind.Text v.shallow) (none_apart (just kind.CloseParenthesis))).exact))
    (none_apart (just kind.OpenParenthesis)))

-- a primary expression is read exactly
pub reads_primary : {levels : ℕ} {room : Type 0} (D : Deeper) (l : ℕ) (inner : Option Readers) → Inner levels D l inner room
    → IsRead levels (primary D l) (read_primary inner) l begins_primary none room
unfolding read_primary just
reads_primary D l inner w =
    reads_kinds begins_primary (within_by primaries begins_primary refl (λ v u. refl)) (within_by begins_primary primaries refl (λ v u. refl))
    (reads_wider none (λ k h. h)
    (reads_or (reads_making _ (reads_telling l number_told (kind.Number 0 false) (0, false) refl w.level))
    (reads_or (reads_making _ (reads_token l kind.Word w.level))
    (reads_or (reads_making _ (reads_token l kind.At w.level))
    (reads_or (reads_making _ (reads_token l kind.Dollar w.level))
    (reads_or (reads_lower (omega arith) (reads_parenthesized D l inner w)) (reads_puts D l inner w)
    (apart_by (just kind.OpenParenthesis) (just kind.Puts) refl (λ v u. refl)))
    (apart_by (just kind.Dollar) _ refl (λ v u. refl)))
    (apart_by (just kind.At) _ refl (λ v u. refl)))
    (apart_by (just kind.Word) _ refl (λ v u. refl)))
    (apart_by (tells number_told) _ refl (λ v u. refl))))
