-- Joined operands, choices, assignments and expressions with commas are read exactly.
use Rattle.std.proofs.Common.{◌≡◌, ℕ, zero, suc, ◌+◌, ◌≤◌, ◌<◌, Option, Some, refl, arith}
use Rattle.fk_syntax.specs.declared.sign.Sign.{Sign}
use Rattle.fk_syntax.specs.declared.sign.Sign.TheVariants as sign
use Rattle.fk_lex.specs.declared.token.TokenKind.{TokenKind}
use Rattle.fk_lex.specs.declared.token.TokenKind.TheVariants as kind
use Rattle.fk_expr.specs.Kinds.{assignment_told}
use Rattle.fk_expr.specs.Grammar.{Deeper, operator_at, joined, choice, assignment, comma}
use Rattle.fk_expr.specs.Reading.{Readers, begins_expression, read_joined, read_choice, read_assignment, read_comma}
use Rattle.fk_parse_combinators.specs.Readers.{tells}
use Rattle.fk_parse_combinators.proofs.Sets.{Kinds, ◌∪◌, Apart, Within, none_apart, within_left, union_within}
use Rattle.fk_parse_combinators.proofs.EachKind.{apart_by, within_by}
use Rattle.fk_parse_combinators.proofs.Token.{example_token, shape_token}
use Rattle.fk_parse_combinators.proofs.Shapes.{example_then, shape_then}
use Rattle.fk_parse_combinators.proofs.Productions.{IsRead, reads_token, reads_telling, reads_making, reads_then, reads_then_loose, reads_maybe, reads_many, reads_wider}
use Rattle.fk_expr.proofs.Followers.{goes_joined, goes_choice, goes_assignment, goes_comma, joined_apart}
use Rattle.fk_expr.proofs.Inner.{Inner, examples_of, reads_opened}
use Rattle.fk_expr.proofs.Prefixes.{reads_prefix}
use Rattle.fk_parse_combinators.specs.Kinds.{just}

-- ---- joined operands

-- an operator that binds so loosely
record Operator (looseness : ℕ) : Type 0 where
  kind : TokenKind
  sign : Sign
  is : operator_at looseness kind ≡ Some sign

operator : (n : ℕ) → n < 10 → Operator (suc n)
operator zero h = record { kind = kind.Star; sign = sign.Star; is = refl }
operator (suc zero) h = record { kind = kind.Plus; sign = sign.Plus; is = refl }
operator (suc (suc zero)) h = record { kind = kind.ShiftLeft; sign = sign.ShiftLeft; is = refl }
operator (suc (suc (suc zero))) h = record { kind = kind.LessThan; sign = sign.LessThan; is = refl }
operator (suc (suc (suc (suc zero)))) h = record { kind = kind.EqualTo; sign = sign.EqualTo; is = refl }
operator (suc (suc (suc (suc (suc zero))))) h = record { kind = kind.Ampersand; sign = sign.Ampersand; is = refl }
operator (suc (suc (suc (suc (suc (suc zero)))))) h = record { kind = kind.Caret; sign = sign.Caret; is = refl }
operator (suc (suc (suc (suc (suc (suc (suc zero))))))) h = record { kind = kind.Bar; sign = sign.Bar; is = refl }
operator (suc (suc (suc (suc (suc (suc (suc (suc zero)))))))) h = record { kind = kind.AndAnd; sign = sign.AndAnd; is = refl }
operator (suc (suc (suc (suc (suc (suc (suc (suc (suc zero))))))))) h = record { kind = kind.OrOr; sign = sign.OrOr; is = refl }
operator (suc (suc (suc (suc (suc (suc (suc (suc (suc (suc n)))))))))) h = absurd (omega arith)

within_again : (f g : Kinds) → Within (f ∪ (f ∪ g)) (f ∪ g)
within_again f g = union_within f (f ∪ g) (f ∪ g) (within_left f g) (λ k h. h)

-- joined operands are read exactly
pub reads_joined : {levels : ℕ} {room : Type 0} (D : Deeper) (l : ℕ) (inner : Option Readers) → Inner levels D l inner room → (looseness : ℕ) → looseness ≤ 10
    → IsRead levels (joined D l looseness) (read_joined inner looseness) l begins_expression (goes_joined looseness) room
unfolding read_joined
reads_joined D l inner w zero h = reads_prefix D l inner w
reads_joined D l inner w (suc n) h =
    let o : Operator (suc n) = operator n h in
    let operand = reads_joined D l inner w n (omega arith) in
    let apart : Apart (goes_joined n) (tells (operator_at (suc n))) = joined_apart n (suc n) (omega arith) in
    reads_wider (goes_joined (suc n)) (within_again (goes_joined n) (tells (operator_at (suc n))))
    (reads_making _ (reads_then_loose operand
    (reads_many (reads_making _ (reads_then (reads_telling l (operator_at (suc n)) o.kind o.sign o.is w.level) operand (none_apart begins_expression))) apart)
    apart))

-- ---- choices

-- a choice is read exactly
pub reads_choice : {levels : ℕ} {room : Type 0} (D : Deeper) (l : ℕ) (inner : Option Readers) → Inner levels D l inner room
    → IsRead levels (choice D l) (read_choice inner) l begins_expression goes_choice room
unfolding read_choice just
reads_choice D l inner w =
    reads_wider goes_choice
    (union_within (goes_joined 10) (goes_choice ∪ just kind.Question) goes_choice (within_left (goes_joined 10) (just kind.Question))
    (union_within goes_choice (just kind.Question) goes_choice (λ k h. h) (within_by (just kind.Question) goes_choice refl (λ v u. refl))))
    (reads_making _ (reads_then_loose (reads_joined D l inner w 10 (omega arith))
    (reads_maybe (reads_opened _ w
    (shape_then (shape_token (l + 1) kind.Question)
    (λ r. example_then (examples_of w r).comma (example_then (example_token (l + 1) kind.Colon) (examples_of w r).choice)))
    (λ v. (reads_then (reads_token (l + 1) kind.Question v.shallow)
    (reads_then v.comma
    (reads_then (reads_token (l + 1) kind.Colon v.shallow) v.choice (none_apart begins_expression))
    (apart_by goes_comma (just kind.Colon) refl (λ v u. refl)))
    (none_apart begins_expression)).exact)))
    (apart_by (goes_joined 10) (just kind.Question) refl (λ v u. refl))))

-- ---- assignments

-- an assignment is read exactly
pub reads_assignment_at : {levels : ℕ} {room : Type 0} (D : Deeper) (l : ℕ) (inner : Option Readers) → Inner levels D l inner room
    → IsRead levels (assignment D l) (read_assignment inner) l begins_expression goes_assignment room
unfolding read_assignment just
reads_assignment_at D l inner w =
    reads_wider goes_assignment
    (union_within goes_choice (goes_assignment ∪ tells assignment_told) goes_assignment (within_left goes_choice (tells assignment_told))
    (union_within goes_assignment (tells assignment_told) goes_assignment (λ k h. h) (within_by (tells assignment_told) goes_assignment refl (λ v u. refl))))
    (reads_making _ (reads_then_loose (reads_choice D l inner w)
    (reads_maybe (reads_then (reads_telling l assignment_told kind.Assign sign.Assign refl w.level)
    (reads_opened _ w w.shapes.assignment (λ v. v.assignment.exact))
    (none_apart begins_expression)))
    (apart_by goes_choice (tells assignment_told) refl (λ v u. refl))))

-- ---- expressions with commas

-- an expression with commas is read exactly
pub reads_comma_at : {levels : ℕ} {room : Type 0} (D : Deeper) (l : ℕ) (inner : Option Readers) → Inner levels D l inner room
    → IsRead levels (comma D l) (read_comma inner) l begins_expression goes_comma room
unfolding read_comma just
reads_comma_at D l inner w =
    let apart : Apart goes_assignment (just kind.Comma) = apart_by goes_assignment (just kind.Comma) refl (λ v u. refl) in
    let operand = reads_assignment_at D l inner w in
    reads_wider goes_comma (within_again goes_assignment (just kind.Comma))
    (reads_making _ (reads_then_loose operand
    (reads_many (reads_making _ (reads_then (reads_token l kind.Comma w.level) operand (none_apart begins_expression))) apart)
    apart))
