-- Suffixes, and what they are put to, are read exactly.
use Rattle.std.proofs.Common.{ℕ, ◌+◌, ◌≤◌, Option, refl, arith}
use Rattle.fk_syntax.specs.Tree.{SuffixTree, Index, Call, trees_of}
use Rattle.fk_lex.specs.declared.token.TokenKind.{TokenKind}
use Rattle.fk_lex.specs.declared.token.TokenKind.TheVariants as kind
use Rattle.fk_parse_combinators.specs.Languages.{Language, token, ◌then◌, making, spot}
use Rattle.fk_expr.specs.Grammar.{Deeper, arguments, suffix, postfix}
use Rattle.fk_parse_combinators.specs.Readers.{Reader, expect, giving, ◌and◌, opened}
use Rattle.fk_expr.specs.Reading.{Readers, begins_primary, begins_suffix, begins_expression, read_arguments, read_suffix, read_postfix}
use Rattle.fk_parse_combinators.proofs.Sets.{Kinds, ◌∪◌, none, none_apart}
use Rattle.fk_parse_combinators.proofs.EachKind.{apart_by, within_by}
use Rattle.fk_parse_combinators.proofs.Token.{example_token, shape_token}
use Rattle.fk_parse_combinators.proofs.Shapes.{example_then, example_empty, empty_maybe, empty_making, shape_making, shape_then}
use Rattle.fk_parse_combinators.proofs.Productions.{IsRead, IsLooselyRead, reads_token, reads_making, loosely_making, reads_then, reads_then_loose, reads_loose_then, in_parentheses, shape_in_parentheses, reads_or, reads_maybe, reads_many, reads_lower, reads_kinds, reads_wider}
use Rattle.fk_expr.proofs.Followers.{goes_assignment, goes_comma}
use Rattle.fk_expr.proofs.Inner.{Below, Inner, examples_of, reads_opened}
use Rattle.fk_expr.proofs.Primary.{reads_primary}
use Rattle.fk_parse_combinators.specs.Kinds.{just}

-- what goes on with arguments
abbrev goes_arguments : Kinds
goes_arguments = (goes_assignment ∪ (goes_assignment ∪ just kind.Comma)) ∪ begins_expression

reads_arguments : {levels : ℕ} {room : Type 0} (D : Deeper) (l : ℕ) (inner : Option Readers) → (v : Below levels D l inner room)
    → IsLooselyRead levels (arguments D (l + 1)) (read_arguments v.readers) (l + 1) begins_expression goes_arguments room
unfolding read_arguments just
reads_arguments D l inner v =
    loosely_making _ (reads_maybe (reads_then_loose v.assignment
    (reads_many (reads_making _ (reads_then (reads_token (l + 1) kind.Comma v.shallow) v.assignment (none_apart begins_expression)))
    (apart_by goes_assignment (just kind.Comma) refl (λ v u. refl)))
    (apart_by goes_assignment (just kind.Comma) refl (λ v u. refl))))

-- an index
abbrev index : Deeper → ℕ → Language SuffixTree
index D l = making (λ x. Index (spot x.0) x.1.0) (token (l + 1) kind.OpenBracket then D.comma (l + 1) then token (l + 1) kind.CloseBracket)

abbrev read_index : Option Readers → Reader SuffixTree
read_index inner = opened (just kind.OpenBracket) inner (λ R. giving (λ x. Index (spot x.0) x.1.0) (expect kind.OpenBracket and R.comma and expect kind.CloseBracket))

reads_index : {levels : ℕ} {room : Type 0} (D : Deeper) (l : ℕ) (inner : Option Readers) → Inner levels D l inner room
    → IsRead levels (index D l) (read_index inner) (l + 1) (just kind.OpenBracket) none room
unfolding just
reads_index D l inner w =
    reads_opened _ w
    (shape_making _ (shape_then (shape_token (l + 1) kind.OpenBracket)
    (λ r. example_then (examples_of w r).comma (example_token (l + 1) kind.CloseBracket))))
    (λ v. (reads_making _ (reads_then (reads_token (l + 1) kind.OpenBracket v.shallow)
    (reads_then v.comma (reads_token (l + 1) kind.CloseBracket v.shallow) (apart_by goes_comma (just kind.CloseBracket) refl (λ v u. refl)))
    (none_apart begins_expression))).exact)

-- a call
abbrev call : Deeper → ℕ → Language SuffixTree
call D l = making (λ x. Call (spot x.0) (trees_of x.1.0)) (in_parentheses (l + 1) (arguments D (l + 1)))

abbrev read_call : Option Readers → Reader SuffixTree
read_call inner =
    opened (just kind.OpenParenthesis) inner (λ R.
    giving (λ x. Call (spot x.0) (trees_of x.1.0)) (expect kind.OpenParenthesis and read_arguments R and expect kind.CloseParenthesis))

reads_call : {levels : ℕ} {room : Type 0} (D : Deeper) (l : ℕ) (inner : Option Readers) → Inner levels D l inner room
    → IsRead levels (call D l) (read_call inner) (l + 1) (just kind.OpenParenthesis) none room
unfolding just
reads_call D l inner w =
    reads_opened _ w (shape_making _ (shape_in_parentheses (l + 1) (λ r. example_empty (empty_making _ (empty_maybe _))))) (λ v.
    (reads_making _ (reads_then (reads_token (l + 1) kind.OpenParenthesis v.shallow)
    (reads_loose_then (reads_arguments D l inner v) (reads_token (l + 1) kind.CloseParenthesis v.shallow)
    (apart_by goes_arguments (just kind.CloseParenthesis) refl (λ v u. refl)))
    (none_apart (begins_expression ∪ just kind.CloseParenthesis)))).exact)

-- a name behind a sign
reads_member : {levels : ℕ} {room : Type 0} (l : ℕ) (k : TokenKind) → l ≤ levels
    → IsRead levels (token l k then token l kind.Word) (expect k and expect kind.Word) l (just k) none room
reads_member l k h = reads_then (reads_token l k h) (reads_token l kind.Word h) (none_apart (just kind.Word))

-- the kinds that begin the productions of a suffix
abbrev suffixes : Kinds
suffixes = just kind.OpenBracket ∪ (just kind.OpenParenthesis ∪ (just kind.Dot ∪ (just kind.Arrow ∪ (just kind.Increment ∪ just kind.Decrement))))

-- a suffix is read exactly
pub reads_suffix : {levels : ℕ} {room : Type 0} (D : Deeper) (l : ℕ) (inner : Option Readers) → Inner levels D l inner room
    → IsRead levels (suffix D l) (read_suffix inner) l begins_suffix none room
unfolding read_suffix just
reads_suffix D l inner w =
    reads_kinds begins_suffix (within_by suffixes begins_suffix refl (λ v u. refl)) (within_by begins_suffix suffixes refl (λ v u. refl))
    (reads_wider none (λ k h. h)
    (reads_or (reads_lower (omega arith) (reads_index D l inner w))
    (reads_or (reads_lower (omega arith) (reads_call D l inner w))
    (reads_or (reads_making _ (reads_member l kind.Dot w.level))
    (reads_or (reads_making _ (reads_member l kind.Arrow w.level))
    (reads_or (reads_making _ (reads_token l kind.Increment w.level)) (reads_making _ (reads_token l kind.Decrement w.level))
    (apart_by (just kind.Increment) (just kind.Decrement) refl (λ v u. refl)))
    (apart_by (just kind.Arrow) _ refl (λ v u. refl)))
    (apart_by (just kind.Dot) _ refl (λ v u. refl)))
    (apart_by (just kind.OpenParenthesis) _ refl (λ v u. refl)))
    (apart_by (just kind.OpenBracket) _ refl (λ v u. refl))))

-- a primary expression with its suffixes is read exactly
pub reads_postfix : {levels : ℕ} {room : Type 0} (D : Deeper) (l : ℕ) (inner : Option Readers) → Inner levels D l inner room
    → IsRead levels (postfix D l) (read_postfix inner) l begins_primary begins_suffix room
unfolding read_postfix
reads_postfix D l inner w =
    reads_wider begins_suffix (λ k h. h)
    (reads_making _ (reads_then_loose (reads_primary D l inner w) (reads_many (reads_suffix D l inner w) (none_apart begins_suffix)) (none_apart begins_suffix)))
