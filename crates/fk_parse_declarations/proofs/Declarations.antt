-- Declarations are read exactly.
use Rattle.std.proofs.Common.{◌≡◌, ℕ, ◌+◌, ◌≤◌, Option, true, false, refl}
use Rattle.fk_syntax.specs.Tree.{Tree}
use Rattle.fk_lex.specs.declared.token.TokenKind.TheVariants as kind
use Rattle.fk_parse_combinators.specs.Languages.{Language, token, ◌then◌, making, many, maybe}
use Rattle.fk_expr.specs.Kinds.{number_told, operator_told, assignment_told}
use Rattle.fk_expr.specs.Grammar.{deeper, Comma, Assignment}
use Rattle.fk_parse_combinators.specs.Readers.{Reader, ◌and◌, tells, expect, repeated}
use Rattle.fk_expr.specs.Reading.{begins_type, begins_expression, begins_suffix, inner, read_comma, read_assignment}
use Rattle.fk_parse_combinators.proofs.Sets.{Kinds, none, ◌∪◌, none_apart, Apart, within_left, within_itself, union_within}
use Rattle.fk_parse_combinators.proofs.EachKind.{apart_by, within_by}
use Rattle.fk_parse_combinators.proofs.Shapes.{loose_then}
use Rattle.fk_parse_combinators.proofs.Then.{exact_then_loose}
use Rattle.fk_expr.proofs.Followers.{goes_assignment, goes_comma}
use Rattle.fk_expr.proofs.Operands.{reads_assignment_at, reads_comma_at}
use Rattle.fk_expr.proofs.Expressions.{inner_at}
use Rattle.fk_expr.proofs.TypeNames.{reads_base}
use Rattle.fk_parse_combinators.proofs.Productions.{IsRead, IsLooselyRead, reads_token, reads_telling, reads_making, reads_then, reads_then_loose, reads_loose_then, reads_maybe, reads_many, reads_kinds, reads_wider}
use Rattle.fk_parse_declarations.specs.Kinds.{sharing_told}
use Rattle.fk_parse_declarations.specs.Grammar.{separated, length_of, variable, member_name, variables, member, parameter}
use Rattle.fk_parse_declarations.specs.Reading.{read_separated, read_length, read_rest, read_variable, read_member_name, read_variables, read_member, read_parameter, begins_parameter}
use Rattle.fk_parse_combinators.specs.Kinds.{just}

-- two languages one after the other, that may both be empty
loosely_then : {levels : ℕ} {room : Type 0} {A B : Type 0} {L : Language A} {M : Language B} {P : Reader A} {Q : Reader B} {level : ℕ} {first second f g : Kinds}
    → IsLooselyRead levels L P level first f room → IsLooselyRead levels M Q level second g room → Apart f second
    → IsLooselyRead levels (L then M) (P and Q) level (first ∪ second) (f ∪ g) room
loosely_then v w apart = record { shape = loose_then v.shape w.shape; exact = exact_then_loose v.exact w.exact w.shape apart }

-- ---- expressions

-- the kinds that go on with an expression without commas
abbrev pub after_assignment : Kinds
after_assignment = begins_suffix ∪ tells operator_told ∪ just kind.Question ∪ tells assignment_told

-- and with one that may have them
abbrev pub after_comma : Kinds
after_comma = after_assignment ∪ just kind.Comma

-- expressions are read exactly, where so many levels are open and so many are left
pub record Expressions (levels : ℕ) (level left bound : ℕ) (room : Type 0) : Type 0 where
  pub comma : IsRead levels (Comma level bound) (read_comma (inner left)) level begins_expression after_comma room
  pub assignment : IsRead levels (Assignment level bound) (read_assignment (inner left)) level begins_expression after_assignment room

-- they are, where the bound has room for the levels that are left
pub expressions : {levels : ℕ} {room : Type 0} (left l bound : ℕ) → left + l ≡ levels → (room → left + 2 ≤ bound) → Expressions levels l left bound room
unfolding just
expressions left l bound all enough =
    let next = inner_at left l bound all enough in
    record {
      comma = reads_wider after_comma (within_by goes_comma after_comma refl (λ v u. refl)) (reads_comma_at (deeper bound) l (inner left) next);
      assignment = reads_wider after_assignment (within_by goes_assignment after_assignment refl (λ v u. refl)) (reads_assignment_at (deeper bound) l (inner left) next);
    }

-- ---- lists

-- a list is read exactly, if its elements are and no comma goes on with one
pub reads_separated : {levels : ℕ} {room : Type 0} {A : Type 0} {L : Language A} {P : Reader A} {level : ℕ} {first f : Kinds} → level ≤ levels
    → IsRead levels L P level first f room → Apart f (just kind.Comma) → IsRead levels (separated level L) (read_separated P) level first (f ∪ just kind.Comma) room
unfolding read_separated
reads_separated {level} {first} {f} h w apart =
    reads_wider (f ∪ just kind.Comma) (union_within f (f ∪ just kind.Comma) (f ∪ just kind.Comma) (within_left f (just kind.Comma)) (within_itself (f ∪ just kind.Comma)))
    (reads_making _ (reads_then_loose w (reads_many (reads_making _ (reads_then (reads_token level kind.Comma h) w (none_apart first))) apart) apart))

-- a length is read exactly
pub reads_length : {levels : ℕ} {room : Type 0} (l : ℕ) → l ≤ levels → IsRead levels (length_of l) read_length l (just kind.OpenBracket) none room
unfolding read_length
reads_length l h =
    reads_making _ (reads_then (reads_token l kind.OpenBracket h)
    (reads_then (reads_telling l number_told (kind.Number 0 false) (0, false) refl h) (reads_token l kind.CloseBracket h)
    (none_apart (just kind.CloseBracket)))
    (none_apart (tells number_told)))

-- ---- variables

-- the kinds that begin what has stars and a name
abbrev pub starred : Kinds
starred = just kind.Star ∪ just kind.Word

-- the kinds that go on with a variable
abbrev pub after_variable : Kinds
after_variable = just kind.OpenBracket ∪ just kind.Assign ∪ after_assignment

-- stars are read exactly
pub reads_stars : {levels : ℕ} {room : Type 0} (l : ℕ) → l ≤ levels
    → IsLooselyRead levels (many (token l kind.Star)) (repeated (just kind.Star) (expect kind.Star)) l (just kind.Star) (none ∪ just kind.Star) room
reads_stars l h = reads_many (reads_token l kind.Star h) (none_apart (just kind.Star))

-- what is declared behind the name
abbrev pub rest_of : ℕ → ℕ → Language (Option ℕ × Option Tree)
rest_of bound l = maybe (length_of l) then maybe (making (λ x. x.1) (token l kind.Assign then Assignment l bound))

-- the kinds that go on with what stands behind a name
abbrev pub after_rest : Kinds
after_rest = (none ∪ just kind.OpenBracket) ∪ (after_assignment ∪ just kind.Assign)

-- it is read exactly
pub reads_rest : {levels : ℕ} {room : Type 0} {l left bound : ℕ} → Expressions levels l left bound room → l ≤ levels
    → IsLooselyRead levels (rest_of bound l) (read_rest (inner left)) l (just kind.OpenBracket ∪ just kind.Assign) after_rest room
unfolding read_rest just
reads_rest {l = l} E h =
    loosely_then (reads_maybe (reads_length l h))
    (reads_maybe (reads_making _ (reads_then (reads_token l kind.Assign h) E.assignment (none_apart begins_expression))))
    (apart_by (none ∪ just kind.OpenBracket) (just kind.Assign) refl (λ v u. refl))

-- a variable is read exactly
pub reads_variable : {levels : ℕ} {room : Type 0} {l left bound : ℕ} → Expressions levels l left bound room → l ≤ levels
    → IsRead levels (variable bound l) (read_variable (inner left)) l starred after_variable room
unfolding read_variable read_rest just
reads_variable {l = l} E h =
    reads_wider after_variable (within_by (none ∪ after_rest) after_variable refl (λ v u. refl))
    (reads_making _ (reads_loose_then (reads_stars l h)
    (reads_then_loose (reads_token l kind.Word h) (reads_rest E h) (none_apart (just kind.OpenBracket ∪ just kind.Assign)))
    (apart_by (none ∪ just kind.Star) (just kind.Word) refl (λ v u. refl))))

-- what begins a declaration
abbrev declaring : Kinds
declaring = tells sharing_told ∪ begins_type

-- variables are read exactly
pub reads_variables : {levels : ℕ} {room : Type 0} {l left bound : ℕ} → Expressions levels l left bound room → l ≤ levels
    → IsRead levels (variables bound l) (read_variables (inner left)) l begins_parameter none room
unfolding read_variables just
reads_variables {l = l} E h =
    reads_kinds begins_parameter (within_by declaring begins_parameter refl (λ v u. refl)) (within_by begins_parameter declaring refl (λ v u. refl))
    (reads_making _ (reads_loose_then (reads_maybe (reads_telling l sharing_told kind.Sh true refl h))
    (reads_then (reads_base l h)
    (reads_then (reads_separated h (reads_variable E h) (apart_by after_variable (just kind.Comma) refl (λ v u. refl)))
    (reads_token l kind.Semicolon h)
    (apart_by (after_variable ∪ just kind.Comma) (just kind.Semicolon) refl (λ v u. refl)))
    (apart_by (just kind.Int) starred refl (λ v u. refl)))
    (apart_by (none ∪ tells sharing_told) begins_type refl (λ v u. refl))))

-- ---- members

-- a member's name is read exactly
pub reads_member_name : {levels : ℕ} {room : Type 0} (l : ℕ) → l ≤ levels → IsRead levels (member_name l) read_member_name l starred (just kind.OpenBracket) room
unfolding read_member_name just
reads_member_name l h =
    reads_wider (just kind.OpenBracket) (within_by (none ∪ (none ∪ just kind.OpenBracket)) (just kind.OpenBracket) refl (λ v u. refl))
    (reads_making _ (reads_loose_then (reads_stars l h)
    (reads_then_loose (reads_token l kind.Word h) (reads_maybe (reads_length l h)) (none_apart (just kind.OpenBracket)))
    (apart_by (none ∪ just kind.Star) (just kind.Word) refl (λ v u. refl))))

-- members are read exactly
pub reads_member : {levels : ℕ} {room : Type 0} (l : ℕ) → l ≤ levels → IsRead levels (member l) read_member l begins_type none room
unfolding read_member just
reads_member l h =
    reads_making _ (reads_then (reads_base l h)
    (reads_then (reads_separated h (reads_member_name l h) (apart_by (just kind.OpenBracket) (just kind.Comma) refl (λ v u. refl)))
    (reads_token l kind.Semicolon h)
    (apart_by (just kind.OpenBracket ∪ just kind.Comma) (just kind.Semicolon) refl (λ v u. refl)))
    (apart_by (just kind.Int) starred refl (λ v u. refl)))

-- ---- parameters

-- a parameter is read exactly
pub reads_parameter : {levels : ℕ} {room : Type 0} (l : ℕ) → l ≤ levels → IsRead levels (parameter l) read_parameter l begins_parameter none room
unfolding read_parameter just
reads_parameter l h =
    reads_kinds begins_parameter (within_by declaring begins_parameter refl (λ v u. refl)) (within_by begins_parameter declaring refl (λ v u. refl))
    (reads_making _ (reads_loose_then (reads_maybe (reads_telling l sharing_told kind.Sh true refl h))
    (reads_then (reads_base l h)
    (reads_loose_then (reads_stars l h) (reads_token l kind.Word h) (apart_by (none ∪ just kind.Star) (just kind.Word) refl (λ v u. refl)))
    (apart_by (just kind.Int) starred refl (λ v u. refl)))
    (apart_by (none ∪ tells sharing_told) begins_type refl (λ v u. refl))))
