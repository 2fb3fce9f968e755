-- What expressions begin with, at each level and each bound on the levels that they open.
use Rattle.std.proofs.Common.{ℕ, zero, suc, ◌+◌, ◌≤◌, refl, arith, false}
use Rattle.fk_lex.specs.declared.token.TokenKind.TheVariants as kind
use Rattle.fk_syntax.specs.declared.sign.Sign.TheVariants as sign
use Rattle.fk_parse_combinators.specs.Languages.{telling, ◌then◌}
use Rattle.fk_expr.specs.Kinds.{number_told, prefix_told}
use Rattle.fk_expr.specs.Grammar.{Deeper, deeper, parenthesized, puts, primary, suffix, postfix, cast, sizeof, prefix, joined, choice, assignment, comma}
use Rattle.fk_parse_combinators.specs.Readers.{tells}
use Rattle.fk_expr.specs.Reading.{begins_primary, begins_expression}
use Rattle.fk_parse_combinators.proofs.Sets.{Kinds, ◌∪◌}
use Rattle.fk_parse_combinators.proofs.EachKind.{within_by}
use Rattle.fk_parse_combinators.proofs.Exact.{Example, Shape}
use Rattle.fk_parse_combinators.proofs.Token.{example_token, example_telling, shape_token, shape_telling}
use Rattle.fk_parse_combinators.proofs.Shapes.{example_making, example_then, example_left, example_right, example_empty, empty_many, empty_maybe, shape_lower, shape_kinds, shape_nothing, shape_making, shape_then, shape_or}
use Rattle.fk_parse_combinators.proofs.Productions.{shape_in_parentheses, example_in_parentheses}
use Rattle.fk_expr.proofs.TypeNames.{example_type_name}
use Rattle.fk_parse_combinators.specs.Kinds.{just}

-- ---- examples

example_postfix : (D : Deeper) (l : ℕ) → Example (postfix D l)
example_postfix D l =
    example_making _ (example_then (example_left _ (example_making _ (example_telling l number_told (kind.Number 0 false) (0, false) refl))) (example_empty (empty_many (suffix D l))))

-- a number is each of these
pub example_prefix : (D : Deeper) (l : ℕ) → Example (prefix D l)
example_prefix D l = example_right _ (example_right _ (example_right _ (example_postfix D l)))

pub example_joined : (D : Deeper) (l : ℕ) (looseness : ℕ) → Example (joined D l looseness)
example_joined D l zero = example_prefix D l
example_joined D l (suc looseness) = example_making _ (example_then (example_joined D l looseness) (example_empty (empty_many _)))

pub example_choice : (D : Deeper) (l : ℕ) → Example (choice D l)
example_choice D l = example_making _ (example_then (example_joined D l 10) (example_empty (empty_maybe _)))

pub example_assignment : (D : Deeper) (l : ℕ) → Example (assignment D l)
example_assignment D l = example_making _ (example_then (example_choice D l) (example_empty (empty_maybe _)))

pub example_comma : (D : Deeper) (l : ℕ) → Example (comma D l)
example_comma D l = example_making _ (example_then (example_assignment D l) (example_empty (empty_many _)))

-- what stands deeper has examples
pub record Examples (D : Deeper) (l : ℕ) : Type 0 where
  pub comma : Example (D.comma l)
  pub assignment : Example (D.assignment l)
  pub choice : Example (D.choice l)
  pub prefix : Example (D.prefix l)

-- one level deeper there is an expression where one level more may be opened
pub examples : (bound : ℕ) (l : ℕ) → 1 ≤ bound → Examples (deeper bound) l
examples zero l h = absurd (omega arith)
examples (suc n) l h = record {
  comma = example_comma (deeper n) l;
  assignment = example_assignment (deeper n) l;
  choice = example_choice (deeper n) l;
  prefix = example_prefix (deeper n) l;
}

-- ---- shapes

-- each production, with the kinds that begin it
pub shape_parenthesized : {room : Type 0} (D : Deeper) (l : ℕ) → (room → Examples D (l + 1)) → Shape (parenthesized D l) (l + 1) (just kind.OpenParenthesis) room
shape_parenthesized D l x = shape_making _ (shape_in_parentheses (l + 1) (λ r. (x r).comma))

pub shape_puts : {room : Type 0} (l : ℕ) → Shape (puts l) l (just kind.Puts) room
shape_puts l =
    shape_making _ (shape_then (shape_token l kind.Puts)
    (λ r. example_in_parentheses (l + 1) (example_token (l + 1) kind.Text)))

-- the kinds that begin the productions of a primary expression
abbrev pub primaries : Kinds
primaries = tells number_told ∪ (just kind.Word ∪ (just kind.At ∪ (just kind.Dollar ∪ (just kind.OpenParenthesis ∪ just kind.Puts))))

pub shape_primary : {room : Type 0} (D : Deeper) (l : ℕ) → (room → Examples D (l + 1)) → Shape (primary D l) l begins_primary room
unfolding just
shape_primary D l x =
    shape_kinds begins_primary (within_by primaries begins_primary refl (λ v u. refl)) (within_by begins_primary primaries refl (λ v u. refl))
    (shape_or (shape_making _ (shape_telling l number_told (kind.Number 0 false) (0, false) refl))
    (shape_or (shape_making _ (shape_token l kind.Word))
    (shape_or (shape_making _ (shape_token l kind.At))
    (shape_or (shape_making _ (shape_token l kind.Dollar))
    (shape_or (shape_lower (omega arith) (shape_parenthesized D l x))
    (shape_puts l))))))

pub shape_postfix : {room : Type 0} (D : Deeper) (l : ℕ) → (room → Examples D (l + 1)) → Shape (postfix D l) l begins_primary room
shape_postfix D l x = shape_making _ (shape_then (shape_primary D l x) (λ r. example_empty (empty_many _)))

pub shape_cast : {room : Type 0} (D : Deeper) (l : ℕ) → (room → Examples D (l + 1)) → Shape (cast D l) (l + 1) (just kind.OpenParenthesis) room
shape_cast D l x =
    shape_making _ (shape_then (shape_token (l + 1) kind.OpenParenthesis)
    (λ r. example_then (example_type_name (l + 1)) (example_then (example_token (l + 1) kind.CloseParenthesis) (x r).prefix)))

pub shape_sizeof : {room : Type 0} (l : ℕ) → Shape (sizeof l) l (just kind.Sizeof) room
shape_sizeof l =
    shape_making _ (shape_then (shape_token l kind.Sizeof)
    (λ r. example_in_parentheses (l + 1) (example_type_name (l + 1))))

pub shape_signed : {room : Type 0} (D : Deeper) (l : ℕ) → (room → Examples D (l + 1)) → Shape (telling (l + 1) prefix_told then D.prefix (l + 1)) (l + 1) (tells prefix_told) room
shape_signed D l x = shape_then (shape_telling (l + 1) prefix_told kind.Minus sign.Minus refl) (λ r. (x r).prefix)

-- the kinds that begin the productions of a prefix expression
abbrev pub prefixes : Kinds
prefixes = tells prefix_told ∪ (just kind.OpenParenthesis ∪ (just kind.Sizeof ∪ begins_primary))

pub shape_prefix : {room : Type 0} (D : Deeper) (l : ℕ) → (room → Examples D (l + 1)) → Shape (prefix D l) l begins_expression room
unfolding just
shape_prefix D l x =
    shape_kinds begins_expression (within_by prefixes begins_expression refl (λ v u. refl)) (within_by begins_expression prefixes refl (λ v u. refl))
    (shape_or (shape_making _ (shape_lower (omega arith) (shape_signed D l x)))
    (shape_or (shape_lower (omega arith) (shape_cast D l x))
    (shape_or (shape_sizeof l)
    (shape_postfix D l x))))

pub shape_joined : {room : Type 0} (D : Deeper) (l : ℕ) → (room → Examples D (l + 1)) → (looseness : ℕ) → Shape (joined D l looseness) l begins_expression room
shape_joined D l x zero = shape_prefix D l x
shape_joined D l x (suc looseness) = shape_making _ (shape_then (shape_joined D l x looseness) (λ r. example_empty (empty_many _)))

pub shape_choice : {room : Type 0} (D : Deeper) (l : ℕ) → (room → Examples D (l + 1)) → Shape (choice D l) l begins_expression room
shape_choice D l x = shape_making _ (shape_then (shape_joined D l x 10) (λ r. example_empty (empty_maybe _)))

pub shape_assignment : {room : Type 0} (D : Deeper) (l : ℕ) → (room → Examples D (l + 1)) → Shape (assignment D l) l begins_expression room
shape_assignment D l x = shape_making _ (shape_then (shape_choice D l x) (λ r. example_empty (empty_maybe _)))

pub shape_comma : {room : Type 0} (D : Deeper) (l : ℕ) → (room → Examples D (l + 1)) → Shape (comma D l) l begins_expression room
shape_comma D l x = shape_making _ (shape_then (shape_assignment D l x) (λ r. example_empty (empty_many _)))

-- each kind of expression that stands deeper begins as expressions do
pub record DeeperShapes (D : Deeper) (l : ℕ) (room : Type 0) : Type 0 where
  pub comma : Shape (D.comma l) l begins_expression room
  pub assignment : Shape (D.assignment l) l begins_expression room
  pub choice : Shape (D.choice l) l begins_expression room
  pub prefix : Shape (D.prefix l) l begins_expression room

-- where two levels more may be opened, each token that begins an expression begins one there
pub deeper_shapes : {room : Type 0} (bound : ℕ) (l : ℕ) → (room → 2 ≤ bound) → DeeperShapes (deeper bound) l room
deeper_shapes {room} zero l h = record {
  comma = shape_nothing l begins_expression none;
  assignment = shape_nothing l begins_expression none;
  choice = shape_nothing l begins_expression none;
  prefix = shape_nothing l begins_expression none;
}
  where
    none : room → ⊥
    none r = let k : 2 ≤ 0 = h r in omega arith
deeper_shapes {room} (suc n) l h = record {
  comma = shape_comma (deeper n) l within;
  assignment = shape_assignment (deeper n) l within;
  choice = shape_choice (deeper n) l within;
  prefix = shape_prefix (deeper n) l within;
}
  where
    within : room → Examples (deeper n) (l + 1)
    within r = let k : 2 ≤ suc n = h r in examples n (l + 1) (omega arith)
