-- The names of types: what they begin with, and that they are read exactly.
use Rattle.std.proofs.Common.{ℕ, ◌≤◌, refl}
use Rattle.fk_lex.specs.declared.token.TokenKind.TheVariants as kind
use Rattle.fk_parse_combinators.specs.Languages.{token}
use Rattle.fk_expr.specs.Grammar.{base, type_name}
use Rattle.fk_expr.specs.Reading.{begins_type, read_base, read_type_name}
use Rattle.fk_parse_combinators.proofs.Sets.{Kinds, ◌∪◌, none, none_apart}
use Rattle.fk_parse_combinators.proofs.EachKind.{apart_by, within_by}
use Rattle.fk_parse_combinators.proofs.Exact.{Example, Shape}
use Rattle.fk_parse_combinators.proofs.Token.{example_token, shape_token}
use Rattle.fk_parse_combinators.proofs.Shapes.{example_making, example_then, example_left, example_empty, empty_many, empty_maybe, shape_kinds, shape_making, shape_then, shape_or}
use Rattle.fk_parse_combinators.proofs.Productions.{IsRead, reads_token, reads_making, reads_then, reads_then_loose, reads_or, reads_maybe, reads_many, reads_kinds, reads_wider}
use Rattle.fk_parse_combinators.specs.Kinds.{just}

abbrev bases : Kinds
bases = just kind.Int ∪ (just kind.Unsigned ∪ (just kind.Void ∪ just kind.Struct))

-- the first words of a type begin with these kinds
pub shape_base : {room : Type 0} (l : ℕ) → Shape (base l) l begins_type room
unfolding just
shape_base l =
    shape_kinds begins_type (within_by bases begins_type refl (λ v u. refl)) (within_by begins_type bases refl (λ v u. refl))
    (shape_or (shape_making _ (shape_token l kind.Int))
    (shape_or (shape_making _ (shape_then (shape_token l kind.Unsigned) (λ r. example_empty (empty_maybe (token l kind.Int)))))
    (shape_or (shape_making _ (shape_token l kind.Void))
    (shape_making _ (shape_then (shape_token l kind.Struct) (λ r. example_token l kind.Word))))))

-- a type begins with these kinds
pub shape_type_name : {room : Type 0} (l : ℕ) → Shape (type_name l) l begins_type room
shape_type_name l = shape_making _ (shape_then (shape_base l) (λ r. example_empty (empty_many (token l kind.Star))))

-- `unsigned` goes on with `int`
abbrev after_base : Kinds
after_base = none ∪ ((none ∪ (none ∪ just kind.Int)) ∪ (none ∪ none))

-- a type without its stars is read exactly
pub reads_base : {levels : ℕ} {room : Type 0} (l : ℕ) → l ≤ levels → IsRead levels (base l) read_base l begins_type (just kind.Int) room
unfolding just
reads_base l h =
    reads_kinds begins_type (within_by bases begins_type refl (λ v u. refl)) (within_by begins_type bases refl (λ v u. refl))
    (reads_wider (just kind.Int) (within_by after_base (just kind.Int) refl (λ v u. refl))
    (reads_or (reads_making _ (reads_token l kind.Int h))
    (reads_or (reads_making _ (reads_then_loose (reads_token l kind.Unsigned h) (reads_maybe (reads_token l kind.Int h)) (none_apart (just kind.Int))))
    (reads_or (reads_making _ (reads_token l kind.Void h))
    (reads_making _ (reads_then (reads_token l kind.Struct h) (reads_token l kind.Word h) (none_apart (just kind.Word))))
    (apart_by (just kind.Void) (just kind.Struct) refl (λ v u. refl)))
    (apart_by (just kind.Unsigned) (just kind.Void ∪ just kind.Struct) refl (λ v u. refl)))
    (apart_by (just kind.Int) (just kind.Unsigned ∪ (just kind.Void ∪ just kind.Struct)) refl (λ v u. refl))))

-- a type goes on with a star, and `unsigned` with `int`
abbrev pub goes_type : Kinds
goes_type = just kind.Int ∪ (none ∪ just kind.Star)

-- a type is read exactly
pub reads_type_name : {levels : ℕ} {room : Type 0} (l : ℕ) → l ≤ levels → IsRead levels (type_name l) read_type_name l begins_type goes_type room
unfolding just
reads_type_name l h =
    reads_making _ (reads_then_loose (reads_base l h) (reads_many (reads_token l kind.Star h) (none_apart (just kind.Star))) (apart_by (just kind.Int) (just kind.Star) refl (λ v u. refl)))

-- there is a type
pub example_type_name : (l : ℕ) → Example (type_name l)
example_type_name l = example_making _ (example_then (example_left _ (example_making _ (example_token l kind.Int))) (example_empty (empty_many (token l kind.Star))))
