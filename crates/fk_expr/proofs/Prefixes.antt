-- Prefix expressions are read exactly. A cast and a parenthesis are told apart by the token after the parenthesis.
use Rattle.std.proofs.Common.{◌≡◌, ℕ, ◌+◌, List, ◌∷◌, ◌++◌, Option, IsTrue, false, inl, inr, refl, arith}
use Rattle.std.proofs.lemmas.Bool.{and_right}
use Rattle.fk_syntax.specs.Tree.{Tree, Prefix}
use Rattle.fk_syntax.specs.declared.sign.Sign.TheVariants as sign
use Rattle.fk_lex.specs.declared.token.TokenKind.{TokenKind}
use Rattle.fk_lex.specs.declared.token.TokenKind.TheVariants as kind
use Rattle.fk_parse_combinators.specs.Languages.{Placed, Stretch, Language, tokens_of, token, telling, ◌then◌, ◌or◌, making, spot}
use Rattle.fk_expr.specs.Kinds.{number_told, prefix_told}
use Rattle.fk_expr.specs.Grammar.{Deeper, parenthesized, primary, suffix, postfix, cast, sizeof, prefix, type_name}
use Rattle.fk_expr.specs.Reading.{Readers, begins_type, begins_primary, begins_suffix, begins_expression, read_cast, read_sizeof, read_signed, read_prefix, read_postfix, cast_is_next}
use Rattle.fk_parse_combinators.specs.Readers.{tells, by_next, either}
use Rattle.fk_parse_combinators.proofs.Sets.{Kinds, ◌∪◌, none, Apart, none_apart, apart-false, union_within}
use Rattle.fk_parse_combinators.proofs.EachKind.{apart_by, within_by}
use Rattle.fk_parse_combinators.proofs.Exact.{Fronts}
use Rattle.fk_parse_combinators.proofs.Stretches.{tokens_regroup}
use Rattle.fk_parse_combinators.proofs.Token.{example_token, shape_telling}
use Rattle.fk_parse_combinators.proofs.Shapes.{example_then, example_empty, empty_many, shape_making, shape_or, shape_lower, fronts_before}
use Rattle.fk_parse_combinators.proofs.Then.{exact_wider}
use Rattle.fk_parse_combinators.proofs.Productions.{IsRead, reads_token, reads_telling, reads_making, reads_then, reads_or, reads_in_parentheses, shape_in_parentheses, reads_lower, reads_kinds, reads_wider}
use Rattle.fk_parse_combinators.proofs.TwoTokens.{two, StartsAt, exact_two, starts_at_token, starts_at_making, starts_at_then, starts_at_left, starts_at_right}
use Rattle.fk_expr.proofs.TypeNames.{goes_type, shape_type_name, reads_type_name, example_type_name}
use Rattle.fk_expr.proofs.Beginnings.{Examples, DeeperShapes, shape_puts, shape_cast, shape_sizeof, shape_signed, prefixes}
use Rattle.fk_expr.proofs.Inner.{Inner, examples_of, reads_opened}
use Rattle.fk_expr.proofs.Suffixes.{reads_postfix}
use Rattle.fk_parse_combinators.specs.Kinds.{just}

-- a cast is read exactly
pub reads_cast : {levels : ℕ} {room : Type 0} (D : Deeper) (l : ℕ) (inner : Option Readers) → Inner levels D l inner room
    → IsRead levels (cast D l) (read_cast inner) (l + 1) (just kind.OpenParenthesis) begins_suffix room
unfolding read_cast just
reads_cast D l inner w =
    reads_opened _ w (shape_cast D l (examples_of w)) (λ v.
    (reads_making _ (reads_then (reads_token (l + 1) kind.OpenParenthesis v.shallow)
    (reads_then (reads_type_name (l + 1) v.shallow)
    (reads_then (reads_token (l + 1) kind.CloseParenthesis v.shallow) v.prefix (none_apart begins_expression))
    (apart_by goes_type (just kind.CloseParenthesis) refl (λ v u. refl)))
    (none_apart begins_type))).exact)

-- `sizeof` is read exactly
pub reads_sizeof : {levels : ℕ} {room : Type 0} (D : Deeper) (l : ℕ) (inner : Option Readers) → Inner levels D l inner room
    → IsRead levels (sizeof l) (read_sizeof inner) l (just kind.Sizeof) none room
unfolding read_sizeof just
reads_sizeof D l inner w =
    reads_making _ (reads_then (reads_token l kind.Sizeof w.level)
    (reads_opened _ w (shape_in_parentheses (l + 1) (λ r. example_type_name (l + 1))) (λ v.
    (reads_in_parentheses v.shallow (reads_type_name (l + 1) v.shallow) (apart_by goes_type (just kind.CloseParenthesis) refl (λ v u. refl))).exact))
    (none_apart (just kind.OpenParenthesis)))

-- a sign and its operand
abbrev signed : Deeper → ℕ → Language Tree
signed D l = making (λ x. Prefix (spot x.0.0) x.0.1 x.1) (telling (l + 1) prefix_told then D.prefix (l + 1))

reads_signed : {levels : ℕ} {room : Type 0} (D : Deeper) (l : ℕ) (inner : Option Readers) → Inner levels D l inner room
    → IsRead levels (signed D l) (read_signed inner) (l + 1) (tells prefix_told) begins_suffix room
unfolding read_signed
reads_signed D l inner w =
    reads_opened _ w (shape_making _ (shape_signed D l (examples_of w))) (λ v.
    (reads_making _ (reads_then (reads_telling (l + 1) prefix_told kind.Minus sign.Minus refl v.shallow) v.prefix (none_apart begins_expression))).exact)

-- ---- a parenthesis, and the token after it

-- no parenthesis comes first
clear_first : (first g : Kinds) (level : ℕ) → Apart (just kind.OpenParenthesis) first → (s : Stretch) → Fronts first level s → (rest : List Placed)
    → two (just kind.OpenParenthesis) g (tokens_of s ++ rest) ≡ false
clear_first first g level apart s w rest = rw (w.is, apart-false (just kind.OpenParenthesis) first apart w.front.token.kind w.kind) refl

-- no type comes after it
clear_second : (first g : Kinds) (level : ℕ) → Apart g first → (t : Placed) (s : Stretch) → Fronts first level s → (rest : List Placed)
    → two (just kind.OpenParenthesis) g (t ∷ (tokens_of s ++ rest)) ≡ false
clear_second first g level apart t s w rest =
    rw (w.is, apart-false g first apart w.front.token.kind w.kind) (and_right (just kind.OpenParenthesis t.kind) false refl)

-- what comes first begins one language after another
front_of : {A B : Type 0} (L : Language A) (M : Language B) (first : Kinds) (level : ℕ) → ((s : Stretch) (a : A) → L s a → Fronts first level s)
    → (s : Stretch) (x : A × B) → (L then M) s x → Fronts first level s
front_of L M first level fronts s x l = rw l.2 (fronts_before first level l.0 l.1 (fronts l.0 x.0 l.3))

-- a parenthesis in which an expression stands
clear_parenthesized : {room : Type 0} (D : Deeper) (l : ℕ) → DeeperShapes D (l + 1) room → (s : Stretch) (a : Tree) (rest : List Placed) → parenthesized D l s a
    → two (just kind.OpenParenthesis) begins_type (tokens_of s ++ rest) ≡ false
unfolding just
clear_parenthesized D l shapes s a rest m =
    let behind : Fronts begins_expression (l + 1) m.1.1 =
    front_of (D.comma (l + 1)) (token (l + 1) kind.CloseParenthesis) begins_expression (l + 1) shapes.comma.fronts m.1.1 m.0.1 m.1.4 in
    rw (m.1.2, m.1.3.0) (clear_second begins_expression begins_type (l + 1) (apart_by begins_type begins_expression refl (λ v u. refl)) m.0.0 m.1.1 behind rest)

-- a token that is no parenthesis
clear_token : (l : ℕ) (k : TokenKind) (g : Kinds) → just kind.OpenParenthesis k ≡ false → (s : Stretch) (t : Placed) (rest : List Placed) → token l k s t
    → two (just kind.OpenParenthesis) g (tokens_of s ++ rest) ≡ false
clear_token l k g other s t rest m = rw (m.0, m.1, other) refl

-- a primary expression isn't taken for a cast
clear_primary : {room : Type 0} (D : Deeper) (l : ℕ) → DeeperShapes D (l + 1) room → (s : Stretch) (a : Tree) (rest : List Placed) → primary D l s a
    → two (just kind.OpenParenthesis) begins_type (tokens_of s ++ rest) ≡ false
unfolding just
clear_primary D l shapes s a rest (inl m) =
    clear_first (tells number_told) begins_type l (apart_by (just kind.OpenParenthesis) (tells number_told) refl (λ v u. refl)) s
    ((shape_telling {room = ⊥} l number_told (kind.Number 0 false) (0, false) refl).fronts s m.0 m.1) rest
clear_primary D l shapes s a rest (inr (inl m)) =
    clear_token l kind.Word begins_type refl s m.0 rest m.1
clear_primary D l shapes s a rest (inr (inr (inl m))) =
    clear_token l kind.At begins_type refl s m.0 rest m.1
clear_primary D l shapes s a rest (inr (inr (inr (inl m)))) =
    clear_token l kind.Dollar begins_type refl s m.0 rest m.1
clear_primary D l shapes s a rest (inr (inr (inr (inr (inl m))))) = clear_parenthesized D l shapes s a rest m
clear_primary D l shapes s a rest (inr (inr (inr (inr (inr m))))) =
    clear_first (just kind.Puts) begins_type l (apart_by (just kind.OpenParenthesis) (just kind.Puts) refl (λ v u. refl)) s ((shape_puts {room = ⊥} l).fronts s a m) rest

-- a stretch that is no cast isn't taken for one
clear_other : {room : Type 0} (D : Deeper) (l : ℕ) → DeeperShapes D (l + 1) room → (s : Stretch) (a : Tree) (rest : List Placed) → (sizeof l or postfix D l) s a
    → two (just kind.OpenParenthesis) begins_type (tokens_of s ++ rest) ≡ false
unfolding just
clear_other D l shapes s a rest (inl m) =
    clear_first (just kind.Sizeof) begins_type l (apart_by (just kind.OpenParenthesis) (just kind.Sizeof) refl (λ v u. refl)) s ((shape_sizeof {room = ⊥} l).fronts s a m) rest
clear_other D l shapes s a rest (inr m) =
    rw (m.1.2, tokens_regroup m.1.0 m.1.1 rest) (clear_primary D l shapes m.1.0 m.0.0 (tokens_of m.1.1 ++ rest) m.1.3)

-- a cast is
chosen_cast : (D : Deeper) (l : ℕ) (s : Stretch) (a : Tree) (rest : List Placed) → cast D l s a → IsTrue (two (just kind.OpenParenthesis) begins_type (tokens_of s ++ rest))
unfolding just
chosen_cast D l s a rest m =
    let behind : Fronts begins_type (l + 1) m.1.1 =
    front_of (type_name (l + 1)) (token (l + 1) kind.CloseParenthesis then D.prefix (l + 1)) begins_type (l + 1) (shape_type_name {room = ⊥} (l + 1)).fronts m.1.1 m.0.1 m.1.4 in
    rw (m.1.2, m.1.3.0, m.1.3.1, behind.is, behind.kind) refl

-- ---- a parenthesis begins both

starts_cast : (D : Deeper) (l : ℕ) → Examples D (l + 1) → (t : Placed) → IsTrue (just kind.OpenParenthesis t.kind) → StartsAt (cast D l) (l + 1) t
starts_cast D l x t h =
    starts_at_making _ (starts_at_then (starts_at_token (l + 1) kind.OpenParenthesis t h)
    (example_then (example_type_name (l + 1)) (example_then (example_token (l + 1) kind.CloseParenthesis) x.prefix)))

starts_other : (D : Deeper) (l : ℕ) → Examples D (l + 1) → (t : Placed) → IsTrue (just kind.OpenParenthesis t.kind) → StartsAt (sizeof l or postfix D l) (l + 1) t
starts_other D l x t h =
    starts_at_right _ (starts_at_making _ (starts_at_then
    (starts_at_right _ (starts_at_right _ (starts_at_right _ (starts_at_right _ (starts_at_left _
    (starts_at_making _ (starts_at_then (starts_at_token (l + 1) kind.OpenParenthesis t h)
    (example_then x.comma (example_token (l + 1) kind.CloseParenthesis)))))))))
    (example_empty (empty_many (suffix D l)))))

-- ---- prefix expressions

-- what is no cast and has no sign is read exactly
reads_other : {levels : ℕ} {room : Type 0} (D : Deeper) (l : ℕ) (inner : Option Readers) → Inner levels D l inner room
    → IsRead levels (sizeof l or postfix D l) (by_next (just kind.Sizeof) (read_sizeof inner) (read_postfix inner)) l (just kind.Sizeof ∪ begins_primary) begins_suffix room
unfolding just
reads_other D l inner w =
    reads_wider begins_suffix (λ k h. h)
    (reads_or (reads_sizeof D l inner w) (reads_postfix D l inner w) (apart_by (just kind.Sizeof) begins_primary refl (λ v u. refl)))

-- the kinds that begin what has no sign
abbrev unsigned : Kinds
unsigned = just kind.OpenParenthesis ∪ (just kind.Sizeof ∪ begins_primary)

reads_unsigned : {levels : ℕ} {room : Type 0} (D : Deeper) (l : ℕ) (inner : Option Readers) → Inner levels D l inner room
    → IsRead levels (cast D l or (sizeof l or postfix D l))
    (λ ts. either (cast_is_next ts) (read_cast inner) (by_next (just kind.Sizeof) (read_sizeof inner) (read_postfix inner)) ts)
    l unsigned begins_suffix room
unfolding just
reads_unsigned D l inner w =
    let first = reads_cast D l inner w in
    let other = reads_other D l inner w in
    record {
      shape = shape_or (shape_lower (omega arith) first.shape) other.shape;
      exact = exact_wider begins_suffix (union_within begins_suffix begins_suffix begins_suffix (λ k h. h) (λ k h. h))
          (exact_two (just kind.OpenParenthesis) begins_type kind.Int refl first.exact other.exact first.shape other.shape (λ k h. h)
          (within_by (just kind.OpenParenthesis) (just kind.Sizeof ∪ begins_primary) refl (λ v u. refl))
          (λ s a rest m. chosen_cast D l s a rest m) (λ s a rest m. clear_other D l w.shapes s a rest m) (l + 1)
          (λ r t h. (starts_cast D l (examples_of w r) t h, starts_other D l (examples_of w r) t h)));
    }

-- a prefix expression is read exactly
pub reads_prefix : {levels : ℕ} {room : Type 0} (D : Deeper) (l : ℕ) (inner : Option Readers) → Inner levels D l inner room
    → IsRead levels (prefix D l) (read_prefix inner) l begins_expression begins_suffix room
unfolding read_prefix just
reads_prefix D l inner w =
    reads_kinds begins_expression (within_by prefixes begins_expression refl (λ v u. refl)) (within_by begins_expression prefixes refl (λ v u. refl))
    (reads_wider begins_suffix (union_within begins_suffix begins_suffix begins_suffix (λ k h. h) (λ k h. h))
    (reads_or (reads_lower (omega arith) (reads_signed D l inner w)) (reads_unsigned D l inner w)
    (apart_by (tells prefix_told) unsigned refl (λ v u. refl))))
