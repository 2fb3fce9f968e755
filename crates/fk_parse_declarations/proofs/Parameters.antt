-- Parameters, up to their closing parenthesis, are read exactly.
use Rattle.std.proofs.Common.{◌≡◌, ℕ, ◌≤◌, List, [], ◌∷◌, ◌++◌, Option, Some, None, Bool, true, false, ◌&&◌, IsTrue, Ok, inl, inr, refl}
use Rattle.fk_syntax.specs.Tree.{BaseType, Void}
use Rattle.fk_syntax.specs.Program.{DeclaredTree}
use Rattle.fk_lex.specs.declared.token.TokenKind.TheVariants as kind
use Rattle.fk_parse_combinators.specs.Languages.{Placed, Marked, Stretch, tokens_of, Language, token, telling, ◌then◌, ◌or◌, making, many, maybe}
use Rattle.fk_expr.specs.Grammar.{base}
use Rattle.fk_parse_combinators.specs.Readers.{Reader, after, giving, ◌and◌, next_is, tells, either, by_next, expect}
use Rattle.fk_parse_combinators.proofs.SameKind.{other_kind, same_just}
use Rattle.fk_parse_combinators.proofs.Sets.{Kinds, none, ◌∪◌, none_apart, Apart, apart-false, within_itself, union_within}
use Rattle.fk_parse_combinators.proofs.EachKind.{apart_by, within_by}
use Rattle.fk_parse_combinators.proofs.Exact.{Fronts, Example, Shape}
use Rattle.fk_parse_combinators.proofs.Stretches.{tokens_regroup}
use Rattle.fk_parse_combinators.proofs.Token.{some_token}
use Rattle.fk_parse_combinators.proofs.Shapes.{shape_or}
use Rattle.fk_parse_combinators.proofs.Then.{follows_shape}
use Rattle.fk_parse_combinators.proofs.Many.{empty, stay, empty_at}
use Rattle.fk_parse_combinators.proofs.Or.{Includes}
use Rattle.fk_parse_combinators.proofs.TwoTokens.{two, StartsAt, exact_two}
use Rattle.fk_parse_combinators.proofs.Productions.{IsRead, IsLooselyRead, reads_token, reads_making, reads_then, reads_loose_then, reads_or, reads_kinds, reads_wider}
use Rattle.fk_parse_declarations.specs.Kinds.{sharing_told}
use Rattle.fk_parse_declarations.specs.Grammar.{separated, parameter, parameters}
use Rattle.fk_parse_declarations.specs.Reading.{read_separated, read_parameter, read_parameters, begins_parameter, void_is_next}
use Rattle.fk_parse_declarations.proofs.Alike.{reads_same, reads_like, either_and}
use Rattle.fk_parse_declarations.proofs.Declarations.{reads_separated, reads_parameter, starred, reads_stars}
use Rattle.fk_parse_combinators.specs.Kinds.{just}

-- ---- nothing

-- nothing is read exactly by what reads nothing
pub reads_nothing : {levels : ℕ} {room : Type 0} {A : Type 0} (v : A) (l : ℕ) → IsLooselyRead levels (empty v) (stay v) l none none room
reads_nothing v l = record {
  shape = record {
    fronts = λ s a e. inl e.0;
    starts = λ r t h. absurd (cc);
    empty = λ r. record { value = v; spelled = (refl, refl) };
  };
  exact = record { exact = λ most. empty_at most v };
}

-- ---- a parameter isn't `void` alone

-- what doesn't begin with `void`
no_void : {first : Kinds} {level : ℕ} (s : Stretch) (rest : List Placed) → Fronts first level s → Apart (just kind.Void) first
    → two (just kind.Void) (just kind.CloseParenthesis) (tokens_of s ++ rest) ≡ false
no_void {first} s rest w apart = rw (w.is, apart-false (just kind.Void) first apart w.front.token.kind w.kind) refl

-- what isn't both
pub and-false : (b : Bool) → (b && false) ≡ false
and-false true = refl
and-false false = refl

-- the first words of a type, where no parenthesis is closed behind them
base_two : (l : ℕ) (s : Stretch) (b : BaseType) (rest : List Placed) → base l s b → next_is (just kind.CloseParenthesis) rest ≡ false
    → two (just kind.Void) (just kind.CloseParenthesis) (tokens_of s ++ rest) ≡ false
unfolding just
base_two l s b rest (inl x) ends = rw (x.1.0, other_kind (just kind.Void) kind.Int x.0.kind x.1.1 refl) refl
base_two l s b rest (inr (inl x)) ends =
    rw (x.1.2, x.1.3.0, other_kind (just kind.Void) kind.Unsigned x.0.0.kind x.1.3.1 refl) refl
base_two l s b rest (inr (inr (inl x))) ends = rw (x.1.0, ends) (and-false (just kind.Void x.0.kind))
base_two l s b rest (inr (inr (inr x))) ends =
    rw (x.1.2, x.1.3.0, other_kind (just kind.Void) kind.Struct x.0.0.kind x.1.3.1 refl) refl

-- stars and a name
abbrev pub starred_name : ℕ → Language (List Placed × Placed)
starred_name l = many (token l kind.Star) then token l kind.Word

-- they begin with a star or the name
shape_starred : (levels : ℕ) (l : ℕ) → l ≤ levels → Shape (starred_name l) l starred (Unit {0})
unfolding just
shape_starred levels l h = (reads_loose_then (reads_stars l h) (reads_token l kind.Word h) (apart_by (none ∪ just kind.Star) (just kind.Word) refl (λ v u. refl))).shape

-- no kind comes next
pub next_none : (ts : List Placed) → next_is none ts ≡ false
next_none [] = refl
next_none (t ∷ ts) = refl

-- nor is what begins with the first words of a type, its stars and a name
typed_two : (levels : ℕ) (l : ℕ) → l ≤ levels → (s : Stretch) (x : BaseType × (List Placed × Placed)) (rest : List Placed) → (base l then starred_name l) s x
    → two (just kind.Void) (just kind.CloseParenthesis) (tokens_of s ++ rest) ≡ false
unfolding just
typed_two levels l h s x rest m =
    let ends = follows_shape (just kind.CloseParenthesis) none (shape_starred levels l h) (apart_by (just kind.CloseParenthesis) starred refl (λ v u. refl)) m.1 x.1 rest m.4 (next_none rest) in
    rw (m.2, tokens_regroup m.0 m.1 rest) (base_two l m.0 x.0 (tokens_of m.1 ++ rest) m.3 ends)

-- nor is a parameter
parameter_two : (levels : ℕ) (l : ℕ) → l ≤ levels → (s : Stretch) (d : DeclaredTree) (rest : List Placed) → parameter l s d
    → two (just kind.Void) (just kind.CloseParenthesis) (tokens_of s ++ rest) ≡ false
unfolding just
parameter_two levels l h s d rest p = by p.0.0 p.1.0 p.1.1 p.1.2 p.1.3 p.1.4
  where
    by : (o : Option (Placed × Bool)) (front back : Stretch) → s ≡ front ++ back → maybe (telling l sharing_told) front o → (base l then starred_name l) back p.0.1
        → two (just kind.Void) (just kind.CloseParenthesis) (tokens_of s ++ rest) ≡ false
    by None front back is none m = rw (is, none) (typed_two levels l h back p.0.1 rest m)
    by (Some x) front back is one m =
        rw (is, one.0, apart-false (just kind.Void) (tells sharing_told) (apart_by (just kind.Void) (tells sharing_told) refl (λ v u. refl)) x.0.kind (rw one.1 refl)) refl

-- nor is a list of them
separated_two : (levels : ℕ) (l : ℕ) → l ≤ levels → (s : Stretch) (list : List DeclaredTree) (rest : List Placed) → separated l (parameter l) s list
    → two (just kind.Void) (just kind.CloseParenthesis) (tokens_of s ++ rest) ≡ false
separated_two levels l h s list rest p =
    let m = p.1 in
    rw (m.2, tokens_regroup m.0 m.1 rest) (parameter_two levels l h m.0 p.0.0 (tokens_of m.1 ++ rest) m.3)

-- ---- `void`, parameters or nothing, before a closing parenthesis

-- `void`, which leaves no trace
abbrev voids : ℕ → Language (List DeclaredTree)
voids l = making (λ t. []) (token l kind.Void)

-- the three, each with what comes behind it
abbrev cases : {B : Type 0} → ℕ → Language B → Language (List DeclaredTree × B)
cases l M = voids l then M or separated l (parameter l) then M or empty [] then M

-- they are the grammar's parameters
cases_there : {B : Type 0} (l : ℕ) (M : Language B) → Includes (cases l M) (parameters l then M)
cases_there l M s x (inl m) = (m.0, m.1, m.2, inl (Some m.3.0, m.3.1, m.3.2), m.4)
cases_there l M s x (inr (inl m)) = (m.0, m.1, m.2, inr m.3, m.4)
cases_there l M s x (inr (inr m)) = (m.0, m.1, m.2, inl (None, m.3.0, m.3.1), m.4)

-- and the grammar's parameters are of the three
cases_back : {B : Type 0} (l : ℕ) (M : Language B) → Includes (parameters l then M) (cases l M)
cases_back {B} l M s x m = by m.3
  where
    by : parameters l m.0 x.0 → cases l M s x
    by (inl (None, e, v)) = inr (inr (m.0, m.1, m.2, (e, v), m.4))
    by (inl (Some t, k, v)) = inl (m.0, m.1, m.2, (t, k, v), m.4)
    by (inr p) = inr (inl (m.0, m.1, m.2, p, m.4))

-- a token `void` begins the one before a parenthesis, and a parameter with a name
void_starts : {B : Type 0} (l : ℕ) (M : Language B) (t : Placed) → IsTrue (just kind.Void t.kind) → Example M
    → StartsAt (voids l then M) l t × StartsAt (separated l (parameter l) then M or empty [] then M) l t
void_starts l M t h x = (
  record { others = x.stretch; value = ([], x.value); spelled = (mark ∷ [], x.stretch, refl, (t, (refl, same_just kind.Void t.kind h), refl), x.spelled) },
  record { others = word ∷ x.stretch; value = (one.0 ∷ [], x.value); spelled = inl (mark ∷ word ∷ [], x.stretch, refl, ((one.0, []), (mark ∷ word ∷ [], [], refl, one.1, refl), refl), x.spelled) },
)
  where
    mark : Marked
    mark = record { token = t; level = l }

    word : Marked
    word = record { token = some_token kind.Word; level = l }

    one : (d : DeclaredTree) × parameter l (record { token = t; level = l } ∷ record { token = some_token kind.Word; level = l } ∷ []) d
    one = (
      _,
      (
        (None, (Void, ([], some_token kind.Word))),
        (
          [],
          mark ∷ word ∷ [],
          refl,
          refl,
          (mark ∷ [], word ∷ [], refl, inr (inr (inl (t, (refl, same_just kind.Void t.kind h), refl))), ([], word ∷ [], refl, refl, (refl, refl))),
        ),
        refl,
      ),
    )

-- the first is read exactly
reads_voids : {levels : ℕ} {room : Type 0} {B : Type 0} {M : Language B} {Q : Reader B} {l : ℕ} {g : Kinds} → l ≤ levels → IsRead levels M Q l (just kind.CloseParenthesis) g room
    → IsRead levels (voids l then M) (giving (λ t. []) (expect kind.Void) and Q) l (just kind.Void) g room
reads_voids {l = l} h w = reads_then (reads_making _ (reads_token l kind.Void h)) w (none_apart (just kind.CloseParenthesis))

-- what begins parameters, or a closing parenthesis
abbrev pub begins_parameters : Kinds
begins_parameters = begins_parameter ∪ just kind.CloseParenthesis

-- the second and the third are read exactly
reads_others : {levels : ℕ} {room : Type 0} {B : Type 0} {M : Language B} {Q : Reader B} {l : ℕ} {g : Kinds} → l ≤ levels → IsRead levels M Q l (just kind.CloseParenthesis) g room
    → IsRead levels (separated l (parameter l) then M or empty [] then M)
    (by_next begins_parameter (read_separated read_parameter and Q) (stay [] and Q)) l begins_parameters g room
unfolding just
reads_others {l = l} {g = g} h w =
    reads_kinds begins_parameters (within_by (begins_parameter ∪ (none ∪ just kind.CloseParenthesis)) begins_parameters refl (λ v u. refl))
    (within_by begins_parameters (begins_parameter ∪ (none ∪ just kind.CloseParenthesis)) refl (λ v u. refl))
    (reads_wider g (union_within g g g (within_itself g) (within_itself g))
    (reads_or (reads_then (reads_separated h (reads_parameter l h) (none_apart (just kind.Comma))) w (apart_by (none ∪ just kind.Comma) (just kind.CloseParenthesis) refl (λ v u. refl)))
    (reads_loose_then (reads_nothing [] l) w (none_apart (just kind.CloseParenthesis)))
    (apart_by begins_parameter (none ∪ just kind.CloseParenthesis) refl (λ v u. refl))))

-- the two tokens tell the first from the others
chooses : {room : Type 0} {B : Type 0} {M : Language B} {l : ℕ} → Shape M l (just kind.CloseParenthesis) room
    → (s : Stretch) (x : List DeclaredTree × B) (rest : List Placed) → (voids l then M) s x → IsTrue (two (just kind.Void) (just kind.CloseParenthesis) (tokens_of s ++ rest))
unfolding just
chooses shape s x rest m =
    let back : Fronts (just kind.CloseParenthesis) _ m.1 = shape.fronts m.1 x.1 m.4 in
    rw (m.2, m.3.1.0, m.3.1.1, back.is, back.kind) refl

-- of the others they say no
clears : (levels : ℕ) {room : Type 0} {B : Type 0} {M : Language B} {l : ℕ} → l ≤ levels → Shape M l (just kind.CloseParenthesis) room
    → (s : Stretch) (x : List DeclaredTree × B) (rest : List Placed) → (separated l (parameter l) then M or empty [] then M) s x
    → two (just kind.Void) (just kind.CloseParenthesis) (tokens_of s ++ rest) ≡ false
unfolding just
clears levels {l = l} h shape s x rest (inl m) = rw (m.2, tokens_regroup m.0 m.1 rest) (separated_two levels l h m.0 x.0 (tokens_of m.1 ++ rest) m.3)
clears levels h shape s x rest (inr m) =
    rw (m.2, m.3.0) (no_void m.1 rest (shape.fronts m.1 x.1 m.4) (apart_by (just kind.Void) (just kind.CloseParenthesis) refl (λ v u. refl)))

-- what is read behind parameters is read behind each of the three
parameters_and : {B : Type 0} (b : Bool) (V P N : Reader (List DeclaredTree)) (Q : Reader B) (ts : List Placed)
    → either b (V and Q) (by_next begins_parameter (P and Q) (N and Q)) ts
    ≡ after {B = List DeclaredTree × B} (either b V (by_next begins_parameter P N) ts) (λ a rest. after (Q rest) (λ v others. Ok ((a, v), others)))
parameters_and true V P N Q ts = refl
parameters_and false V P N Q ts = either_and (next_is begins_parameter ts) P N Q ts

-- parameters are read exactly, up to what begins with a closing parenthesis
pub reads_parameters : {levels : ℕ} {room : Type 0} {B : Type 0} {M : Language B} {Q : Reader B} {l : ℕ} {g : Kinds} → l ≤ levels → IsRead levels M Q l (just kind.CloseParenthesis) g room
    → IsRead levels (parameters l then M) (read_parameters and Q) l begins_parameters g room
unfolding read_parameters just
reads_parameters {levels} {M = M} {Q = Q} {l = l} {g = g} h w =
    let v = reads_voids h w in
    let q = reads_others h w in
    reads_like (read_parameters and Q)
    (λ ts. parameters_and (void_is_next ts) (giving (λ t. []) (expect kind.Void)) (read_separated read_parameter) (stay []) Q ts)
    (reads_same (parameters l then M) (cases_there l M) (cases_back l M)
    (reads_kinds begins_parameters (within_by (just kind.Void ∪ begins_parameters) begins_parameters refl (λ v u. refl))
    (within_by begins_parameters (just kind.Void ∪ begins_parameters) refl (λ v u. refl))
    (reads_wider g (union_within g g g (within_itself g) (within_itself g))
    (record {
      shape = shape_or v.shape q.shape;
      exact = exact_two (just kind.Void) (just kind.CloseParenthesis) kind.CloseParenthesis refl v.exact q.exact v.shape q.shape
          (within_itself (just kind.Void)) (within_by (just kind.Void) begins_parameters refl (λ v u. refl))
          (chooses w.shape) (clears levels h w.shape) l (λ r t k. void_starts l M t k (w.shape.example r));
    }))))
