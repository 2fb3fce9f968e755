-- Stretches one after the other: their tokens, their levels, and what has to be answered of them.
use Rattle.std.proofs.Common.{ℕ, ◌≡◌, ◌+◌, ◌≤◌, ◌<◌, List, [], ◌∷◌, ◌++◌, Bool, true, false, Ok, Err, length, nat_le, cond, ◌⊎◌, inl, inr, refl, sym, ap, ◌∙◌, subst, append_assoc, arith, length-append, le-leb, le_refl}
use Rattle.std.proofs.lemmas.Bool.{lt-leb}
use Rattle.std.proofs.lemmas.List.{map-append, length-map}
use Rattle.std.proofs.lemmas.List.Elements.{All-append, All-nil, All-cons, All-head, All-tail}
use Rattle.fk_parse_combinators.specs.Languages.{Placed, Marked, Stretch, tokens_of}
use Rattle.fk_parse_combinators.specs.Reads.{Answer, Unexpected, EndOfText, Nesting}
use Rattle.fk_parse_combinators.specs.Readers.{Reader, after}
use Rattle.fk_parse_combinators.proofs.Exact.{StaysWithin, Closes, Stands, Local, from_deep, settled_by, settled}

-- ---- tokens

-- the tokens of two stretches
pub tokens-append : (s t : Stretch) → tokens_of (s ++ t) ≡ tokens_of s ++ tokens_of t
tokens-append s t = map-append (λ m. m.token) s t

pub tokens_regroup : (s t : Stretch) (rest : List Placed) → tokens_of (s ++ t) ++ rest ≡ tokens_of s ++ (tokens_of t ++ rest)
tokens_regroup s t rest = rw (tokens-append s t, append_assoc (tokens_of s) (tokens_of t) rest) refl

-- how many they are
pub length-tokens : (s : Stretch) (rest : List Placed) → length (tokens_of s ++ rest) ≡ length s + length rest
length-tokens s rest = length-append (tokens_of s) rest ∙ ap (λ n. n + length rest) (length-map s (λ m. m.token))

-- ---- two lists that are one

-- a list that is cut twice: the second cut comes no later than the first, or it comes later
pub twice : (xs us ys vs : List Placed) → xs ++ us ≡ ys ++ vs
    → ((between : List Placed) × (xs ≡ ys ++ between) × (vs ≡ between ++ us)) ⊎ ((x : Placed) × (between : List Placed) × (ys ≡ xs ++ x ∷ between) × (us ≡ x ∷ (between ++ vs)))
twice xs us [] vs e = inl (xs, refl, sym e)
twice [] us (y ∷ ys) vs e = inr (y, ys, refl, e)
twice (x ∷ xs) us (y ∷ ys) vs e =
    elim (twice xs us ys vs (cc)) [
      | inl w ↦ inl (w.0, let tail = w.1 in cc, w.2)
      | inr w ↦ inr (w.0, w.1, let tail = w.2 in cc, w.3)
    ]

-- no cut of nothing
pub nil_cut : {C : Type 0} (front : List Placed) (x : Placed) (rest : List Placed) → [] ≡ front ++ x ∷ rest → C
nil_cut [] x rest e = absurd (cc)
nil_cut (y ∷ front) x rest e = absurd (cc)

-- the same token comes first, whatever is put behind a later cut
pub same_head : (x : Placed) (r front : List Placed) (y : Placed) (rest : List Placed) → x ∷ r ≡ front ++ y ∷ rest
    → (others : List Placed) → (back : List Placed) × (front ++ y ∷ others ≡ x ∷ back)
same_head x r [] y rest e others = (others, cc)
same_head x r (z ∷ front) y rest e others = (front ++ y ∷ others, cc)

-- ---- levels

-- stretches that are shallow
pub shallow-append : (levels : ℕ) (s t : Stretch) → StaysWithin levels s → StaysWithin levels t → StaysWithin levels (s ++ t)
shallow-append levels s t h k = All-append (λ m. m.level ≤ levels) s t h k

pub shallow-nil : (levels : ℕ) → StaysWithin levels []
shallow-nil levels = All-nil (λ m. m.level ≤ levels)

pub shallow-one : (levels : ℕ) (m : Marked) → m.level ≤ levels → StaysWithin levels (m ∷ [])
shallow-one levels m h = All-cons (λ m. m.level ≤ levels) m [] h (shallow-nil levels)

-- no token of a shallow stretch is past the bound
pub from_deep-shallow : (levels : ℕ) (s : Stretch) → StaysWithin levels s → from_deep levels s ≡ []
from_deep-shallow levels [] h = refl
from_deep-shallow levels (m ∷ s) h =
    rw (le-leb m.level levels (All-head (λ m. m.level ≤ levels) m s h)) (from_deep-shallow levels s (All-tail (λ m. m.level ≤ levels) m s h))

-- what is past the bound comes behind what is shallow
pub from_deep-skip : (levels : ℕ) (s t : Stretch) → StaysWithin levels s → from_deep levels (s ++ t) ≡ from_deep levels t
from_deep-skip levels [] t h = refl
from_deep-skip levels (m ∷ s) t h =
    rw (le-leb m.level levels (All-head (λ m. m.level ≤ levels) m s h)) (from_deep-skip levels s t (All-tail (λ m. m.level ≤ levels) m s h))

-- it is no longer than the whole
length-from_deep_step : (levels : ℕ) (b : Bool) (m : Marked) (s : Stretch) → length (from_deep levels s) ≤ length s → length (cond b (from_deep levels s) (m ∷ s)) ≤ length (m ∷ s)
length-from_deep_step levels true m s h = omega (arith, h)
length-from_deep_step levels false m s h = le_refl (length (m ∷ s))

pub length-from_deep : (levels : ℕ) (s : Stretch) → length (from_deep levels s) ≤ length s
length-from_deep levels [] = le_refl 0
length-from_deep levels (m ∷ s) = length-from_deep_step levels (nat_le m.level levels) m s (length-from_deep levels s)

-- a token past the bound comes first
pub from_deep-past : (levels : ℕ) (m : Marked) (s : Stretch) → levels < m.level → from_deep levels (m ∷ s) ≡ m ∷ s
from_deep-past levels m s past = rw (lt-leb m.level levels past) refl

-- a bound on the levels of a stretch
abbrev pub sum_of_levels : Stretch → ℕ
sum_of_levels [] = 0
sum_of_levels (m ∷ s) = m.level + sum_of_levels s

pub within_sum : (levels : ℕ) (s : Stretch) → sum_of_levels s ≤ levels → StaysWithin levels s
within_sum levels [] h = shallow-nil levels
within_sum levels (m ∷ s) h = All-cons (λ m. m.level ≤ levels) m s (omega arith) (within_sum levels s (omega arith))

-- ---- what has to be answered

-- what is made of an answer
pub settled_giving : (levels : ℕ) {A B : Type 0} (f : A → B) (s : Stretch) (a : A) (rest : List Placed) (answer : Answer A)
    → answer ≡ settled levels s a rest → after {B = B} answer (λ v others. Ok (f v, others)) ≡ settled levels s (f a) rest
settled_giving levels {A} {B} f s a rest answer e = rw e (by (from_deep levels s))
  where
    by : (t : Stretch) → after {B = B} (settled_by t a rest) (λ v others. Ok (f v, others)) ≡ settled_by t (f a) rest
    by [] = refl
    by (m ∷ t) = refl

-- one stretch after another
settled_step : (levels : ℕ) {A B : Type 0} (is_shallow : Bool) (m : Marked) (s t : Stretch) (a : A) (b : B) (rest : List Placed) (Q : Reader B)
    → after {B = A × B} (settled levels s a (tokens_of t ++ rest)) (λ v others. after (Q others) (λ w more. Ok ((v, w), more))) ≡ settled levels (s ++ t) (a, b) rest
    → after {B = A × B} (settled_by (cond is_shallow (from_deep levels s) (m ∷ s)) a (tokens_of t ++ rest)) (λ v others. after (Q others) (λ w more. Ok ((v, w), more)))
    ≡ settled_by (cond is_shallow (from_deep levels (s ++ t)) (m ∷ (s ++ t))) (a, b) rest
settled_step levels true m s t a b rest Q e = e
settled_step levels false m s t a b rest Q e = rw (tokens_regroup s t rest) refl

-- of one stretch after another both are answered, or the first token that nests too deep
pub settled_then : (levels : ℕ) {A B : Type 0} (s t : Stretch) (a : A) (b : B) (rest : List Placed) (Q : Reader B) → Q (tokens_of t ++ rest) ≡ settled levels t b rest
    → after {B = A × B} (settled levels s a (tokens_of t ++ rest)) (λ v others. after (Q others) (λ w more. Ok ((v, w), more))) ≡ settled levels (s ++ t) (a, b) rest
settled_then levels [] t a b rest Q e = settled_giving levels (λ w. (a, w)) t b rest (Q (tokens_of t ++ rest)) e
settled_then levels (m ∷ s) t a b rest Q e = settled_step levels (nat_le m.level levels) m s t a b rest Q (settled_then levels s t a b rest Q e)

-- a token of a stretch that is read is never unexpected
pub settled_read : (levels : ℕ) {A : Type 0} (s : Stretch) (a : A) (rest others : List Placed) → settled levels s a rest ≡ Err (Unexpected others) → ⊥
settled_read levels {A} s a rest others e = by (from_deep levels s) e
  where
    by : (t : Stretch) → settled_by t a rest ≡ Err (Unexpected others) → ⊥
    by [] e = cc
    by (m ∷ t) e = cc

-- ---- what an answer rests on

-- what is made of an answer rests on as many tokens, if a reader stops at each token at which the other does
pub local_made : {A B : Type 0} (f : A → B) (most less : ℕ) (P : Reader A) (R : Reader B) (ts us : List Placed)
    → ((x : Placed) (rest : List Placed) (answer : List Placed → Answer A) → Stands most P ts x rest answer → Stands less R us x rest (λ z. after (answer z) (λ a others. Ok (f a, others))))
    → (Closes most P ts → Closes less R us)
    → (answer : Answer A) → Local most P ts answer → Local less R us (after answer (λ a others. Ok (f a, others)))
local_made f most less P R ts us stands closes (Ok (a, [])) w = closes w
local_made f most less P R ts us stands closes (Ok (a, x ∷ rest)) w = stands x rest (λ z. Ok (a, z)) w
local_made f most less P R ts us stands closes (Err (Unexpected [])) w = w
local_made f most less P R ts us stands closes (Err (Unexpected (x ∷ rest))) w = stands x rest (λ z. Err (Unexpected z)) w
local_made f most less P R ts us stands closes (Err EndOfText) w = tt
local_made f most less P R ts us stands closes (Err (Nesting [])) w = w
local_made f most less P R ts us stands closes (Err (Nesting (x ∷ rest))) w = stands x rest (λ z. Err (Nesting z)) w

after_same : {A : Type 0} (answer : Answer A) → after answer (λ a rest. Ok (a, rest)) ≡ answer
after_same (Ok x) = refl
after_same (Err stop) = refl

-- so does the same answer of another reader
pub local_by : {A : Type 0} (most less : ℕ) (P R : Reader A) (ts us : List Placed)
    → ((x : Placed) (rest : List Placed) (answer : List Placed → Answer A) → Stands most P ts x rest answer → Stands less R us x rest answer)
    → (Closes most P ts → Closes less R us) → (answer : Answer A) → Local most P ts answer → Local less R us answer
local_by most less P R ts us stands closes answer w =
    subst (λ z. Local less R us z) (after_same answer)
    (local_made (λ a. a) most less P R ts us
    (λ x rest form v. let s = stands x rest form v in record { front = s.front; is = s.is; stays = λ others h. s.stays others h ∙ sym (after_same (form (x ∷ others))) })
    closes answer w)
