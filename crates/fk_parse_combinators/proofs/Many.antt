-- One or nothing, and any number: how they are read.
use Rattle.std.proofs.Common.{◌≡◌, ℕ, zero, suc, ◌≤◌, List, [], ◌∷◌, ◌++◌, Option, Some, None, Bool, true, false, Ok, Err, length, inl, inr, refl, sym, ap, ◌∙◌, subst, arith, length-append, le_refl}
use Rattle.fk_parse_combinators.specs.Languages.{Placed, tokens_of, Language, ◌then◌, ◌or◌, making, many, maybe}
use Rattle.fk_parse_combinators.specs.Reads.{Unexpected, Answer}
use Rattle.fk_parse_combinators.specs.Readers.{Reader, after, giving, ◌and◌, next_is, either, optional, repeated_within, repeated}
use Rattle.fk_parse_combinators.proofs.Sets.{Kinds, none, ◌∪◌, Apart, next-union, within_left, within_itself}
use Rattle.fk_parse_combinators.proofs.Exact.{Example, Shape, Sound, Stands, Local, IsSound, IsComplete, IsLocal, ExactAt, Exact}
use Rattle.fk_parse_combinators.proofs.Stretches.{length-tokens, shallow-nil, local_by}
use Rattle.fk_parse_combinators.proofs.Shapes.{shape_making, shape_then, loose_many, example_empty, empty_many}
use Rattle.fk_parse_combinators.proofs.Then.{Spends, Follows, follows_loose, leaves_by, after_err, giving_at, then_at, exact_making}
use Rattle.fk_parse_combinators.proofs.Or.{Includes, same_at, IsWelcome, or_at, exact_or_by, exact_same, welcome}

-- ---- nothing

-- nothing, which spells a value
abbrev pub empty : {A : Type 0} → A → Language A
empty v s a = (s ≡ []) × (a ≡ v)

-- it reads nothing
abbrev pub stay : {A : Type 0} → A → Reader A
stay v ts = Ok (v, ts)

pub empty_at : {levels : ℕ} {room : Type 0} {A : Type 0} (most : ℕ) (v : A) → ExactAt levels most (empty v) (stay v) none room
empty_at {levels} {room} {A} most v = record {
  sound = λ r ts fits. record { stretch = []; is = refl; spelled = (refl, refl); shallow = shallow-nil levels };
  complete = λ s a rest l fits ends. rw (l.0, l.1) refl;
  local = λ r. local;
}
  where
    local : IsLocal most (stay v)
    local [] fits = λ x others h e. cc
    local (t ∷ ts) fits = record { front = []; is = refl; stays = λ others h. refl }

follows_empty : {A : Type 0} (v : A) (f is : Kinds) → Follows is (empty v) (f ∪ is)
follows_empty v f is s a rest l ends = rw l.0 (next-union f is rest ends).1

-- ---- one or nothing

-- one or nothing is read exactly
pub exact_maybe : {levels : ℕ} {room : Type 0} {A : Type 0} {L : Language A} {level : ℕ} {is : Kinds} {P : Reader A} {f : Kinds} → Exact levels L P f room → Shape L level is room
    → Exact levels (maybe L) (optional is P) (f ∪ is) room
exact_maybe {room} {A} {L} {level} {is} {P} {f} p shape =
    exact_same (maybe L) there back
    (exact_or_by (f ∪ is)
    (exact_making Some p)
    (record { exact = λ most. empty_at most None })
    (shape_making Some shape)
    (follows_empty None f is) (within_left f is) (λ k h. cc))
  where
    there : Includes (making {B = Option A} Some L or empty None) (maybe L)
    there s o (inl l) = rw l.2 l.1
    there s o (inr l) = rw l.1 l.0

    back : Includes (maybe L) (making Some L or empty None)
    back s None l = inr (l, refl)
    back s (Some a) l = inl (a, l, refl)

-- ---- any number

spends_one : {room : Type 0} {A : Type 0} (L : Language A) (level : ℕ) (first : Kinds) → Shape L level first room → (n : ℕ) → Spends L (suc n) n
spends_one L level first shape n s a l = let w = shape.fronts s a l in omega (arith, ap length w.is)

-- a token that begins the first of two isn't unexpected
then_welcome : (levels : ℕ) {room : Type 0} {A B : Type 0} (n : ℕ) (L : Language A) (level : ℕ) (first is : Kinds) (P : Reader A) (Q : Reader B)
    → Shape L level first room → IsSound levels (suc n) L P → IsLocal n Q → IsWelcome (suc n) is P → IsWelcome (suc n) is (P and Q)
then_welcome levels {room} {A} {B} n L level first is P Q shape p q welcomes x others h fits u = by (P (x ∷ others)) refl (p (x ∷ others) fits) u
  where
    by : (answer : Answer A) → P (x ∷ others) ≡ answer → Sound levels L (x ∷ others) answer
        → after {B = A × B} answer (λ a rest. after (Q rest) (λ b more. Ok ((a, b), more))) ≡ Err (Unexpected (x ∷ others)) → ⊥
    by (Err stop) e w u = welcomes x others h fits cc
    by (Ok (a, rest)) e w u =
        let front = shape.fronts w.stretch a w.spelled in
        let shorter : length rest ≤ length others = omega (arith, ap length w.is, length-tokens w.stretch rest, ap length front.is) in
        let less : length rest ≤ n = omega arith in
        let stop : Q rest ≡ Err (Unexpected (x ∷ others)) = after_err (Q rest) (λ b. (a, b)) (Unexpected (x ∷ others)) u in
        let stands : Stands n Q rest x others (λ z. Err (Unexpected z)) = subst (λ answer. Local n Q rest answer) stop (q rest less) in
        absurd (omega (arith, ap length stands.is, length-append stands.front (x ∷ others)))

abbrev joined_to : {A : Type 0} → A × List A → List A
joined_to x = x.0 ∷ x.1

many_there : {A : Type 0} (L : Language A) → Includes (making joined_to (L then many L) or empty []) (many L)
many_there L s list (inl l) = rw l.2 l.1
many_there L s list (inr l) = rw l.1 l.0

many_back : {A : Type 0} (L : Language A) → Includes (many L) (making joined_to (L then many L) or empty [])
many_back L s [] l = inr (l, refl)
many_back L s (a ∷ list) l = inl ((a, list), l, refl)

repeated_none : {levels : ℕ} {room : Type 0} {A : Type 0} (L : Language A) (level : ℕ) (is : Kinds) (P : Reader A) (f : Kinds)
    → Shape L level is room → ExactAt levels zero (many L) (repeated_within zero is P) (f ∪ is) room
repeated_none {levels} {room} {A} L level is P f shape = record {
  sound = λ r ts fits. record { stretch = []; is = refl; spelled = refl; shallow = shallow-nil levels };
  complete = complete;
  local = λ r. local;
}
  where
    complete : IsComplete levels zero (many L) (repeated_within zero is P) (f ∪ is)
    complete s [] rest l fits ends = rw l refl
    complete s (a ∷ list) rest l fits ends =
        let w = shape.fronts l.0 a l.3 in
        absurd (omega (arith, length-tokens s rest, ap length l.2, ap length w.is, length-append l.0 l.1))

    local : IsLocal zero (repeated_within zero is P)
    local [] fits = λ x others h e. cc
    local (t ∷ ts) fits = absurd (omega arith)

repeated_more : {levels : ℕ} {room : Type 0} {A : Type 0} (n : ℕ) (L : Language A) (level : ℕ) (is : Kinds) (P : Reader A) (f : Kinds)
    → ExactAt levels (suc n) L P f room → Shape L level is room → (room → IsWelcome (suc n) is P) → Apart f is → ExactAt levels n (many L) (repeated_within n is P) (f ∪ is) room
    → ExactAt levels (suc n) (many L) (repeated_within (suc n) is P) (f ∪ is) room
repeated_more {levels} {room} {A} n L level is P f p shape welcomes apart q =
    same_at (suc n) (making joined_to (L then many L) or empty []) (many L) (repeated_within (suc n) is P) (f ∪ is) (many_there L) (many_back L)
    (or_at (suc n) (making joined_to (L then many L)) (empty []) level is (giving joined_to (P and repeated_within n is P)) (stay []) (f ∪ is) none (f ∪ is)
    (giving_at joined_to (suc n) (L then many L) (P and repeated_within n is P) (f ∪ is) both)
    (empty_at (suc n) [])
    (shape_making joined_to (shape_then shape (λ r. none_yet)))
    (λ r x others h fits e. then_welcome levels n L level is is P (repeated_within n is P) shape (p.sound r) (q.local r) (welcomes r) x others h fits
    (after_err ((P and repeated_within n is P) (x ∷ others)) joined_to (Unexpected (x ∷ others)) e))
    (follows_empty [] f is) (within_itself (f ∪ is)) (λ k h. cc))
  where
    none_yet : Example (many L)
    none_yet = example_empty (empty_many L)

    both : ExactAt levels (suc n) (L then many L) (P and repeated_within n is P) (f ∪ is) room
    both = then_at (suc n) n L (many L) P (repeated_within n is P) f (f ∪ is) (f ∪ is) p q (spends_one L level is shape n)
        (follows_loose f (f ∪ is) (loose_many shape) apart (within_left f is))
        (within_itself (f ∪ is)) (λ r. none_yet)

repeated_at : {levels : ℕ} {room : Type 0} {A : Type 0} {L : Language A} {level : ℕ} {is : Kinds} {P : Reader A} {f : Kinds} (n : ℕ)
    → Exact levels L P f room → Shape L level is room → Apart f is → ExactAt levels n (many L) (repeated_within n is P) (f ∪ is) room
repeated_at {L = L} {level} {is} {P} {f} zero p shape apart = repeated_none L level is P f shape
repeated_at {L = L} {level} {is} {P} {f} (suc n) p shape apart =
    repeated_more n L level is P f (p.exact (suc n)) shape (λ r. welcome shape p r (suc n)) apart (repeated_at n p shape apart)

-- of so many tokens two readers answer the same
abbrev IsSame : {A : Type 0} → ℕ → Reader A → Reader A → Type 0
IsSame most P Q = (ts : List Placed) → length ts ≤ most → Q ts ≡ P ts

same_more : (levels : ℕ) {room : Type 0} {A : Type 0} (n m : ℕ) (L : Language A) (level : ℕ) (is : Kinds) (P : Reader A) → IsSound levels (suc n) L P → Shape L level is room
    → IsSame n (repeated_within n is P) (repeated_within m is P) → IsSame (suc n) (repeated_within (suc n) is P) (repeated_within (suc m) is P)
same_more levels {A = A} n m L level is P p shape same ts fits = by (next_is is ts)
  where
    both : (answer : Answer A) → P ts ≡ answer
        → after {B = A × List A} answer (λ a rest. after (repeated_within m is P rest) (λ b others. Ok ((a, b), others)))
        ≡ after answer (λ a rest. after (repeated_within n is P rest) (λ b others. Ok ((a, b), others)))
    both (Ok (a, rest)) e = rw (same rest (leaves_by levels (suc n) n L P (spends_one L level is shape n) p ts fits a rest e)) refl
    both (Err stop) e = refl

    by : (b : Bool) → either b (giving joined_to (P and repeated_within m is P)) (stay []) ts ≡ either b (giving joined_to (P and repeated_within n is P)) (stay []) ts
    by true = ap (λ answer. after answer (λ x rest. Ok (joined_to x, rest))) (both (P ts) refl)
    by false = refl

repeated_same : (levels : ℕ) {room : Type 0} {A : Type 0} (n m : ℕ) (L : Language A) (level : ℕ) (is : Kinds) (P : Reader A) → n ≤ m
    → IsSound levels n L P → Shape L level is room → IsSame n (repeated_within n is P) (repeated_within m is P)
repeated_same levels zero zero L level is P above p shape ts fits = refl
repeated_same levels zero (suc m) L level is P above p shape [] fits = refl
repeated_same levels zero (suc m) L level is P above p shape (t ∷ ts) fits = absurd (omega arith)
repeated_same levels (suc n) zero L level is P above p shape ts fits = absurd (omega arith)
repeated_same levels (suc n) (suc m) L level is P above p shape tokens small =
    same_more levels n m L level is P p shape (repeated_same levels n m L level is P (omega arith) (λ ts h. p ts (omega arith)) shape) tokens small

-- any number is read exactly, if what goes on with one begins none
pub exact_many : {levels : ℕ} {room : Type 0} {A : Type 0} {L : Language A} {level : ℕ} {is : Kinds} {P : Reader A} {f : Kinds} → Exact levels L P f room → Shape L level is room → Apart f is
    → Exact levels (many L) (repeated is P) (f ∪ is) room
unfolding repeated
exact_many {levels} {room} {L = L} {level} {is} {P} {f} p shape apart = record {
  exact = λ most. record {
    sound = λ r ts fits. (repeated_at (length ts) p shape apart).sound r ts (le_refl (length ts));
    complete = λ s list rest l fits ends. (repeated_at (length (tokens_of s ++ rest)) p shape apart).complete s list rest l (le_refl (length (tokens_of s ++ rest))) ends;
    local = λ r ts fits.
        local_by most most (repeated_within most is P) (repeated is P) ts ts
        (λ x rest form v. record { front = v.front; is = v.is; stays = λ others h. same r most (v.front ++ x ∷ others) h ∙ v.stays others h })
        (λ v x others h e. v x others h (sym (same r most (ts ++ x ∷ others) h) ∙ e)) (repeated is P ts)
        (subst (λ answer. Local most (repeated_within most is P) ts answer) (sym (same r most ts fits)) ((repeated_at most p shape apart).local r ts fits));
  };
}
  where
    same : room → (most : ℕ) (ts : List Placed) → length ts ≤ most → repeated is P ts ≡ repeated_within most is P ts
    same r most ts fits = sym (repeated_same levels (length ts) most L level is P fits ((p.exact (length ts)).sound r) shape ts (le_refl (length ts)))
