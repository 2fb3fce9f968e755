-- The indices in a value are those of tokens of the stretch that spells it, and none stands more often.
use Rattle.std.proofs.Common.{◌≡◌, ℕ, ◌+◌, ◌≤◌, List, [], ◌∷◌, ◌++◌, Option, Some, None, map, cond, nat_eq, arith, refl, ap, inl, inr}
use Rattle.fk_lex.specs.declared.token.TokenKind.{TokenKind}
use Rattle.fk_parse_combinators.specs.Languages.{Placed, Stretch, Language, token, telling, ◌then◌, ◌or◌, making, many, maybe, nothing}

-- 1 for a number that is this one, else 0
abbrev pub one : ℕ → ℕ → ℕ
one x k = cond (nat_eq x k) 1 0

-- how often a number stands in a list
abbrev pub times : ℕ → List ℕ → ℕ
times k [] = 0
times k (x ∷ xs) = one x k + times k xs

pub times-append : (k : ℕ) (xs ys : List ℕ) → times k (xs ++ ys) ≡ times k xs + times k ys
times-append k [] ys = omega arith
times-append k (x ∷ xs) ys = let ih = times-append k xs ys in rw ih (omega arith)

-- the indices of a stretch's tokens
abbrev pub places : Stretch → List ℕ
places s = map (λ m. m.token.at) s

pub places-append : (s t : Stretch) → places (s ++ t) ≡ places s ++ places t
places-append [] t = refl
places-append (m ∷ s) t = ap (λ l. m.token.at ∷ l) (places-append s t)

pub times-places : (k : ℕ) (s t : Stretch) → times k (places (s ++ t)) ≡ times k (places s) + times k (places t)
times-places k s t = rw (places-append s t) (times-append k (places s) (places t))

-- a measure of values by numbers
abbrev pub Measure : Type 0 → Type 0
Measure A = A → ℕ → ℕ

-- each number counts for a value at most as often as it is the index of a token of its stretch
pub record Held {A : Type 0} (L : Language A) (u : Measure A) : Type 0 where
  pub holds : (s : Stretch) (a : A) → L s a → (k : ℕ) → u a k ≤ times k (places s)

-- nothing counts
abbrev pub uncounted : {A : Type 0} → Measure A
uncounted a k = 0

-- the index of a token counts
abbrev pub by_place : Measure Placed
by_place t k = one t.at k

abbrev pub by_first : {A : Type 0} → Measure (Placed × A)
by_first x k = one x.0.at k

abbrev pub both : {A B : Type 0} → Measure A → Measure B → Measure (A × B)
both u v x k = u x.0 k + v x.1 k

abbrev pub each : {A : Type 0} → Measure A → Measure (List A)
each u [] k = 0
each u (x ∷ xs) k = u x k + each u xs k

abbrev pub if_some : {A : Type 0} → Measure A → Measure (Option A)
if_some u None k = 0
if_some u (Some a) k = u a k

pub held_uncounted : {A : Type 0} {L : Language A} → Held L (λ a. uncounted a)
held_uncounted = record { holds = λ s a l k. omega arith }

pub held_token : (level : ℕ) (is : TokenKind) → Held (token level is) by_place
held_token level is = record { holds = λ s t l k. rw (l.0) (omega arith) }

pub held_telling : {A : Type 0} (level : ℕ) (told : TokenKind → Option A) → Held (telling level told) (λ x. by_first x)
held_telling level told = record { holds = λ s x l k. rw (l.0) (omega arith) }

infixr 40 ◌beside◌
pub ◌beside◌ : {A B : Type 0} {L : Language A} {M : Language B} {u : Measure A} {v : Measure B} → Held L u → Held M v → Held (L then M) (both u v)
h beside g = record {
  holds = λ s x l k.
      let e = times-places k l.0 l.1 in
      let a = h.holds l.0 x.0 l.3 k in
      let b = g.holds l.1 x.1 l.4 k in
      rw (l.2) (omega (arith, e, a, b));
}

pub held_or : {A : Type 0} {L M : Language A} {u : Measure A} → Held L u → Held M u → Held (L or M) u
held_or {A} {L} {M} {u} h g = record { holds = holds }
  where
    holds : (s : Stretch) (a : A) → (L or M) s a → (k : ℕ) → u a k ≤ times k (places s)
    holds s a (inl l) = h.holds s a l
    holds s a (inr m) = g.holds s a m

pub held_making : {A B : Type 0} (f : A → B) {L : Language A} {u : Measure A} {v : Measure B} → Held L u → ((a : A) (k : ℕ) → v (f a) k ≤ u a k) → Held (making f L) v
held_making f h g = record {
  holds = λ s b l k.
      let a = h.holds s l.0 l.1 k in
      let c = g l.0 k in
      rw (l.2) (omega (arith, a, c));
}

pub held_many : {A : Type 0} {L : Language A} {u : Measure A} → Held L u → Held (many L) (each u)
held_many {A} {L} {u} h = record { holds = holds }
  where
    holds : (s : Stretch) (list : List A) → many L s list → (k : ℕ) → each u list k ≤ times k (places s)
    holds s [] l k = omega arith
    holds s (x ∷ xs) l k =
        let e = times-places k l.0 l.1 in
        let a = h.holds l.0 x l.3 k in
        let b = holds l.1 xs l.4 k in
        rw (l.2) (omega (arith, e, a, b))

pub held_maybe : {A : Type 0} {L : Language A} {u : Measure A} → Held L u → Held (maybe L) (if_some u)
held_maybe {A} {L} {u} h = record { holds = holds }
  where
    holds : (s : Stretch) (o : Option A) → maybe L s o → (k : ℕ) → if_some u o k ≤ times k (places s)
    holds s None l k = omega arith
    holds s (Some a) l k = h.holds s a l k

pub held_nothing : {A : Type 0} (u : Measure A) → Held (nothing {A = A}) u
held_nothing u = record { holds = λ s a l. absurd l }

-- what counts less is held too
pub held_less : {A : Type 0} {L : Language A} {u : Measure A} (v : Measure A) → ((a : A) (k : ℕ) → v a k ≤ u a k) → Held L u → Held L v
held_less v less h = record { holds = λ s a l k. let x = less a k in let y = h.holds s a l k in omega (arith, x, y) }
