-- One language or another, told apart by the next two tokens.
use Rattle.std.proofs.Common.{◌≡◌, ℕ, ◌≤◌, ◌<◌, List, [], ◌∷◌, ◌++◌, Bool, true, false, IsTrue, Ok, Err, length, ◌&&◌, ◌⊎◌, inl, inr, refl, sym, ap, ◌∙◌, subst, arith, le_refl, le-leb, append-nil}
use Rattle.std.proofs.lemmas.Bool.{cases_lt}
use Rattle.fk_lex.specs.declared.token.TokenKind.{TokenKind}
use Rattle.fk_parse_combinators.specs.Languages.{Placed, Marked, Stretch, tokens_of, Language, token, making, ◌then◌, ◌or◌}
use Rattle.fk_parse_combinators.specs.Reads.{Unexpected, EndOfText, Nesting, Answer}
use Rattle.fk_parse_combinators.specs.Readers.{Reader, next_is, either}
use Rattle.fk_parse_combinators.proofs.SameKind.{same_just}
use Rattle.fk_parse_combinators.proofs.Sets.{Kinds, ◌∪◌, Within, next-within, within_left, within_right}
use Rattle.fk_parse_combinators.proofs.Exact.{Example, Shape, Sound, SoundValue, Closes, Stands, Local, IsSound, IsComplete, IsLocal, Exact, settled, settled_by, from_deep}
use Rattle.fk_parse_combinators.proofs.Stretches.{nil_cut, from_deep-past, length-from_deep, length-tokens}
use Rattle.fk_parse_combinators.proofs.Token.{some_token}
use Rattle.fk_parse_combinators.proofs.Or.{sound_more, IsWelcome, welcome, stays_anywhere, local_like}
use Rattle.fk_parse_combinators.specs.Kinds.{just}

-- the next two tokens are of these kinds
abbrev pub two : Kinds → Kinds → List Placed → Bool
two f g [] = false
two f g (t ∷ ts) = f t.kind && next_is g ts

-- a token begins a stretch of a language, at this level
pub record StartsAt {A : Type 0} (L : Language A) (level : ℕ) (t : Placed) : Type 0 where
  pub others : Stretch
  pub value : A
  pub spelled : L (record { token = t; level = level } ∷ others) value

-- what is put together starts at the level at which its first part does
pub starts_at_token : (level : ℕ) (k : TokenKind) (t : Placed) → IsTrue (just k t.kind) → StartsAt (token level k) level t
starts_at_token level k t h = record { others = []; value = t; spelled = (refl, same_just k t.kind h) }

pub starts_at_making : {A B : Type 0} (f : A → B) {L : Language A} {level : ℕ} {t : Placed} → StartsAt L level t → StartsAt (making f L) level t
starts_at_making f w = record { others = w.others; value = f w.value; spelled = (w.value, w.spelled, refl) }

pub starts_at_then : {A B : Type 0} {L : Language A} {M : Language B} {level : ℕ} {t : Placed} → StartsAt L level t → Example M → StartsAt (L then M) level t
starts_at_then {level = level} {t = t} w x = record {
  others = w.others ++ x.stretch;
  value = (w.value, x.value);
  spelled = (record { token = t; level = level } ∷ w.others, x.stretch, refl, w.spelled, x.spelled);
}

pub starts_at_left : {A : Type 0} {L : Language A} (M : Language A) {level : ℕ} {t : Placed} → StartsAt L level t → StartsAt (L or M) level t
starts_at_left M w = record { others = w.others; value = w.value; spelled = inl w.spelled }

pub starts_at_right : {A : Type 0} (L : Language A) {M : Language A} {level : ℕ} {t : Placed} → StartsAt M level t → StartsAt (L or M) level t
starts_at_right L w = record { others = w.others; value = w.value; spelled = inr w.spelled }

-- ---- a token that begins a language nests too deep, or it doesn't

-- the tokens from the one that nests too deep on
abbrev deep_of : {A : Type 0} → Answer A → List Placed
deep_of (Err (Nesting rest)) = rest
deep_of answer = []

settled_later : (levels : ℕ) {A : Type 0} (x : Placed) (level : ℕ) (s : Stretch) (a : A) → level ≤ levels
    → settled levels (record { token = x; level = level } ∷ s) a [] ≡ Err (Nesting (x ∷ (tokens_of s ++ []))) → ⊥
settled_later levels {A} x level s a shallow e = by (from_deep levels s) (length-from_deep levels s) (rw (le-leb level levels shallow) at e)
  where
    by : (t : Stretch) → length t ≤ length s → settled_by t a [] ≡ Err (Nesting (x ∷ (tokens_of s ++ []))) → ⊥
    by [] h d = cc
    by (m ∷ t) h d = omega (arith, ap length (ap deep_of d), length-tokens (m ∷ t) [], length-tokens s [])

-- what is read of the stretch that a token begins
read_start : {levels : ℕ} {room : Type 0} {A : Type 0} {L : Language A} {P : Reader A} {f : Kinds} → Exact levels L P f room
    → (x : Placed) (level : ℕ) (w : StartsAt L level x) → P (x ∷ (tokens_of w.others ++ [])) ≡ settled levels (record { token = x; level = level } ∷ w.others) w.value []
read_start p x level w =
    let much : ℕ = length (x ∷ (tokens_of w.others ++ [])) in
    (p.exact much).complete (record { token = x; level = level } ∷ w.others) w.value [] w.spelled (le_refl much) refl

-- at a level past the bound a token that begins a language nests too deep, whatever comes behind it
pub nests : {levels : ℕ} {room : Type 0} {A : Type 0} {L : Language A} {P : Reader A} {f : Kinds} → Exact levels L P f room → room
    → (x : Placed) (level : ℕ) → StartsAt L level x → levels < level → (others : List Placed) → P (x ∷ others) ≡ Err (Nesting (x ∷ others))
nests {levels} {P = P} p r x level w past others =
    let m : Marked = record { token = x; level = level } in
    let long : List Placed = tokens_of w.others ++ [] in
    let deep : P (x ∷ long) ≡ Err (Nesting (x ∷ long)) = rw (from_deep-past levels m w.others past) at (read_start p x level w) in
    stays_anywhere p r x long (λ z. Nesting z) (λ more z. z) deep others

-- at a level within the bound it doesn't
pub not_nests : {levels : ℕ} {room : Type 0} {A : Type 0} {L : Language A} {P : Reader A} {f : Kinds} → Exact levels L P f room → room
    → (x : Placed) (level : ℕ) → StartsAt L level x → level ≤ levels → (others : List Placed) → P (x ∷ others) ≡ Err (Nesting (x ∷ others)) → ⊥
not_nests {levels} {P = P} p r x level w shallow others e =
    let long : List Placed = tokens_of w.others ++ [] in
    let stays : P (x ∷ long) ≡ Err (Nesting (x ∷ long)) = stays_anywhere p r x others (λ z. Nesting z) (λ more z. z) e long in
    settled_later levels x level w.others w.value shallow (sym (read_start p x level w) ∙ stays)

-- ---- the two readers

-- a reader takes a token at least
abbrev TakesSome : {A : Type 0} → ℕ → Reader A → Type 0
TakesSome {A} most P = (ts : List Placed) → length ts ≤ most → (a : A) (rest : List Placed) → P ts ≡ Ok (a, rest) → length rest < length ts

takes_some : (levels : ℕ) {room : Type 0} {A : Type 0} (most : ℕ) {L : Language A} {level : ℕ} {first : Kinds} (P : Reader A)
    → Shape L level first room → IsSound levels most L P → TakesSome most P
takes_some levels {room} {A} most {L} {level} {first} P shape p ts fits a rest e = by (subst (λ answer. Sound levels L ts answer) e (p ts fits))
  where
    by : SoundValue levels L ts a rest → length rest < length ts
    by w = let v = shape.fronts w.stretch a w.spelled in omega (arith, ap length w.is, length-tokens w.stretch rest, ap length v.is)

-- both readers find that a token nests too deep, or neither does
abbrev Agree : {A : Type 0} → Reader A → Reader A → Placed → Type 0
Agree P Q t =
    ((others : List Placed) → (P (t ∷ others) ≡ Err (Nesting (t ∷ others))) × (Q (t ∷ others) ≡ Err (Nesting (t ∷ others))))
    ⊎ ((others : List Placed) → (P (t ∷ others) ≡ Err (Nesting (t ∷ others)) → ⊥) × (Q (t ∷ others) ≡ Err (Nesting (t ∷ others)) → ⊥))

abbrev by_two : {A : Type 0} → Kinds → Kinds → Reader A → Reader A → Reader A
by_two f g P Q ts = either (two f g ts) P Q ts

-- an answer behind the first token is the same where the first two tokens choose this reader
stands_two : {A : Type 0} (most : ℕ) (R S : Reader A) (t : Placed) (ts : List Placed) (x : Placed) (rest : List Placed) (answer : List Placed → Answer A)
    → ((u : Placed) (us : List Placed) → ts ≡ u ∷ us → (others : List Placed) → R (t ∷ u ∷ others) ≡ S (t ∷ u ∷ others))
    → (w : Stands most S (t ∷ ts) x rest answer) → (w.front ≡ [] → Stands most R (t ∷ ts) x rest answer) → Stands most R (t ∷ ts) x rest answer
stands_two {A} most R S t ts x rest answer chosen w first = by w.front w.is w.stays first
  where
    by : (front : List Placed) → t ∷ ts ≡ front ++ x ∷ rest
        → ((others : List Placed) → length (front ++ x ∷ others) ≤ most → S (front ++ x ∷ others) ≡ answer (x ∷ others))
        → (front ≡ [] → Stands most R (t ∷ ts) x rest answer) → Stands most R (t ∷ ts) x rest answer
    by [] e stays first = first refl
    by (a ∷ []) e stays first =
        let same : a ≡ t = cc in
        record { front = a ∷ []; is = e; stays = λ others h. rw same (chosen x rest (cc) others) ∙ stays others h }
    by (a ∷ b ∷ front) e stays first =
        let same : a ≡ t = cc in
        record { front = a ∷ b ∷ front; is = e; stays = λ others h. rw same (chosen b (front ++ x ∷ rest) (cc) (front ++ x ∷ others)) ∙ stays others h }

-- of tokens whose first two choose one of two readers, where the first alone would choose either
local_chosen : {A : Type 0} (most : ℕ) (R S : Reader A) (t : Placed) (ts : List Placed) → length (t ∷ ts) ≤ most
    → ((u : Placed) (us : List Placed) → ts ≡ u ∷ us → (others : List Placed) → R (t ∷ u ∷ others) ≡ S (t ∷ u ∷ others))
    → TakesSome most S → (ts ≡ [] → (a : A) → S (t ∷ ts) ≡ Ok (a, []) → ⊥) → (S (t ∷ ts) ≡ Err (Unexpected (t ∷ ts)) → ⊥)
    → (S (t ∷ ts) ≡ Err (Nesting (t ∷ ts)) → (others : List Placed) → R (t ∷ others) ≡ Err (Nesting (t ∷ others)))
    → (answer : Answer A) → S (t ∷ ts) ≡ answer → Local most S (t ∷ ts) answer → Local most R (t ∷ ts) answer
local_chosen {A} most R S t ts fits chosen takes alone welcomes deep answer e w = by answer e w
  where
    same_as : (x : Placed) (rest front : List Placed) → t ∷ ts ≡ front ++ x ∷ rest → front ≡ [] → (t ≡ x) × (ts ≡ rest)
    same_as x rest front is none = let d : t ∷ ts ≡ x ∷ rest = rw none at is in (cc, cc)

    closes : (a : A) (us : List Placed) → ts ≡ us → S (t ∷ ts) ≡ Ok (a, []) → Closes most S (t ∷ ts) → Closes most R (t ∷ ts)
    closes a [] same e v = absurd (alone same a e)
    closes a (u ∷ us) same e v = λ x others h d.
        let whole : t ∷ (ts ++ x ∷ others) ≡ t ∷ u ∷ (us ++ x ∷ others) = ap (λ z. t ∷ (z ++ x ∷ others)) same in
        let there : R (t ∷ (ts ++ x ∷ others)) ≡ S (t ∷ (ts ++ x ∷ others)) = rw whole (chosen u us same (us ++ x ∷ others)) in
        v x others h (sym there ∙ d)

    by : (answer : Answer A) → S (t ∷ ts) ≡ answer → Local most S (t ∷ ts) answer → Local most R (t ∷ ts) answer
    by (Ok (a, [])) e v = closes a ts refl e v
    by (Ok (a, x ∷ rest)) e v = stands_two most R S t ts x rest (λ z. Ok (a, z)) chosen v
        (λ none. absurd (let same = same_as x rest v.front v.is none in omega (arith, takes (t ∷ ts) fits a (x ∷ rest) e, ap length same.1)))
    by (Err (Unexpected [])) e v = v
    by (Err (Unexpected (x ∷ rest))) e v = stands_two most R S t ts x rest (λ z. Err (Unexpected z)) chosen v
        (λ none. absurd (let same = same_as x rest v.front v.is none in welcomes (rw (same.0, same.1) (rw (same.0, same.1) at e))))
    by (Err EndOfText) e v = tt
    by (Err (Nesting [])) e v = v
    by (Err (Nesting (x ∷ rest))) e v = stands_two most R S t ts x rest (λ z. Err (Nesting z)) chosen v
        (λ none.
        let same = same_as x rest v.front v.is none in
        let past : S (t ∷ ts) ≡ Err (Nesting (t ∷ ts)) = rw (same.0, same.1) (rw (same.0, same.1) at e) in
        record { front = []; is = rw (same.0, same.1) refl; stays = λ others h. rw (← same.0) (deep past others) })

by_two-choice : {A : Type 0} (f g : Kinds) (P Q : Reader A) (t u : Placed) (b : Bool) → IsTrue (f t.kind) → g u.kind ≡ b → (ts : List Placed)
    → by_two f g P Q (t ∷ u ∷ ts) ≡ either b P Q (t ∷ u ∷ ts)
by_two-choice f g P Q t u b h e ts = rw (h, e) refl

by_two-other : {A : Type 0} (f g : Kinds) (P Q : Reader A) (t : Placed) → f t.kind ≡ false → (ts : List Placed) → by_two f g P Q (t ∷ ts) ≡ Q (t ∷ ts)
by_two-other f g P Q t e ts = rw e refl

by_two-alone : {A : Type 0} (f g : Kinds) (P Q : Reader A) (t : Placed) → IsTrue (f t.kind) → by_two f g P Q (t ∷ []) ≡ Q (t ∷ [])
by_two-alone f g P Q t e = rw e refl

-- where both nest too deep, so does what the tokens choose
by_two-deep : {A : Type 0} (f g : Kinds) (P Q : Reader A) (t : Placed) (ts : List Placed)
    → (P (t ∷ ts) ≡ Err (Nesting (t ∷ ts))) × (Q (t ∷ ts) ≡ Err (Nesting (t ∷ ts))) → by_two f g P Q (t ∷ ts) ≡ Err (Nesting (t ∷ ts))
by_two-deep {A} f g P Q t ts e = by (two f g (t ∷ ts))
  where
    by : (b : Bool) → either b P Q (t ∷ ts) ≡ Err (Nesting (t ∷ ts))
    by true = e.0
    by false = e.1

two_local : {A : Type 0} (most : ℕ) (f g : Kinds) (P Q : Reader A) → IsLocal most P → IsLocal most Q → TakesSome most P → TakesSome most Q
    → IsWelcome most f P → IsWelcome most f Q → ((t : Placed) → IsTrue (f t.kind) → (a : A) → Q (t ∷ []) ≡ Ok (a, []) → length (t ∷ []) ≤ most → ⊥)
    → ((t : Placed) → IsTrue (f t.kind) → Agree P Q t) → IsLocal most (by_two f g P Q)
two_local {A} most f g P Q p q takes_p takes_q welcomes_p welcomes_q alone agree [] fits = by (Q []) refl (q [] fits)
  where
    by : (answer : Answer A) → Q [] ≡ answer → Local most Q [] answer → Local most (by_two f g P Q) [] answer
    by (Ok (a, rest)) e v = absurd (omega (arith, takes_q [] fits a rest e))
    by (Err (Unexpected [])) e v = v
    by (Err (Unexpected (x ∷ rest))) e v = nil_cut v.front x rest v.is
    by (Err EndOfText) e v = tt
    by (Err (Nesting [])) e v = v
    by (Err (Nesting (x ∷ rest))) e v = nil_cut v.front x rest v.is
two_local {A} most f g P Q p q takes_p takes_q welcomes_p welcomes_q alone agree (t ∷ ts) fits = by_first (f t.kind) refl
  where
    R : Reader A
    R = by_two f g P Q

    -- what one reader finds too deep both do
    deep_p : IsTrue (f t.kind) → P (t ∷ ts) ≡ Err (Nesting (t ∷ ts)) → (others : List Placed) → R (t ∷ others) ≡ Err (Nesting (t ∷ others))
    deep_p h e others = elim (agree t h) [ inl w ↦ by_two-deep f g P Q t others (w others) | inr w ↦ absurd ((w ts).0 e) ]

    deep_q : IsTrue (f t.kind) → Q (t ∷ ts) ≡ Err (Nesting (t ∷ ts)) → (others : List Placed) → R (t ∷ others) ≡ Err (Nesting (t ∷ others))
    deep_q h e others = elim (agree t h) [ inl w ↦ by_two-deep f g P Q t others (w others) | inr w ↦ absurd ((w ts).1 e) ]

    by_second : IsTrue (f t.kind) → (us : List Placed) → ts ≡ us → Local most R (t ∷ ts) (R (t ∷ ts))
    by_second h [] e =
        let choice : R (t ∷ ts) ≡ Q (t ∷ ts) = rw e (by_two-alone f g P Q t h) in
        rw choice (local_chosen most R Q t ts fits (λ u us d. absurd (cc)) takes_q
        (λ d a read. alone t h a (rw d at read) (rw d at fits)) (λ d. welcomes_q t ts h fits d) (deep_q h) (Q (t ∷ ts)) refl (q (t ∷ ts) fits))
    by_second h (u ∷ us) e = by_kind (g u.kind) refl
      where
        by_kind : (b : Bool) → g u.kind ≡ b → Local most R (t ∷ ts) (R (t ∷ ts))
        by_kind true k =
            let choice : R (t ∷ ts) ≡ P (t ∷ ts) = rw e (by_two-choice f g P Q t u true h k us) in
            rw choice (local_chosen most R P t ts fits (λ v vs d. by_two-choice f g P Q t v true h (let same : v ≡ u = cc in rw same k)) takes_p
            (λ d a read. cc) (λ d. welcomes_p t ts h fits d) (deep_p h) (P (t ∷ ts)) refl (p (t ∷ ts) fits))
        by_kind false k =
            let choice : R (t ∷ ts) ≡ Q (t ∷ ts) = rw e (by_two-choice f g P Q t u false h k us) in
            rw choice (local_chosen most R Q t ts fits (λ v vs d. by_two-choice f g P Q t v false h (let same : v ≡ u = cc in rw same k)) takes_q
            (λ d a read. cc) (λ d. welcomes_q t ts h fits d) (deep_q h) (Q (t ∷ ts)) refl (q (t ∷ ts) fits))

    by_first : (b : Bool) → f t.kind ≡ b → Local most R (t ∷ ts) (R (t ∷ ts))
    by_first false e = rw (by_two-other f g P Q t e ts) (local_like most Q R t ts (Q (t ∷ ts)) (by_two-other f g P Q t e) (q (t ∷ ts) fits))
    by_first true e = by_second e ts refl

-- ---- one or the other

-- one language or another, by a test of the tokens, if the answers rest on the tokens up to the one that they name
pub exact_test : {levels : ℕ} {room : Type 0} {A : Type 0} {L M : Language A} {P Q : Reader A} {f g : Kinds} (test : List Placed → Bool)
    → Exact levels L P f room → Exact levels M Q g room
    → ((s : Stretch) (a : A) (rest : List Placed) → L s a → IsTrue (test (tokens_of s ++ rest)))
    → ((s : Stretch) (a : A) (rest : List Placed) → M s a → test (tokens_of s ++ rest) ≡ false)
    → (room → (most : ℕ) → IsLocal most (λ ts. either (test ts) P Q ts))
    → Exact levels (L or M) (λ ts. either (test ts) P Q ts) (f ∪ g) room
exact_test {levels} {room} {A} {L} {M} {P} {Q} {f} {g} test p q chooses clears local = record {
  exact = λ most. record {
    sound = λ r ts fits. sound most r ts fits (test ts);
    complete = complete most;
    local = λ r. local r most;
  };
}
  where
    sound : (most : ℕ) → room → (ts : List Placed) → length ts ≤ most → (b : Bool) → Sound levels (L or M) ts (either b P Q ts)
    sound most r ts fits true = sound_more levels L (L or M) (λ s a l. inl l) ts (P ts) ((p.exact most).sound r ts fits)
    sound most r ts fits false = sound_more levels M (L or M) (λ s a m. inr m) ts (Q ts) ((q.exact most).sound r ts fits)

    complete : (most : ℕ) → IsComplete levels most (L or M) (λ ts. either (test ts) P Q ts) (f ∪ g)
    complete most s a rest (inl l) fits ends = rw (chooses s a rest l) ((p.exact most).complete s a rest l fits (next-within f (f ∪ g) (within_left f g) rest ends))
    complete most s a rest (inr m) fits ends = rw (clears s a rest m) ((q.exact most).complete s a rest m fits (next-within g (f ∪ g) (within_right f g) rest ends))

agree_by : {levels : ℕ} {room : Type 0} {A : Type 0} {L M : Language A} {P Q : Reader A} {a b : Kinds} → Exact levels L P a room → Exact levels M Q b room → room
    → (t : Placed) (n : ℕ) → StartsAt L n t → StartsAt M n t → Agree P Q t
agree_by {levels} p q r t n v w =
    elim (cases_lt levels n) [
      | inl past ↦ inl (λ others. (nests p r t n v past others, nests q r t n w past others))
      | inr shallow ↦ inr (λ others. (not_nests p r t n v shallow others, not_nests q r t n w shallow others))
    ]

-- the two tokens tell the stretches of two languages apart, and where the first alone doesn't, both nest it alike
pub exact_two : {levels : ℕ} {room : Type 0} {A : Type 0} {L M : Language A} {P Q : Reader A} {level lower : ℕ} {first second a b : Kinds} (f g : Kinds) (k : TokenKind) → IsTrue (g k)
    → Exact levels L P a room → Exact levels M Q b room → Shape L level first room → Shape M lower second room → Within f first → Within f second
    → ((s : Stretch) (v : A) (rest : List Placed) → L s v → IsTrue (two f g (tokens_of s ++ rest)))
    → ((s : Stretch) (v : A) (rest : List Placed) → M s v → two f g (tokens_of s ++ rest) ≡ false)
    → (n : ℕ) → (room → (t : Placed) → IsTrue (f t.kind) → StartsAt L n t × StartsAt M n t)
    → Exact levels (L or M) (by_two f g P Q) (a ∪ b) room
exact_two {levels} {room} {A} {L} {M} {P} {Q} f g k has p q shape other in_first in_second chooses clears n starts =
    exact_test (two f g) p q chooses clears (λ r most.
    two_local most f g P Q ((p.exact most).local r) ((q.exact most).local r)
    (takes_some levels most P shape ((p.exact most).sound r)) (takes_some levels most Q other ((q.exact most).sound r))
    (λ x others h. welcome shape p r most x others (in_first x.kind h)) (λ x others h. welcome other q r most x others (in_second x.kind h))
    (λ t h v e fits. alone r t h v (subst (λ answer. Sound levels M (t ∷ []) answer) e ((q.exact most).sound r (t ∷ []) fits)))
    (λ t h. agree_by p q r t n (starts r t h).0 (starts r t h).1))
  where
    alone : room → (t : Placed) → IsTrue (f t.kind) → (v : A) → SoundValue levels M (t ∷ []) v [] → ⊥
    alone r t h v w =
        let tokens : tokens_of w.stretch ≡ t ∷ [] = sym (append-nil (tokens_of w.stretch)) ∙ sym w.is in
        let clear : two f g (tokens_of w.stretch ++ some_token k ∷ []) ≡ false = clears w.stretch v (some_token k ∷ []) w.spelled in
        let there : (f t.kind && g k) ≡ false = rw tokens at clear in
        let both : false ≡ true = rw (h, has) at (sym there) in
        absurd (cc)
