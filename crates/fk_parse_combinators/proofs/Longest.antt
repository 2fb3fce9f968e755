-- What is read exactly is read as far as it goes: from exact readers to what their contracts say.
use Rattle.std.proofs.Common.{◌≡◌, ℕ, ◌+◌, ◌<◌, List, [], ◌∷◌, ◌++◌, Ok, Err, length, refl, sym, ap, ◌∙◌, subst, append-nil, append_assoc, arith, length-append, le_refl}
use Rattle.std.proofs.lemmas.List.{append_cancel_right}
use Rattle.fk_parse_combinators.specs.Languages.{Placed, Marked, Stretch, tokens_of}
use Rattle.fk_parse_combinators.specs.Reads.{Unexpected, EndOfText, Nesting, Answer, Family, Spells, Spell, Begins, Begin, IsShallow, Reads}
use Rattle.fk_parse_combinators.specs.declared.limits.TheConstants.{LEVELS}
use Rattle.fk_parse_combinators.specs.Readers.{Reader}
use Rattle.fk_parse_combinators.proofs.Sets.{Kinds}
use Rattle.fk_parse_combinators.proofs.Exact.{StaysWithin, Goes, Sound, Stands, Local, Exact, from_deep, settled_by, settled}
use Rattle.fk_parse_combinators.proofs.Stretches.{tokens-append, from_deep-shallow, from_deep-past, from_deep-skip, settled_read}

-- readers read each language of a family exactly, and one bound leaves room
pub record Faithful (levels : ℕ) {A : Type 0} (L : Family A) (P : Reader A) (goes_on : Kinds) (room : ℕ → Type 0) : Type 0 where
  pub enough : ℕ
  pub has_room : room enough
  pub exact : (bound : ℕ) → Exact levels (L bound) P goes_on (room bound)

-- ---- what is not answered of a whole stretch

not_more : (levels : ℕ) {A : Type 0} (s : Stretch) (a b : A) (x : Placed) (rest : List Placed) → settled levels s a [] ≡ Ok (b, x ∷ rest) → ⊥
not_more levels {A} s a b x rest e = by (from_deep levels s) e
  where
    left : Answer A → List Placed
    left (Ok y) = y.1
    left (Err stop) = []

    by : (t : Stretch) → settled_by t a [] ≡ Ok (b, x ∷ rest) → ⊥
    by [] e = let d : [] ≡ x ∷ rest = ap left e in cc
    by (m ∷ t) e = cc

not_ended : (levels : ℕ) {A : Type 0} (s : Stretch) (a : A) → settled levels s a [] ≡ Err EndOfText → ⊥
not_ended levels {A} s a e = by (from_deep levels s) e
  where
    by : (t : Stretch) → settled_by t a [] ≡ Err EndOfText → ⊥
    by [] e = cc
    by (m ∷ t) e = cc

-- ---- what is answered at a token

-- it is answered whatever comes behind it
stays_behind : {levels : ℕ} {A : Type 0} {L : Family A} {P : Reader A} {goes_on : Kinds} {room : ℕ → Type 0} → Faithful levels L P goes_on room
    → (front : List Placed) (t : Placed) (others tail : List Placed) (answer : List Placed → Answer A)
    → ((most : ℕ) → Local most P (front ++ t ∷ others) (answer (t ∷ others)) → Stands most P (front ++ t ∷ others) t others answer)
    → P (front ++ t ∷ others) ≡ answer (t ∷ others) → P (front ++ t ∷ tail) ≡ answer (t ∷ tail)
stays_behind {P = P} w front t others tail answer stand e =
    let most : ℕ = length (front ++ t ∷ others) + length (front ++ t ∷ tail) in
    let stands : Stands most P (front ++ t ∷ others) t others answer =
    stand most (subst (λ z. Local most P (front ++ t ∷ others) z) e (((w.exact w.enough).exact most).local w.has_room (front ++ t ∷ others) (omega arith))) in
    let same : stands.front ≡ front = append_cancel_right stands.front front (t ∷ others) (sym stands.is) in
    rw same at (stands.stays tail (rw same (omega arith)))

-- ---- a stretch of any bound is read

pub whole_read : {levels : ℕ} {A : Type 0} (L : Family A) (P : Reader A) (goes_on : Kinds) (room : ℕ → Type 0) → Faithful levels L P goes_on room
    → (bound : ℕ) (s : Stretch) (a : A) (ts : List Placed) → L bound s a → tokens_of s ≡ ts → P ts ≡ settled levels s a []
whole_read L P goes_on room w bound s a ts l e =
    let all : tokens_of s ++ [] ≡ ts = append-nil (tokens_of s) ∙ e in
    rw (← all) (((w.exact bound).exact (length (tokens_of s ++ []))).complete s a [] l (le_refl (length (tokens_of s ++ []))) refl)

-- with the token that is named no stretch goes on
not_begun : {levels : ℕ} {A : Type 0} (L : Family A) (P : Reader A) (goes_on : Kinds) (room : ℕ → Type 0) → Faithful levels L P goes_on room
    → (front : List Placed) (t : Placed) (others : List Placed) (answer : List Placed → Answer A)
    → ((most : ℕ) → Local most P (front ++ t ∷ others) (answer (t ∷ others)) → Stands most P (front ++ t ∷ others) t others answer)
    → ((s : Stretch) (a : A) (rest : List Placed) → settled levels s a [] ≡ answer (t ∷ rest) → ⊥)
    → P (front ++ t ∷ others) ≡ answer (t ∷ others) → ¬ Begin L (front ++ t ∷ [])
not_begun {levels} {A} L P goes_on room w front t others answer stand clash e b = by b.0 b.1 b.2.0 b.2.1 b.2.2.0 b.2.2.1
  where
    by : (s : Stretch) → tokens_of s ≡ front ++ t ∷ [] → (more : Stretch) (a : A) (bound : ℕ) → L bound (s ++ more) a → ⊥
    by s d more a bound l =
        let tail : List Placed = tokens_of more in
        let stays : P (front ++ t ∷ tail) ≡ answer (t ∷ tail) = stays_behind w front t others tail answer stand e in
        let tokens : tokens_of (s ++ more) ≡ front ++ t ∷ tail = tokens-append s more ∙ ap (λ z. z ++ tail) d ∙ append_assoc front (t ∷ []) tail in
        let read : P (front ++ t ∷ tail) ≡ settled levels (s ++ more) a [] = whole_read L P goes_on room w bound (s ++ more) a (front ++ t ∷ tail) l tokens in
        clash (s ++ more) a tail (sym read ∙ stays)

-- ---- what is answered of a whole stretch

-- where a token is unexpected, what comes before it is no stretch
not_spelled : {levels : ℕ} {A : Type 0} (L : Family A) (P : Reader A) (goes_on : Kinds) (room : ℕ → Type 0) → Faithful levels L P goes_on room
    → (front : List Placed) (t : Placed) (others : List Placed) → P (front ++ t ∷ others) ≡ Err (Unexpected (t ∷ others)) → (a : A) → ¬ Spell L front a
not_spelled {levels} {A} L P goes_on room w front t others e a b = by (from_deep levels b.0) (whole_read L P goes_on room w b.2.0 b.0 a front b.2.1 b.1)
  where
    most : ℕ
    most = length (front ++ t ∷ others)

    local : (answer : Answer A) → P front ≡ answer → Local most P front answer
    local answer d = subst (λ z. Local most P front z) d (((w.exact w.enough).exact most).local w.has_room front (omega (arith, length-append front (t ∷ others))))

    by : (s : Stretch) → P front ≡ settled_by s a [] → ⊥
    by [] d = local (Ok (a, [])) d t others (le_refl most) e
    by (m ∷ s) d =
        let rest : List Placed = tokens_of s ++ [] in
        let stands : Stands most P front m.token rest (λ z. Err (Nesting z)) = local (Err (Nesting (m.token ∷ rest))) d in
        let all : stands.front ++ m.token ∷ (rest ++ t ∷ others) ≡ front ++ t ∷ others =
        sym (append_assoc stands.front (m.token ∷ rest) (t ∷ others)) ∙ ap (λ z. z ++ t ∷ others) (sym stands.is) in
        let stays : P (front ++ t ∷ others) ≡ Err (Nesting (m.token ∷ (rest ++ t ∷ others))) =
        rw all at (stands.stays (rest ++ t ∷ others) (rw all (le_refl most))) in
        absurd (cc)

-- ---- what is answered

-- what exact readers answer
pub reads : {A : Type 0} {L : Family A} {P : Reader A} {goes_on : Kinds} {room : ℕ → Type 0} → Faithful LEVELS L P goes_on room
    → (ts : List Placed) → Reads L ts (P ts)
reads {A} {L} {P} {goes_on} {room} w ts = by (P ts) refl (((w.exact w.enough).exact (length ts)).sound w.has_room ts (le_refl (length ts)))
  where
    begins : (s : Stretch) → Goes (L w.enough) s → Begins L s
    begins s g = (g.more, g.value, (w.enough, g.spelled))

    cut : (s : Stretch) (rest : List Placed) (t : Placed) (others : List Placed) → ts ≡ tokens_of s ++ rest → rest ≡ t ∷ others → ts ≡ tokens_of s ++ t ∷ others
    cut s rest t others is d = is ∙ ap (λ z. tokens_of s ++ z) d

    by : (answer : Answer A) → P ts ≡ answer → Sound LEVELS (L w.enough) ts answer → Reads L ts answer
    by (Ok (a, rest)) e v = record {
      stretch = v.stretch;
      longest = record {
        first = v.is;
        begins = begins v.stretch (record { more = []; value = a; spelled = rw (append-nil v.stretch) v.spelled });
        longest = λ t others d.
            let is : ts ≡ tokens_of v.stretch ++ t ∷ others = cut v.stretch rest t others v.is d in
            not_begun L P goes_on room w (tokens_of v.stretch) t others (λ z. Ok (a, z)) (λ more z. z) (λ s b r. not_more LEVELS s b a t r) (rw (is, d) at e);
      };
      spelled = (w.enough, v.spelled);
      shallow = v.shallow;
    }
    by (Err (Unexpected [])) e v = absurd (omega (arith, v.1))
    by (Err (Unexpected (t ∷ rest))) e v = (
      record {
        stretch = v.0.stretch;
        longest = record {
          first = v.0.is;
          begins = begins v.0.stretch v.0.goes;
          longest = λ x others d.
              let is : ts ≡ tokens_of v.0.stretch ++ x ∷ others = cut v.0.stretch (t ∷ rest) x others v.0.is d in
              not_begun L P goes_on room w (tokens_of v.0.stretch) x others (λ z. Err (Unexpected z)) (λ more z. z) (λ s b r. settled_read LEVELS s b [] (x ∷ r)) (rw (is, d) at e);
        };
        unspelled = not_spelled L P goes_on room w (tokens_of v.0.stretch) t rest (rw v.0.is at e);
        shallow = v.0.shallow;
      },
      v.1,
    )
    by (Err EndOfText) e v = record {
      stretch = v.stretch;
      longest = record { first = v.is; begins = begins v.stretch v.goes; longest = λ t others d. absurd (cc) };
      unspelled = λ a b. not_ended LEVELS b.0 a
          (sym (whole_read L P goes_on room w b.2.0 b.0 a ts b.2.1 (b.1 ∙ sym (append-nil (tokens_of v.stretch)) ∙ sym v.is)) ∙ e);
      shallow = v.shallow;
    }
    by (Err (Nesting rest)) e v = record {
      stretch = v.stretch;
      deep = v.deep;
      others = v.others;
      first = v.is;
      next = v.next;
      begins = begins (v.stretch ++ v.deep ∷ []) v.goes;
      shallow = v.shallow;
      past = v.past;
    }

-- the same tokens, nested within the bound, spell one value
pub one_value : {levels : ℕ} {A : Type 0} {L : Family A} {P : Reader A} {goes_on : Kinds} {room : ℕ → Type 0} → Faithful levels L P goes_on room
    → (s t : Stretch) (a b : A) → Spells L s a → Spells L t b → tokens_of s ≡ tokens_of t → StaysWithin levels s → StaysWithin levels t → a ≡ b
one_value {levels} {A} {L} {P} {goes_on} {room} w s t a b l m same h k =
    let first : P (tokens_of t) ≡ Ok (a, []) = rw (from_deep-shallow levels s h) at (whole_read L P goes_on room w l.0 s a (tokens_of t) l.1 same) in
    let second : P (tokens_of t) ≡ Ok (b, []) = rw (from_deep-shallow levels t k) at (whole_read L P goes_on room w m.0 t b (tokens_of t) m.1 refl) in
    value (sym first ∙ second)
  where
    value_or : A → Answer A → A
    value_or c (Ok x) = x.0
    value_or c (Err stop) = c

    value : settled levels [] a [] ≡ settled levels [] b [] → a ≡ b
    value e = ap (value_or a) e

-- ---- tokens that spell a value are not refused

-- the tokens of a stretch are cut where it is
cut_stretch : (s : Stretch) (front back : List Placed) → tokens_of s ≡ front ++ back
    → (first : Stretch) × (more : Stretch) × (s ≡ first ++ more) × (tokens_of first ≡ front)
cut_stretch s [] back e = ([], s, refl, refl)
cut_stretch [] (t ∷ front) back e = absurd (cc)
cut_stretch (m ∷ s) (t ∷ front) back e =
    let c = cut_stretch s front back (cc) in
    (m ∷ c.0, c.1, ap (λ z. m ∷ z) c.2, let tail = c.3 in cc)

-- a stretch goes on with each of its tokens
pub not_unexpected : {A : Type 0} (L : Family A) (s : Stretch) (a : A) (front : List Placed) (t : Placed) (others : List Placed)
    → Spells L s a → tokens_of s ≡ front ++ t ∷ others → ¬ Begin L (front ++ t ∷ []) → ⊥
not_unexpected {A} L s a front t others w e none =
    let c = cut_stretch s (front ++ t ∷ []) others (e ∙ sym (append_assoc front (t ∷ []) others)) in
    none (c.0, c.3, (c.1, a, subst (λ z. Spells L z a) c.2 w))

-- where a token opens a level past the bound, and none before it does, that is answered, whatever comes behind it
pub read_deep : {A : Type 0} {L : Family A} {P : Reader A} {goes_on : Kinds} {room : ℕ → Type 0} → Faithful LEVELS L P goes_on room
    → (s : Stretch) (m : Marked) → Begins L (s ++ m ∷ []) → IsShallow s → LEVELS < m.level
    → (others : List Placed) → P (tokens_of s ++ m.token ∷ others) ≡ Err (Nesting (m.token ∷ others))
read_deep {A} {L} {P} {goes_on} {room} w s m b shallow past others =
    let front : List Placed = tokens_of s in
    let t : Placed = m.token in
    let tail : List Placed = tokens_of b.0 in
    let spelled : L b.2.0 (s ++ m ∷ b.0) b.1 = subst (λ z. L b.2.0 z b.1) (append_assoc s (m ∷ []) b.0) b.2.1 in
    let deep : P (front ++ t ∷ tail) ≡ Err (Nesting (t ∷ tail)) =
    whole_read L P goes_on room w b.2.0 (s ++ m ∷ b.0) b.1 (front ++ t ∷ tail) spelled (tokens-append s (m ∷ b.0))
    ∙ ap (λ z. settled_by z b.1 []) (from_deep-skip LEVELS s (m ∷ b.0) shallow ∙ from_deep-past LEVELS m b.0 past)
    ∙ ap (λ z. Err (Nesting (t ∷ z))) (append-nil tail) in
    stays_behind w front t tail others (λ z. Err (Nesting z)) (λ most z. z) deep
