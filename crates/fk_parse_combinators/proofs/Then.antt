-- What is made of a language, and one language after another: their shapes, and how they are read.
use Rattle.std.proofs.Common.{◌≡◌, ℕ, ◌+◌, ◌≤◌, List, [], ◌∷◌, ◌++◌, false, Ok, Err, length, inl, inr, refl, sym, ap, ◌∙◌, subst, append_assoc, arith, length-append, zero-le}
use Rattle.fk_parse_combinators.specs.Languages.{Placed, Stretch, tokens_of, Language, ◌then◌, making}
use Rattle.fk_parse_combinators.specs.Reads.{Stop, Unexpected, EndOfText, Nesting, Answer}
use Rattle.fk_parse_combinators.specs.Readers.{Reader, after, giving, ◌and◌, next_is}
use Rattle.fk_parse_combinators.proofs.Sets.{Kinds, ◌∪◌, Apart, Within, next-within, apart-false, within_left, within_right}
use Rattle.fk_parse_combinators.proofs.Exact.{Fronts, Example, Goes, Shape, LooseShape, StaysWithin, Sound, SoundValue, Closes, Stands, Local, IsSound, IsComplete, IsLocal, ExactAt, Exact, settled}
use Rattle.fk_parse_combinators.proofs.Stretches.{tokens_regroup, length-tokens, twice, nil_cut, same_head, shallow-nil, shallow-append, settled_giving, settled_then, local_made}

-- ---- where nothing is read

-- a stretch, and what comes first in the tokens behind it
tokens_behind : (s t : Stretch) (ts r rest : List Placed) → ts ≡ tokens_of s ++ r → r ≡ tokens_of t ++ rest → ts ≡ tokens_of (s ++ t) ++ rest
tokens_behind s t ts r rest e d = rw (e, d) (sym (tokens_regroup s t rest))

-- behind a shallow stretch, where with it a language goes on as another does
stop_behind : (levels : ℕ) {A B : Type 0} (L : Language A) (M : Language B) (s : Stretch) (ts r : List Placed) → StaysWithin levels s → ts ≡ tokens_of s ++ r
    → ((t : Stretch) (rest : List Placed) → r ≡ tokens_of t ++ rest → Goes M t → Goes L (s ++ t))
    → (stop : Stop) → Sound levels M r (Err stop) → Sound levels L ts (Err stop)
stop_behind levels L M s ts r shallow is goes (Unexpected rest) w = (
  record {
    stretch = s ++ w.0.stretch;
    is = tokens_behind s w.0.stretch ts r rest is w.0.is;
    goes = goes w.0.stretch rest w.0.is w.0.goes;
    shallow = shallow-append levels s w.0.stretch shallow w.0.shallow;
  },
  w.1,
)
stop_behind levels L M s ts r shallow is goes EndOfText w = record {
  stretch = s ++ w.stretch;
  is = tokens_behind s w.stretch ts r [] is w.is;
  goes = goes w.stretch [] w.is w.goes;
  shallow = shallow-append levels s w.stretch shallow w.shallow;
}
stop_behind levels L M s ts r shallow is goes (Nesting rest) w =
    let whole : r ≡ tokens_of (w.stretch ++ w.deep ∷ []) ++ w.others =
    w.is ∙ ap (λ z. tokens_of w.stretch ++ z) w.next ∙ sym (tokens_regroup w.stretch (w.deep ∷ []) w.others) in
    record {
      stretch = s ++ w.stretch;
      deep = w.deep;
      others = w.others;
      is = tokens_behind s w.stretch ts r rest is w.is;
      next = w.next;
      goes = rw (append_assoc s w.stretch (w.deep ∷ [])) (goes (w.stretch ++ w.deep ∷ []) w.others whole w.goes);
      shallow = shallow-append levels s w.stretch shallow w.shallow;
      past = w.past;
    }

-- where a language goes on as another does
pub stop_more : (levels : ℕ) {A B : Type 0} (L : Language A) (M : Language B) (ts : List Placed)
    → ((s : Stretch) (rest : List Placed) → ts ≡ tokens_of s ++ rest → Goes M s → Goes L s) → (stop : Stop) → Sound levels M ts (Err stop) → Sound levels L ts (Err stop)
stop_more levels L M ts goes stop w = stop_behind levels L M [] ts ts (shallow-nil levels) refl goes stop w

-- ---- what is made of a language

-- what goes on to one goes on to what is made of it
goes_making : {A B : Type 0} (f : A → B) (L : Language A) (s : Stretch) → Goes L s → Goes (making f L) s
goes_making f L s g = record { more = g.more; value = f g.value; spelled = (g.value, g.spelled, refl) }

giving_sound : (levels : ℕ) {A B : Type 0} (f : A → B) (most : ℕ) (L : Language A) (P : Reader A) → IsSound levels most L P → IsSound levels most (making f L) (giving f P)
giving_sound levels {A} {B} f most L P p ts fits = by (P ts) (p ts fits)
  where
    by : (answer : Answer A) → Sound levels L ts answer → Sound levels (making f L) ts (after answer (λ a rest. Ok (f a, rest)))
    by (Ok (a, rest)) w = record { stretch = w.stretch; is = w.is; spelled = (a, w.spelled, refl); shallow = w.shallow }
    by (Err stop) w = stop_more levels (making f L) L ts (λ s rest is g. goes_making f L s g) stop w

giving_complete : (levels : ℕ) {A B : Type 0} (f : A → B) (most : ℕ) (L : Language A) (P : Reader A) (goes_on : Kinds)
    → IsComplete levels most L P goes_on → IsComplete levels most (making f L) (giving f P) goes_on
giving_complete levels f most L P goes_on p s b rest l fits ends =
    rw l.2 (settled_giving levels f s l.0 rest (P (tokens_of s ++ rest)) (p s l.0 rest l.1 fits ends))

-- what is left where something is made of an answer is left where it isn't
pub after_err : {A B : Type 0} (answer : Answer A) (f : A → B) (stop : Stop) → after {B = B} answer (λ a rest. Ok (f a, rest)) ≡ Err stop → answer ≡ Err stop
after_err (Ok (a, rest)) f stop e = cc
after_err (Err stop') f stop e = cc

giving_local : {A B : Type 0} (f : A → B) (most : ℕ) (P : Reader A) → IsLocal most P → IsLocal most (giving f P)
giving_local {A} {B} f most P p ts fits =
    local_made f most most P (giving f P) ts ts (λ x rest answer w. record { front = w.front; is = w.is; stays = λ others h. rw (w.stays others h) refl })
    (λ w x others h e. w x others h (after_err (P (ts ++ x ∷ others)) f (Unexpected (x ∷ others)) e)) (P ts) (p ts fits)

-- what is made of a language is read exactly, of so many tokens
pub giving_at : {levels : ℕ} {room : Type 0} {A B : Type 0} (f : A → B) (most : ℕ) (L : Language A) (P : Reader A) (goes_on : Kinds)
    → ExactAt levels most L P goes_on room → ExactAt levels most (making f L) (giving f P) goes_on room
giving_at {levels} f most L P goes_on p = record {
  sound = λ r. giving_sound levels f most L P (p.sound r);
  complete = giving_complete levels f most L P goes_on p.complete;
  local = λ r. giving_local f most P (p.local r);
}

-- what is made of a language is read exactly
pub exact_making : {levels : ℕ} {room : Type 0} {A B : Type 0} (f : A → B) {L : Language A} {P : Reader A} {goes_on : Kinds}
    → Exact levels L P goes_on room → Exact levels (making f L) (giving f P) goes_on room
exact_making f {L} {P} {goes_on} p = record { exact = λ most. giving_at f most L P goes_on (p.exact most) }

-- ---- one language after another

-- a stretch of the language leaves at most so many of so many tokens
abbrev pub Spends : {A : Type 0} → Language A → ℕ → ℕ → Type 0
Spends {A} L most less = (s : Stretch) (a : A) → L s a → most ≤ length s + less

-- each stretch leaves at most as many as there are
pub spends_any : {A : Type 0} (L : Language A) (most : ℕ) → Spends L most most
spends_any L most s a l = omega arith

-- a stretch of the language, and what comes after it
abbrev pub Follows : {A : Type 0} → Kinds → Language A → Kinds → Type 0
Follows {A} f M goes_on = (s : Stretch) (a : A) (rest : List Placed) → M s a → next_is goes_on rest ≡ false → next_is f (tokens_of s ++ rest) ≡ false

next-front : (f first : Kinds) (level : ℕ) → Apart f first → (s : Stretch) → Fronts first level s → (rest : List Placed) → next_is f (tokens_of s ++ rest) ≡ false
next-front f first level apart s w rest = rw w.is (apart-false f first apart w.front.token.kind w.kind)

-- what comes after begins with none of these kinds, if that language isn't empty and its first kinds are apart from them
pub follows_shape : {room : Type 0} {A : Type 0} (f : Kinds) {M : Language A} (goes_on : Kinds) {level : ℕ} {first : Kinds}
    → Shape M level first room → Apart f first → Follows f M goes_on
follows_shape f {M} goes_on {level} {first} shape apart s a rest l ends = next-front f first level apart s (shape.fronts s a l) rest

-- nor if it may be empty and they go on with the whole too
pub follows_loose : {room : Type 0} {A : Type 0} (f : Kinds) {M : Language A} (goes_on : Kinds) {level : ℕ} {first : Kinds}
    → LooseShape M level first room → Apart f first → Within f goes_on → Follows f M goes_on
follows_loose f {M} goes_on {level} {first} shape apart within s a rest l ends =
    elim (shape.fronts s a l) [
      | inl e ↦ rw e (next-within f goes_on within rest ends)
      | inr w ↦ next-front f first level apart s w rest
    ]

-- a reader leaves at most so many of so many tokens
abbrev pub Leaves : {A : Type 0} → ℕ → Reader A → ℕ → Type 0
Leaves {A} most P less = (ts : List Placed) → length ts ≤ most → (a : A) (rest : List Placed) → P ts ≡ Ok (a, rest) → length rest ≤ less

-- a sound reader leaves what a stretch of its language leaves
pub leaves_by : (levels : ℕ) {A : Type 0} (most less : ℕ) (L : Language A) (P : Reader A) → Spends L most less → IsSound levels most L P → Leaves most P less
leaves_by levels {A} most less L P spends p ts fits a rest e = by (subst (λ answer. Sound levels L ts answer) e (p ts fits))
  where
    by : SoundValue levels L ts a rest → length rest ≤ less
    by w = omega (arith, spends w.stretch a w.spelled, ap length w.is, length-tokens w.stretch rest)

goes_before : {A B : Type 0} (L : Language A) (M : Language B) (s : Stretch) → Goes L s → Example M → Goes (L then M) s
goes_before L M s g x = record {
  more = g.more ++ x.stretch;
  value = (g.value, x.value);
  spelled = (s ++ g.more, x.stretch, sym (append_assoc s g.more x.stretch), g.spelled, x.spelled);
}

goes_behind : {A B : Type 0} (L : Language A) (M : Language B) (s t : Stretch) (a : A) → L s a → Goes M t → Goes (L then M) (s ++ t)
goes_behind L M s t a l g = record {
  more = g.more;
  value = (a, g.value);
  spelled = (s, t ++ g.more, append_assoc s t g.more, l, g.spelled);
}

pub then_sound_second : (levels : ℕ) {A B : Type 0} (L : Language A) (M : Language B) (ts r : List Placed) (a : A) → SoundValue levels L ts a r
    → (answer : Answer B) → Sound levels M r answer → Sound levels (L then M) ts (after answer (λ b others. Ok ((a, b), others)))
then_sound_second levels L M ts r a v (Ok (b, rest)) w = record {
  stretch = v.stretch ++ w.stretch;
  is = tokens_behind v.stretch w.stretch ts r rest v.is w.is;
  spelled = (v.stretch, w.stretch, refl, v.spelled, w.spelled);
  shallow = shallow-append levels v.stretch w.stretch v.shallow w.shallow;
}
then_sound_second levels L M ts r a v (Err stop) w =
    stop_behind levels (L then M) M v.stretch ts r v.shallow v.is (λ t rest is g. goes_behind L M v.stretch t a v.spelled g) stop w

then_sound : (levels : ℕ) {A B : Type 0} (most less : ℕ) (L : Language A) (M : Language B) (P : Reader A) (Q : Reader B)
    → IsSound levels most L P → IsSound levels less M Q → Leaves most P less → Example M → IsSound levels most (L then M) (P and Q)
then_sound levels {A} {B} most less L M P Q p q leaves x ts fits = by (P ts) refl (p ts fits)
  where
    by : (answer : Answer A) → P ts ≡ answer → Sound levels L ts answer
        → Sound levels (L then M) ts (after answer (λ a rest. after (Q rest) (λ b others. Ok ((a, b), others))))
    by (Ok (a, rest)) e w = then_sound_second levels L M ts rest a w (Q rest) (q rest (leaves ts fits a rest e))
    by (Err stop) e w = stop_more levels (L then M) L ts (λ s rest is g. goes_before L M s g x) stop w

pub then_complete : (levels : ℕ) {A B : Type 0} (most less : ℕ) (L : Language A) (M : Language B) (P : Reader A) (Q : Reader B) (f g goes_on : Kinds)
    → IsComplete levels most L P f → IsComplete levels less M Q g → Spends L most less → Follows f M goes_on → Within g goes_on
    → IsComplete levels most (L then M) (P and Q) goes_on
then_complete levels {A} {B} most less L M P Q f g goes_on p q spends follows within s x rest l fits ends = by l.0 l.1 l.2 l.3 l.4
  where
    by : (front back : Stretch) → s ≡ front ++ back → L front x.0 → M back x.1 → (P and Q) (tokens_of s ++ rest) ≡ settled levels s x rest
    by front back e m n =
        let whole : length (tokens_of (front ++ back) ++ rest) ≤ most = subst (λ z. length (tokens_of z ++ rest) ≤ most) e fits in
        let split : tokens_of (front ++ back) ++ rest ≡ tokens_of front ++ (tokens_of back ++ rest) = tokens_regroup front back rest in
        let first_fits : length (tokens_of front ++ (tokens_of back ++ rest)) ≤ most = rw split at whole in
        let back_fits : length (tokens_of back ++ rest) ≤ less = omega (arith, spends front x.0 m, length-tokens front (tokens_of back ++ rest)) in
        let first : P (tokens_of front ++ (tokens_of back ++ rest)) ≡ settled levels front x.0 (tokens_of back ++ rest) =
        p front x.0 (tokens_of back ++ rest) m first_fits (follows back x.1 rest n ends) in
        let second : Q (tokens_of back ++ rest) ≡ settled levels back x.1 rest = q back x.1 rest n back_fits (next-within g goes_on within rest ends) in
        rw (e, split, first) (settled_then levels front back x.0 x.1 rest Q second)

-- ---- an answer of the second rests on the tokens of both

then_stands_first : {A B : Type 0} (most : ℕ) (P : Reader A) (Q : Reader B) (ts : List Placed) (x : Placed) (rest : List Placed) (stop : List Placed → Stop)
    → Stands most P ts x rest (λ r. Err (stop r)) → Stands most (P and Q) ts x rest (λ r. Err (stop r))
then_stands_first most P Q ts x rest stop w = record { front = w.front; is = w.is; stays = λ others h. rw (w.stays others h) refl }

then_stands : {A B : Type 0} (most less : ℕ) (P : Reader A) (Q : Reader B) (ts : List Placed) (a : A) (x : Placed) (r : List Placed) (y : Placed) (rest : List Placed)
    (answer : List Placed → Answer B) → Leaves most P less → Stands most P ts x r (λ z. Ok (a, z)) → Stands less Q (x ∷ r) y rest answer
    → Stands most (P and Q) ts y rest (λ z. after (answer z) (λ b others. Ok ((a, b), others)))
then_stands {A} {B} most less P Q ts a x r y rest answer leaves w v = record {
  front = w.front ++ v.front;
  is = w.is ∙ ap (λ z. w.front ++ z) v.is ∙ sym (append_assoc w.front v.front (y ∷ rest));
  stays = stays;
}
  where
    stays : (others : List Placed) → length ((w.front ++ v.front) ++ y ∷ others) ≤ most
        → (P and Q) ((w.front ++ v.front) ++ y ∷ others) ≡ after {B = A × B} (answer (y ∷ others)) (λ b others. Ok ((a, b), others))
    stays others h =
        let head : (back : List Placed) × (v.front ++ y ∷ others ≡ x ∷ back) = same_head x r v.front y rest v.is others in
        let split : (w.front ++ v.front) ++ y ∷ others ≡ w.front ++ x ∷ head.0 = append_assoc w.front v.front (y ∷ others) ∙ ap (λ z. w.front ++ z) head.1 in
        let fits : length (w.front ++ x ∷ head.0) ≤ most = rw split at h in
        let first : P (w.front ++ x ∷ head.0) ≡ Ok (a, x ∷ head.0) = w.stays head.0 fits in
        let left : length (x ∷ head.0) ≤ less = leaves (w.front ++ x ∷ head.0) fits a (x ∷ head.0) first in
        let second : Q (v.front ++ y ∷ others) ≡ answer (y ∷ others) = v.stays others (rw head.1 left) in
        let second_there : Q (x ∷ head.0) ≡ answer (y ∷ others) = rw head.1 at second in
        rw (split, first, second_there) refl

-- the tokens behind what was read
left_of : {A : Type 0} → Answer A → List Placed
left_of (Ok x) = x.1
left_of (Err stop) = []

-- the first reads all, and so does the second of nothing
then_closes_at_end : {A B : Type 0} (most less : ℕ) (P : Reader A) (Q : Reader B) (ts : List Placed) (a : A) → IsLocal most P → IsLocal less Q → Leaves most P less
    → length ts ≤ most → P ts ≡ Ok (a, []) → Closes most P ts → Closes less Q [] → Closes most (P and Q) ts
unfolding left_of
then_closes_at_end {A} {B} most less P Q ts a p q leaves small e w v x others fits u = by (P (ts ++ x ∷ others)) refl (p (ts ++ x ∷ others) fits) u
  where
    inner : (r : List Placed) → length r ≤ less → Q r ≡ Err (Unexpected (x ∷ others)) → Stands less Q r x others (λ z. Err (Unexpected z))
    inner r h d = subst (λ answer. Local less Q r answer) d (q r h)

    -- the first reads a part of the tokens, or all of them
    cut : (a' : A) (y : Placed) (r front : List Placed) → ((between : List Placed) → length (front ++ y ∷ between) ≤ most → P (front ++ y ∷ between) ≡ Ok (a', y ∷ between))
        → length (y ∷ r) ≤ less → Q (y ∷ r) ≡ Err (Unexpected (x ∷ others)) → (between : List Placed) → ts ≡ front ++ between → y ∷ r ≡ between ++ x ∷ others → ⊥
    cut a' y r front stays left read [] is same = v x others (omega (arith, left, ap length same)) (cc)
    cut a' y r front stays left read (z ∷ between) is same =
        let head : z ≡ y = cc in
        let here : ts ≡ front ++ y ∷ between = is ∙ ap (λ t. front ++ t ∷ between) head in
        let whole : P (front ++ y ∷ between) ≡ Ok (a', y ∷ between) = stays between (rw (← here) small) in
        let there : P ts ≡ Ok (a', y ∷ between) = rw here whole in
        let nothing_left : [] ≡ y ∷ between = ap left_of (sym e ∙ there) in
        absurd (cc)

    by : (answer : Answer A) → P (ts ++ x ∷ others) ≡ answer → Local most P (ts ++ x ∷ others) answer
        → after {B = A × B} answer (λ a rest. after (Q rest) (λ b more. Ok ((a, b), more))) ≡ Err (Unexpected (x ∷ others)) → ⊥
    by (Err z) d l u = w x others fits cc
    by (Ok (a', [])) d l u =
        let f = inner [] zero-le (after_err (Q []) (λ b. (a', b)) (Unexpected (x ∷ others)) u) in
        nil_cut f.front x others f.is
    by (Ok (a', y ∷ r)) d l u =
        let read : Q (y ∷ r) ≡ Err (Unexpected (x ∷ others)) = after_err (Q (y ∷ r)) (λ b. (a', b)) (Unexpected (x ∷ others)) u in
        let left : length (y ∷ r) ≤ less = leaves (ts ++ x ∷ others) fits a' (y ∷ r) d in
        elim (twice ts (x ∷ others) l.front (y ∷ r) l.is) [
          | inl c ↦ cut a' y r l.front l.stays left read c.0 c.1 c.2
          | inr c ↦
              let f = inner (y ∷ r) left read in
              absurd (omega (arith, ap length f.is, ap length c.3, length-append f.front (x ∷ others), length-append c.1 (y ∷ r)))
        ]

pub then_local : {A B : Type 0} (most less : ℕ) (P : Reader A) (Q : Reader B) → IsLocal most P → IsLocal less Q → Leaves most P less → IsLocal most (P and Q)
then_local {A} {B} most less P Q p q leaves ts fits = by (P ts) refl (p ts fits)
  where
    -- the second reads nothing, where nothing is left
    at_end : (a : A) → P ts ≡ Ok (a, []) → Closes most P ts → Local most (P and Q) ts (after (Q []) (λ b others. Ok ((a, b), others)))
    at_end a e w =
        local_made (λ b. (a, b)) less most Q (P and Q) [] ts (λ x rest answer v. nil_cut v.front x rest v.is)
        (then_closes_at_end most less P Q ts a p q leaves fits e w) (Q []) (q [] zero-le)

    -- the second goes on at a token
    on : (a : A) (x : Placed) (r : List Placed) → length (x ∷ r) ≤ less → Stands most P ts x r (λ z. Ok (a, z))
        → Local most (P and Q) ts (after (Q (x ∷ r)) (λ b others. Ok ((a, b), others)))
    on a x r left w =
        local_made (λ b. (a, b)) less most Q (P and Q) (x ∷ r) ts (λ y rest answer v. then_stands most less P Q ts a x r y rest answer leaves w v)
        closes (Q (x ∷ r)) (q (x ∷ r) left)
      where
        closes : Closes less Q (x ∷ r) → Closes most (P and Q) ts
        closes v y others h u =
            let split : ts ++ y ∷ others ≡ w.front ++ x ∷ (r ++ y ∷ others) = ap (λ z. z ++ y ∷ others) w.is ∙ append_assoc w.front (x ∷ r) (y ∷ others) in
            let small : length (w.front ++ x ∷ (r ++ y ∷ others)) ≤ most = rw split at h in
            let first : P (w.front ++ x ∷ (r ++ y ∷ others)) ≡ Ok (a, x ∷ (r ++ y ∷ others)) = w.stays (r ++ y ∷ others) small in
            let left : length (x ∷ (r ++ y ∷ others)) ≤ less = leaves (w.front ++ x ∷ (r ++ y ∷ others)) small a (x ∷ (r ++ y ∷ others)) first in
            v y others left (after_err (Q (x ∷ (r ++ y ∷ others))) (λ b. (a, b)) (Unexpected (y ∷ others)) (rw (split, first) at u))

    by : (answer : Answer A) → P ts ≡ answer → Local most P ts answer
        → Local most (P and Q) ts (after answer (λ a rest. after (Q rest) (λ b others. Ok ((a, b), others))))
    by (Ok (a, [])) e w = at_end a e w
    by (Ok (a, x ∷ r)) e w = on a x r (leaves ts fits a (x ∷ r) e) w
    by (Err (Unexpected [])) e w = w
    by (Err (Unexpected (x ∷ rest))) e w = then_stands_first most P Q ts x rest (λ z. Unexpected z) w
    by (Err EndOfText) e w = tt
    by (Err (Nesting [])) e w = w
    by (Err (Nesting (x ∷ rest))) e w = then_stands_first most P Q ts x rest (λ z. Nesting z) w

-- ---- one language after another is read exactly

-- one after the other is read exactly, of so many tokens
pub then_at : {levels : ℕ} {room : Type 0} {A B : Type 0} (most less : ℕ) (L : Language A) (M : Language B) (P : Reader A) (Q : Reader B) (f g goes_on : Kinds)
    → ExactAt levels most L P f room → ExactAt levels less M Q g room → Spends L most less → Follows f M goes_on → Within g goes_on → (room → Example M)
    → ExactAt levels most (L then M) (P and Q) goes_on room
then_at {levels} most less L M P Q f g goes_on p q spends follows within x = record {
  sound = λ r. then_sound levels most less L M P Q (p.sound r) (q.sound r) (leaves_by levels most less L P spends (p.sound r)) (x r);
  complete = then_complete levels most less L M P Q f g goes_on p.complete q.complete spends follows within;
  local = λ r. then_local most less P Q (p.local r) (q.local r) (leaves_by levels most less L P spends (p.sound r));
}

-- one after the other is read exactly, if what follows the first doesn't go on with it
pub exact_then_by : {levels : ℕ} {room : Type 0} {A B : Type 0} {L : Language A} {M : Language B} {P : Reader A} {Q : Reader B} {f g : Kinds} (goes_on : Kinds)
    → Exact levels L P f room → Exact levels M Q g room → Follows f M goes_on → Within g goes_on → (room → Example M)
    → Exact levels (L then M) (P and Q) goes_on room
exact_then_by {L} {M} {P} {Q} {f} {g} goes_on p q follows within x = record {
  exact = λ most. then_at most most L M P Q f g goes_on (p.exact most) (q.exact most) (spends_any L most) follows within x;
}

-- where the second isn't empty, and none of its first kinds goes on with the first
pub exact_then : {levels : ℕ} {room : Type 0} {A B : Type 0} {L : Language A} {M : Language B} {P : Reader A} {Q : Reader B} {f g : Kinds} {level : ℕ} {first : Kinds}
    → Exact levels L P f room → Exact levels M Q g room → Shape M level first room → Apart f first
    → Exact levels (L then M) (P and Q) g room
exact_then {f = f} {g = g} p q shape apart = exact_then_by g p q (follows_shape f g shape apart) (λ k h. h) shape.example

-- where the second may be empty
pub exact_then_loose : {levels : ℕ} {room : Type 0} {A B : Type 0} {L : Language A} {M : Language B} {P : Reader A} {Q : Reader B} {f g : Kinds} {level : ℕ} {first : Kinds}
    → Exact levels L P f room → Exact levels M Q g room → LooseShape M level first room → Apart f first
    → Exact levels (L then M) (P and Q) (f ∪ g) room
exact_then_loose {f = f} {g = g} p q shape apart =
    exact_then_by (f ∪ g) p q (follows_loose f (f ∪ g) shape apart (within_left f g)) (within_right f g)
    (λ r. let e = shape.empty r in record { stretch = []; value = e.value; spelled = e.spelled })

-- more kinds may go on
pub exact_wider : {levels : ℕ} {room : Type 0} {A : Type 0} {L : Language A} {P : Reader A} {f : Kinds} (g : Kinds) → Within f g → Exact levels L P f room → Exact levels L P g room
exact_wider {f = f} g within p = record {
  exact = λ most. record {
    sound = (p.exact most).sound;
    complete = λ s a rest l fits ends. (p.exact most).complete s a rest l fits (next-within f g within rest ends);
    local = (p.exact most).local;
  };
}

-- less room
pub exact_room : {levels : ℕ} {small large : Type 0} {A : Type 0} {L : Language A} {P : Reader A} {f : Kinds} → (small → large) → Exact levels L P f large → Exact levels L P f small
exact_room enough p = record {
  exact = λ most. record {
    sound = λ r. (p.exact most).sound (enough r);
    complete = (p.exact most).complete;
    local = λ r. (p.exact most).local (enough r);
  };
}
