-- One language or another, told apart by the next token: its shape is in Shapes; how it is read.
use Rattle.std.proofs.Common.{◌≡◌, ℕ, ◌+◌, ◌≤◌, List, [], ◌∷◌, ◌++◌, Bool, true, false, IsTrue, Ok, Err, length, inl, inr, refl, sym, ap, ◌∙◌, subst, arith, length-append, le_refl}
use Rattle.fk_parse_combinators.specs.Languages.{Placed, Stretch, tokens_of, Language, ◌or◌}
use Rattle.fk_parse_combinators.specs.Reads.{Stop, Unexpected, Answer}
use Rattle.fk_parse_combinators.specs.Readers.{Reader, next_is, either, by_next}
use Rattle.fk_parse_combinators.proofs.Sets.{Kinds, ◌∪◌, Apart, Within, next-within, within_left, within_right}
use Rattle.fk_parse_combinators.proofs.Exact.{Fronts, Shape, Sound, Stands, Local, IsSound, IsComplete, IsLocal, ExactAt, Exact, settled}
use Rattle.fk_parse_combinators.proofs.Then.{Follows, follows_shape, stop_more}
use Rattle.fk_parse_combinators.proofs.Stretches.{nil_cut, same_head, settled_read, local_by}

-- ---- a larger language

-- each stretch of the one language spells the same in the other
abbrev pub Includes : {A : Type 0} → Language A → Language A → Type 0
Includes {A} L M = (s : Stretch) (a : A) → L s a → M s a

-- what is so of a language is so of a larger one
pub sound_more : (levels : ℕ) {A : Type 0} (L M : Language A) → Includes L M → (ts : List Placed) (answer : Answer A) → Sound levels L ts answer → Sound levels M ts answer
sound_more levels L M includes ts (Ok x) w = record { stretch = w.stretch; is = w.is; spelled = includes w.stretch x.0 w.spelled; shallow = w.shallow }
sound_more levels L M includes ts (Err stop) w =
    stop_more levels M L ts (λ s rest is g. record { more = g.more; value = g.value; spelled = includes (s ++ g.more) g.value g.spelled }) stop w

-- two languages with the same stretches
pub same_at : {levels : ℕ} {room : Type 0} {A : Type 0} (most : ℕ) (L M : Language A) (P : Reader A) (f : Kinds) → Includes L M → Includes M L
    → ExactAt levels most L P f room → ExactAt levels most M P f room
same_at {levels} most L M P f includes included p = record {
  sound = λ r ts fits. sound_more levels L M includes ts (P ts) (p.sound r ts fits);
  complete = λ s a rest m fits ends. p.complete s a rest (included s a m) fits ends;
  local = p.local;
}

-- a language with the same stretches is read as exactly
pub exact_same : {levels : ℕ} {room : Type 0} {A : Type 0} {L : Language A} (M : Language A) {P : Reader A} {f : Kinds} → Includes L M → Includes M L → Exact levels L P f room → Exact levels M P f room
exact_same {L} M {P} {f} includes included p = record { exact = λ most. same_at most L M P f includes included (p.exact most) }

-- ---- a token that begins a language isn't unexpected

-- at a token of these kinds that comes first no token is unexpected
abbrev pub IsWelcome : {A : Type 0} → ℕ → Kinds → Reader A → Type 0
IsWelcome most is P =
    (x : Placed) (others : List Placed) → IsTrue (is x.kind) → length (x ∷ others) ≤ most → P (x ∷ others) ≡ Err (Unexpected (x ∷ others)) → ⊥

no_front : (front : List Placed) (x : Placed) (rest others : List Placed) → x ∷ rest ≡ front ++ x ∷ rest → front ++ x ∷ others ≡ x ∷ others
no_front [] x rest others e = refl
no_front (y ∷ front) x rest others e = absurd (omega (arith, ap length e, length-append front (x ∷ rest)))

-- what is answered at the first token is answered whatever comes behind it
pub stays_anywhere : {levels : ℕ} {room : Type 0} {A : Type 0} {L : Language A} {P : Reader A} {f : Kinds} → Exact levels L P f room → room
    → (x : Placed) (others : List Placed) (stop : List Placed → Stop)
    → ((most : ℕ) → Local most P (x ∷ others) (Err (stop (x ∷ others))) → Stands most P (x ∷ others) x others (λ z. Err (stop z)))
    → P (x ∷ others) ≡ Err (stop (x ∷ others)) → (long : List Placed) → P (x ∷ long) ≡ Err (stop (x ∷ long))
stays_anywhere {P = P} p r x others stop stand e long =
    let more : ℕ = length (x ∷ others) + length (x ∷ long) in
    let stands : Stands more P (x ∷ others) x others (λ z. Err (stop z)) =
    stand more (subst (λ answer. Local more P (x ∷ others) answer) e ((p.exact more).local r (x ∷ others) (omega arith))) in
    let front : stands.front ++ x ∷ long ≡ x ∷ long = no_front stands.front x others long stands.is in
    rw front at (stands.stays long (rw front (omega arith)))

-- a token that begins a language is welcome
pub welcome : {levels : ℕ} {room : Type 0} {A : Type 0} {L : Language A} {level : ℕ} {is : Kinds} {P : Reader A} {f : Kinds}
    → Shape L level is room → Exact levels L P f room → room → (most : ℕ) → IsWelcome most is P
welcome {levels} {P = P} shape p r most x others h fits e =
    let w = shape.starts r x h in
    let s : Stretch = record { token = x; level = w.at } ∷ w.others in
    let long : List Placed = tokens_of w.others ++ [] in
    let stays : P (x ∷ long) ≡ Err (Unexpected (x ∷ long)) = stays_anywhere p r x others (λ z. Unexpected z) (λ more z. z) e long in
    let read : P (x ∷ long) ≡ settled levels s w.value [] = (p.exact (length (x ∷ long))).complete s w.value [] w.spelled (le_refl (length (x ∷ long))) refl in
    settled_read levels s w.value [] (x ∷ long) (sym read ∙ stays)

-- ---- one or the other

-- the next token is of the kinds
pub by_next-yes : {A : Type 0} (is : Kinds) (P Q : Reader A) (ts : List Placed) → IsTrue (next_is is ts) → by_next is P Q ts ≡ P ts
by_next-yes is P Q ts e = rw (e, either) refl

-- the next token is not of the kinds
pub by_next-no : {A : Type 0} (is : Kinds) (P Q : Reader A) (ts : List Placed) → next_is is ts ≡ false → by_next is P Q ts ≡ Q ts
by_next-no is P Q ts e = rw (e, either) refl

or_sound : (levels : ℕ) {A : Type 0} (most : ℕ) (L M : Language A) (is : Kinds) (P Q : Reader A) → IsSound levels most L P → IsSound levels most M Q → IsSound levels most (L or M) (by_next is P Q)
or_sound levels {A} most L M is P Q p q ts fits = by (next_is is ts)
  where
    by : (b : Bool) → Sound levels (L or M) ts (either b P Q ts)
    by true = sound_more levels L (L or M) (λ s a l. inl l) ts (P ts) (p ts fits)
    by false = sound_more levels M (L or M) (λ s a m. inr m) ts (Q ts) (q ts fits)

or_complete : (levels : ℕ) {room : Type 0} {A : Type 0} (most : ℕ) (L M : Language A) (level : ℕ) (is : Kinds) (P Q : Reader A) (f g goes_on : Kinds)
    → IsComplete levels most L P f → IsComplete levels most M Q g → Shape L level is room → Follows is M goes_on → Within f goes_on → Within g goes_on
    → IsComplete levels most (L or M) (by_next is P Q) goes_on
or_complete levels most L M level is P Q f g goes_on p q shape follows in_f in_g s a rest (inl l) fits ends =
    let w : Fronts is level s = shape.fronts s a l in
    by_next-yes is P Q (tokens_of s ++ rest) (rw w.is w.kind) ∙ p s a rest l fits (next-within f goes_on in_f rest ends)
or_complete levels most L M level is P Q f g goes_on p q shape follows in_f in_g s a rest (inr m) fits ends =
    by_next-no is P Q (tokens_of s ++ rest) (follows s a rest m ends) ∙ q s a rest m fits (next-within g goes_on in_g rest ends)

-- of tokens that begin with this one two readers answer the same
pub local_like : {A : Type 0} (most : ℕ) (P R : Reader A) (t : Placed) (ts : List Placed) (answer : Answer A)
    → ((others : List Placed) → R (t ∷ others) ≡ P (t ∷ others)) → Local most P (t ∷ ts) answer → Local most R (t ∷ ts) answer
local_like {A} most P R t ts answer same w =
    local_by most most P R (t ∷ ts) (t ∷ ts) stands (λ v x others h e. v x others h (sym (same (ts ++ x ∷ others)) ∙ e)) answer w
  where
    stands : (x : Placed) (rest : List Placed) (f : List Placed → Answer A) → Stands most P (t ∷ ts) x rest f → Stands most R (t ∷ ts) x rest f
    stands x rest f v = record {
      front = v.front;
      is = v.is;
      stays = λ others h.
          let head : (back : List Placed) × (v.front ++ x ∷ others ≡ t ∷ back) = same_head t ts v.front x rest v.is others in
          let same_there : R (v.front ++ x ∷ others) ≡ P (v.front ++ x ∷ others) = rw head.1 (same head.0) in
          same_there ∙ v.stays others h;
    }

-- an answer of one or the other rests on the tokens up to it
pub or_local : {A : Type 0} (most : ℕ) (is : Kinds) (P Q : Reader A) → IsLocal most P → IsLocal most Q → IsWelcome most is P → IsLocal most (by_next is P Q)
or_local {A} most is P Q p q welcomes [] fits =
    local_by most most Q (by_next is P Q) [] [] (λ x rest answer v. nil_cut v.front x rest v.is) (λ v x others h u. closes x others h (v x others h) (is x.kind) refl u)
    (Q []) (q [] fits)
  where
    closes : (x : Placed) (others : List Placed) → length (x ∷ others) ≤ most → (Q (x ∷ others) ≡ Err (Unexpected (x ∷ others)) → ⊥)
        → (b : Bool) → is x.kind ≡ b → either b P Q (x ∷ others) ≡ Err (Unexpected (x ∷ others)) → ⊥
    closes x others h v true e u = welcomes x others e h u
    closes x others h v false e u = v u
or_local {A} most is P Q p q welcomes (t ∷ ts) fits = by (is t.kind) refl
  where
    by : (b : Bool) → is t.kind ≡ b → Local most (by_next is P Q) (t ∷ ts) (either b P Q (t ∷ ts))
    by true e = local_like most P (by_next is P Q) t ts (P (t ∷ ts)) (λ others. by_next-yes is P Q (t ∷ others) e) (p (t ∷ ts) fits)
    by false e = local_like most Q (by_next is P Q) t ts (Q (t ∷ ts)) (λ others. by_next-no is P Q (t ∷ others) e) (q (t ∷ ts) fits)

-- one or the other is read exactly, of so many tokens
pub or_at : {levels : ℕ} {room : Type 0} {A : Type 0} (most : ℕ) (L M : Language A) (level : ℕ) (is : Kinds) (P Q : Reader A) (f g goes_on : Kinds)
    → ExactAt levels most L P f room → ExactAt levels most M Q g room → Shape L level is room → (room → IsWelcome most is P) → Follows is M goes_on → Within f goes_on → Within g goes_on
    → ExactAt levels most (L or M) (by_next is P Q) goes_on room
or_at {levels} most L M level is P Q f g goes_on p q shape welcomes follows in_f in_g = record {
  sound = λ r. or_sound levels most L M is P Q (p.sound r) (q.sound r);
  complete = or_complete levels most L M level is P Q f g goes_on p.complete q.complete shape follows in_f in_g;
  local = λ r. or_local most is P Q (p.local r) (q.local r) (welcomes r);
}

-- one or the other is read exactly, if the first kinds of the one don't come first where the other is
pub exact_or_by : {levels : ℕ} {room : Type 0} {A : Type 0} {L M : Language A} {level : ℕ} {is : Kinds} {P Q : Reader A} {f g : Kinds} (goes_on : Kinds)
    → Exact levels L P f room → Exact levels M Q g room → Shape L level is room → Follows is M goes_on → Within f goes_on → Within g goes_on
    → Exact levels (L or M) (by_next is P Q) goes_on room
exact_or_by {L} {M} {level} {is} {P} {Q} {f} {g} goes_on p q shape follows in_f in_g = record {
  exact = λ most. or_at most L M level is P Q f g goes_on (p.exact most) (q.exact most) shape (λ r. welcome shape p r most) follows in_f in_g;
}

-- two languages neither of which has the empty stretch, with no first kind in common
pub exact_or : {levels : ℕ} {room : Type 0} {A : Type 0} {L M : Language A} {level : ℕ} {is first : Kinds} {P Q : Reader A} {f g : Kinds}
    → Exact levels L P f room → Exact levels M Q g room → Shape L level is room → Shape M level first room → Apart is first
    → Exact levels (L or M) (by_next is P Q) (f ∪ g) room
exact_or {is = is} {f = f} {g = g} p q shape other apart = exact_or_by (f ∪ g) p q shape (follows_shape is (f ∪ g) other apart) (within_left f g) (within_right f g)
