-- A language whose stretches are read by one reader or another.
use Rattle.std.proofs.Common.{◌≡◌, ℕ, ◌≤◌, List, ◌∷◌, ◌++◌, Bool, true, false, IsTrue, length, ◌⊎◌, inl, inr, sym, ap, ◌∙◌, arith, append_assoc, length-append}
use Rattle.fk_parse_combinators.specs.Languages.{Placed, Stretch, tokens_of, Language}
use Rattle.fk_parse_combinators.specs.Reads.{Answer}
use Rattle.fk_parse_combinators.specs.Readers.{Reader, next_is, either, by_next}
use Rattle.fk_parse_combinators.proofs.Sets.{Kinds, ◌∪◌, Within, next-within, within_left, within_right}
use Rattle.fk_parse_combinators.proofs.Exact.{Shape, Sound, Closes, Stands, Local, IsLocal, Exact, settled}
use Rattle.fk_parse_combinators.proofs.Stretches.{local_by}
use Rattle.fk_parse_combinators.proofs.Or.{Includes, sound_more, or_local, welcome}

-- ---- by the next token

-- each stretch is one of the first language and begins with these kinds, or one of the second and doesn't
abbrev pub TellsApart : {A : Type 0} → Kinds → Language A → Language A → Language A → Type 0
TellsApart {A} is L M N = (s : Stretch) (a : A) → N s a
    → (L s a × ((rest : List Placed) → IsTrue (next_is is (tokens_of s ++ rest)))) ⊎ (M s a × ((rest : List Placed) → next_is is (tokens_of s ++ rest) ≡ false))

-- where the first language may have stretches that begin otherwise
pub exact_choice : {levels : ℕ} {room : Type 0} {A : Type 0} {L M : Language A} (N : Language A) {P Q : Reader A} {f g : Kinds} {level : ℕ} {first : Kinds} (is : Kinds)
    → Exact levels L P f room → Exact levels M Q g room → Shape L level first room → Within is first → Includes L N → Includes M N → TellsApart is L M N
    → Exact levels N (by_next is P Q) (f ∪ g) room
exact_choice {levels} {room} {A} {L} {M} N {P} {Q} {f} {g} is p q shape within in_l in_m tells = record {
  exact = λ most. record {
    sound = λ r ts fits. sound most r ts fits (next_is is ts);
    complete = λ s a rest n fits ends. complete most s a rest (tells s a n) fits ends;
    local = λ r. or_local most is P Q ((p.exact most).local r) ((q.exact most).local r)
        (λ x others h. welcome shape p r most x others (within x.kind h));
  };
}
  where
    sound : (most : ℕ) → room → (ts : List Placed) → length ts ≤ most → (b : Bool) → Sound levels N ts (either b P Q ts)
    sound most r ts fits true = sound_more levels L N in_l ts (P ts) ((p.exact most).sound r ts fits)
    sound most r ts fits false = sound_more levels M N in_m ts (Q ts) ((q.exact most).sound r ts fits)

    complete : (most : ℕ) (s : Stretch) (a : A) (rest : List Placed)
        → (L s a × ((rest : List Placed) → IsTrue (next_is is (tokens_of s ++ rest)))) ⊎ (M s a × ((rest : List Placed) → next_is is (tokens_of s ++ rest) ≡ false))
        → length (tokens_of s ++ rest) ≤ most → next_is (f ∪ g) rest ≡ false → by_next is P Q (tokens_of s ++ rest) ≡ settled levels s a rest
    complete most s a rest (inl w) fits ends = rw (w.1 rest) ((p.exact most).complete s a rest w.0 fits (next-within f (f ∪ g) (within_left f g) rest ends))
    complete most s a rest (inr w) fits ends = rw (w.1 rest) ((q.exact most).complete s a rest w.0 fits (next-within g (f ∪ g) (within_right f g) rest ends))

-- ---- by several tokens

-- what is answered behind some tokens as another reader answers rests on the tokens as that reader's answers do
pub local_behind : {A : Type 0} (most : ℕ) (front : List Placed) (R G : Reader A) → ((others : List Placed) → R (front ++ others) ≡ G others) → IsLocal most G
    → (ts : List Placed) → length (front ++ ts) ≤ most → Local most R (front ++ ts) (R (front ++ ts))
local_behind {A} most front R G same g ts fits = rw (same ts) (local_by most most G R ts (front ++ ts) stands closes (G ts) (g ts less))
  where
    less : length ts ≤ most
    less = omega (arith, length-append front ts)

    stands : (x : Placed) (rest : List Placed) (answer : List Placed → Answer A) → Stands most G ts x rest answer → Stands most R (front ++ ts) x rest answer
    stands x rest answer v = record {
      front = front ++ v.front;
      is = ap (λ z. front ++ z) v.is ∙ sym (append_assoc front v.front (x ∷ rest));
      stays = λ others h.
          let split : (front ++ v.front) ++ x ∷ others ≡ front ++ (v.front ++ x ∷ others) = append_assoc front v.front (x ∷ others) in
          rw (split, same (v.front ++ x ∷ others)) (v.stays others (omega (arith, h, ap length split, length-append front (v.front ++ x ∷ others))));
    }

    closes : Closes most G ts → Closes most R (front ++ ts)
    closes v x others h e =
        let split : (front ++ ts) ++ x ∷ others ≡ front ++ (ts ++ x ∷ others) = append_assoc front ts (x ∷ others) in
        v x others (omega (arith, h, ap length split, length-append front (ts ++ x ∷ others))) (sym (same (ts ++ x ∷ others)) ∙ rw split at e)
