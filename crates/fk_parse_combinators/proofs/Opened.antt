-- What opens a level, where there may be one more and where there may not.
use Rattle.std.proofs.Common.{◌≡◌, ℕ, ◌<◌, List, [], ◌∷◌, ◌++◌, Option, Some, None, Bool, true, false, Err, refl, sym, ◌∙◌, subst, le_trans}
use Rattle.fk_parse_combinators.specs.Languages.{Placed, tokens_of, Language}
use Rattle.fk_parse_combinators.specs.Reads.{Nesting}
use Rattle.fk_parse_combinators.specs.Readers.{Reader, next_is, either, by_next, unexpected, opened}
use Rattle.fk_parse_combinators.proofs.Sets.{Kinds}
use Rattle.fk_parse_combinators.proofs.Exact.{Fronts, Starts, Example, Shape, Sound, Local, IsSound, IsComplete, IsLocal, Exact}
use Rattle.fk_parse_combinators.proofs.Stretches.{shallow-nil, from_deep-past}
use Rattle.fk_parse_combinators.proofs.Token.{sound_end, sound_unexpected}
use Rattle.fk_parse_combinators.proofs.Or.{welcome, by_next-yes, or_local}

unexpected_local : (A : Type 0) (most : ℕ) → IsLocal {A = A} most unexpected
unexpected_local A most [] fits = tt
unexpected_local A most (t ∷ ts) fits = record { front = []; is = refl; stays = λ others h. refl }

unexpected_sound : (levels : ℕ) {A : Type 0} (L : Language A) → Example L → (ts : List Placed) → Sound levels L ts (unexpected ts)
unexpected_sound levels L x [] = sound_end levels L x
unexpected_sound levels L x (t ∷ ts) = sound_unexpected levels L t ts x

-- ---- where there may be no more levels

-- each token of a kind nests too deep
abbrev pub too_deep : {A : Type 0} → Reader A
too_deep ts = Err (Nesting ts)

too_deep_sound : (levels : ℕ) {room : Type 0} {A : Type 0} (most : ℕ) (L : Language A) (level : ℕ) (is : Kinds) → levels < level → Shape L level is room → room
    → IsSound levels most L (by_next is too_deep unexpected)
too_deep_sound levels most L level is past shape r [] fits = sound_end levels L (shape.example r)
too_deep_sound levels {room} {A} most L level is past shape r (t ∷ ts) fits = by (is t.kind) refl
  where
    by : (b : Bool) → is t.kind ≡ b → Sound levels L (t ∷ ts) (either b too_deep unexpected (t ∷ ts))
    by true e =
        let w : Starts L level t = shape.starts r t e in
        record {
          stretch = [];
          deep = record { token = t; level = w.at };
          others = ts;
          is = refl;
          next = refl;
          goes = record { more = w.others; value = w.value; spelled = w.spelled };
          shallow = shallow-nil levels;
          past = le_trans past w.deep;
        }
    by false e = sound_unexpected levels L t ts (shape.example r)

too_deep_complete : (levels : ℕ) {room : Type 0} {A : Type 0} (most : ℕ) (L : Language A) (level : ℕ) (is goes_on : Kinds) → levels < level → Shape L level is room
    → IsComplete levels most L (by_next is too_deep unexpected) goes_on
too_deep_complete levels most L level is goes_on past shape s a rest l fits ends =
    let w : Fronts is level s = shape.fronts s a l in
    by_next-yes is too_deep unexpected (tokens_of s ++ rest) (rw w.is w.kind)
    ∙ rw (w.is, from_deep-past levels w.front w.others (le_trans past w.deep)) refl

too_deep_local : (A : Type 0) (most : ℕ) (is : Kinds) → IsLocal {A = A} most (by_next is too_deep unexpected)
too_deep_local A most is [] fits = tt
too_deep_local A most is (t ∷ ts) fits = by (is t.kind) refl
  where
    by : (b : Bool) → is t.kind ≡ b → Local {A = A} most (by_next is too_deep unexpected) (t ∷ ts) (either b too_deep unexpected (t ∷ ts))
    by true e = record { front = []; is = refl; stays = λ others h. rw (e, either) refl }
    by false e = record { front = []; is = refl; stays = λ others h. rw (e, either) refl }

-- where each token nests too deep, what begins at this level is read exactly
pub exact_too_deep : {levels : ℕ} {room : Type 0} {A : Type 0} {L : Language A} {level : ℕ} {is : Kinds} (goes_on : Kinds) → levels < level → Shape L level is room
    → Exact levels L (by_next is too_deep unexpected) goes_on room
exact_too_deep {levels} {room} {A} {L} {level} {is} goes_on past shape = record {
  exact = λ most. record {
    sound = λ r. too_deep_sound levels most L level is past shape r;
    complete = too_deep_complete levels most L level is goes_on past shape;
    local = λ r. too_deep_local A most is;
  };
}

-- ---- where there may be one

deeper_sound : (levels : ℕ) {A : Type 0} (most : ℕ) (L : Language A) (is : Kinds) (P : Reader A) → Example L → IsSound levels most L P → IsSound levels most L (by_next is P unexpected)
deeper_sound levels {A} most L is P x p ts fits = by (next_is is ts)
  where
    by : (b : Bool) → Sound levels L ts (either b P unexpected ts)
    by true = p ts fits
    by false = unexpected_sound levels L x ts

-- where each other token is unexpected, a language is read as exactly
pub exact_expected : {levels : ℕ} {room : Type 0} {A : Type 0} {L : Language A} {level : ℕ} {is : Kinds} {P : Reader A} {f : Kinds} → Exact levels L P f room → Shape L level is room
    → Exact levels L (by_next is P unexpected) f room
exact_expected {levels} {room} {A} {L} {level} {is} {P} {f} p shape = record {
  exact = λ most. record {
    sound = λ r. deeper_sound levels most L is P (shape.example r) ((p.exact most).sound r);
    complete = λ s a rest l fits ends.
        let w : Fronts is level s = shape.fronts s a l in
        by_next-yes is P unexpected (tokens_of s ++ rest) (rw w.is w.kind) ∙ (p.exact most).complete s a rest l fits ends;
    local = λ r. or_local most is P unexpected ((p.exact most).local r) (unexpected_local A most) (welcome shape p r most);
  };
}

-- ---- either way

-- no readers for what stands deeper, and this level is past the bound
pub record Bottom (levels : ℕ) {R : Type 0} (inner : Option R) (level : ℕ) : Type 0 where
  pub is : inner ≡ None
  pub past : levels < level

-- what opens a level is read exactly where there may be none
pub exact_opened_none : {levels : ℕ} {room : Type 0} {R A : Type 0} {L : Language A} {level : ℕ} {is : Kinds} {inner : Option R} (f : R → Reader A) (goes_on : Kinds)
    → Shape L level is room → Bottom levels inner level → Exact levels L (opened is inner f) goes_on room
exact_opened_none {levels} {room} {L = L} {is = is} f goes_on shape w =
    subst (λ i. Exact levels L (opened is i f) goes_on room) (sym w.is) (exact_too_deep goes_on w.past shape)

-- what opens a level is read exactly where it is by the readers of that level
pub exact_opened_some : {levels : ℕ} {room : Type 0} {R A : Type 0} {L : Language A} {level : ℕ} {is : Kinds} {inner : Option R} (f : R → Reader A) {goes_on : Kinds} (readers : R)
    → Shape L level is room → inner ≡ Some readers → Exact levels L (f readers) goes_on room → Exact levels L (opened is inner f) goes_on room
exact_opened_some {levels} {room} {L = L} {is = is} f {goes_on} readers shape e p =
    subst (λ i. Exact levels L (opened is i f) goes_on room) (sym e) (exact_expected p shape)
