-- The shape of one token, and how it is read.
use Rattle.std.proofs.Common.{◌≡◌, ℕ, ◌≤◌, List, [], ◌∷◌, Option, Some, None, Bool, true, false, IsTrue, Ok, Err, ◌⊎◌, inl, inr, refl, le_refl, suc-le-suc, zero-le}
use Rattle.fk_lex.specs.declared.token.TokenKind.{TokenKind}
use Rattle.fk_parse_combinators.specs.Languages.{Placed, Stretch, Language, token, telling}
use Rattle.fk_parse_combinators.specs.Reads.{Unexpected, EndOfText}
use Rattle.fk_parse_combinators.specs.Readers.{Reader, expect, expect_told, tells, does_tell}
use Rattle.fk_parse_combinators.proofs.SameKind.{just_same, same_just}
use Rattle.fk_parse_combinators.proofs.Sets.{none}
use Rattle.fk_parse_combinators.proofs.Exact.{Example, Goes, Shape, Sound, SoundStop, IsSound, IsComplete, IsLocal, Exact}
use Rattle.fk_parse_combinators.proofs.Stretches.{shallow-nil, shallow-one, from_deep-shallow}
use Rattle.fk_parse_combinators.specs.Kinds.{just}

-- some token of a kind
abbrev pub some_token : TokenKind → Placed
some_token k = record { at = 0; kind = k; bytes = []; place = record { line = 1; column = 1 } }

-- ---- shapes

-- tokens that the language has
pub example_token : (level : ℕ) (k : TokenKind) → Example (token level k)
example_token level k = record { stretch = record { token = some_token k; level = level } ∷ []; value = some_token k; spelled = (refl, refl) }

pub example_telling : {A : Type 0} (level : ℕ) (told : TokenKind → Option A) (k : TokenKind) (a : A) → told k ≡ Some a → Example (telling level told)
example_telling level told k a h = record { stretch = record { token = some_token k; level = level } ∷ []; value = (some_token k, a); spelled = (refl, h) }

-- a token of a kind begins with that kind
pub shape_token : {room : Type 0} (level : ℕ) (k : TokenKind) → Shape (token level k) level (just k) room
shape_token level k = record {
  fronts = λ s t x. record { front = record { token = t; level = level }; others = []; is = x.0; kind = just_same k t.kind x.1; deep = le_refl level };
  starts = λ r t x. record { at = level; deep = le_refl level; others = []; value = t; spelled = (refl, same_just k t.kind x) };
  example = λ r. example_token level k;
}

-- what a kind tells, which tells something
told_value : {A : Type 0} (o : Option A) → IsTrue (does_tell o) → (a : A) × (o ≡ Some a)
told_value None h = absurd (cc)
told_value (Some a) h = (a, refl)

tells_from : {A : Type 0} (o : Option A) (a : A) → o ≡ Some a → IsTrue (does_tell o)
tells_from o a e = rw e refl

-- a token that tells something begins with the kinds that do
pub shape_telling : {room : Type 0} {A : Type 0} (level : ℕ) (told : TokenKind → Option A) (k : TokenKind) (a : A) → told k ≡ Some a
    → Shape (telling level told) level (tells told) room
shape_telling level told k a h = record {
  fronts = λ s x l. record { front = record { token = x.0; level = level }; others = []; is = l.0; kind = tells_from (told x.0.kind) x.1 l.1; deep = le_refl level };
  starts = λ r t x. let v = told_value (told t.kind) x in record { at = level; deep = le_refl level; others = []; value = (t, v.0); spelled = (refl, v.1) };
  example = λ r. example_telling level told k a h;
}

-- ---- what is answered where nothing is read

-- nothing goes on to a stretch of the language
pub example_goes : {A : Type 0} (L : Language A) → Example L → Goes L []
example_goes L x = record { more = x.stretch; value = x.value; spelled = x.spelled }

-- at the end of the tokens
pub sound_end : (levels : ℕ) {A : Type 0} (L : Language A) → Example L → SoundStop levels L [] []
sound_end levels L x = record { stretch = []; is = refl; goes = example_goes L x; shallow = shallow-nil levels }

-- at a token
pub sound_unexpected : (levels : ℕ) {A : Type 0} (L : Language A) (t : Placed) (ts : List Placed) → Example L → Sound levels L (t ∷ ts) (Err (Unexpected (t ∷ ts)))
sound_unexpected levels L t ts x = (record { stretch = []; is = refl; goes = example_goes L x; shallow = shallow-nil levels }, suc-le-suc zero-le)

-- ---- readers of one token

-- a reader takes a token
pub record Taken {A : Type 0} (L : Language A) (level : ℕ) (P : Reader A) (t : Placed) : Type 0 where
  pub value : A
  pub spelled : L (record { token = t; level = level } ∷ []) value
  pub answer : (ts : List Placed) → P (t ∷ ts) ≡ Ok (value, ts)

-- a reader takes one token where it spells a value of the language, and no other
pub record TakesOne {A : Type 0} (L : Language A) (level : ℕ) (P : Reader A) : Type 0 where
  pub at_end : P [] ≡ Err EndOfText
  pub takes : (t : Placed) → Taken L level P t ⊎ ((ts : List Placed) → P (t ∷ ts) ≡ Err (Unexpected (t ∷ ts)))
  pub spelled : (s : Stretch) (a : A) → L s a
      → (t : Placed) × (s ≡ record { token = t; level = level } ∷ []) × ((ts : List Placed) → P (t ∷ ts) ≡ Ok (a, ts))

sound_one : (levels : ℕ) {A : Type 0} (most : ℕ) (L : Language A) (level : ℕ) (P : Reader A) → level ≤ levels → TakesOne L level P → Example L → IsSound levels most L P
sound_one levels most L level P h one x [] fits = rw one.at_end (sound_end levels L x)
sound_one levels most L level P h one x (t ∷ ts) fits =
    elim (one.takes t) [
      | inl w ↦ rw (w.answer ts) (record { stretch = record { token = t; level = level } ∷ []; is = refl; spelled = w.spelled; shallow = shallow-one levels (record { token = t; level = level }) h })
      | inr e ↦ rw (e ts) (sound_unexpected levels L t ts x)
    ]

complete_one : (levels : ℕ) {A : Type 0} (most : ℕ) (L : Language A) (level : ℕ) (P : Reader A) → level ≤ levels → TakesOne L level P → IsComplete levels most L P none
complete_one levels most L level P h one s a rest l fits ends =
    let w = one.spelled s a l in
    rw w.1 (rw (from_deep-shallow levels (record { token = w.0; level = level } ∷ []) (shallow-one levels (record { token = w.0; level = level }) h)) (w.2 rest))

local_one : {A : Type 0} (most : ℕ) (L : Language A) (level : ℕ) (P : Reader A) → TakesOne L level P → IsLocal most P
local_one most L level P one [] fits = rw one.at_end tt
local_one most L level P one (t ∷ []) fits =
    elim (one.takes t) [
      | inl w ↦ rw (w.answer []) (λ x others h e. cc (w.answer (x ∷ others)))
      | inr e ↦ rw (e []) (record { front = []; is = refl; stays = λ others h. e others })
    ]
local_one most L level P one (t ∷ u ∷ ts) fits =
    elim (one.takes t) [
      | inl w ↦ rw (w.answer (u ∷ ts)) (record { front = t ∷ []; is = refl; stays = λ others h. w.answer (u ∷ others) })
      | inr e ↦ rw (e (u ∷ ts)) (record { front = []; is = refl; stays = λ others h. e others })
    ]

-- such a reader reads the language exactly
pub exact_one : {levels : ℕ} {room : Type 0} {A : Type 0} (L : Language A) (level : ℕ) (P : Reader A) → level ≤ levels → TakesOne L level P → (room → Example L)
    → Exact levels L P none room
exact_one {levels} L level P h one x = record {
  exact = λ most. record {
    sound = λ r. sound_one levels most L level P h one (x r);
    complete = complete_one levels most L level P h one;
    local = λ r. local_one most L level P one;
  };
}

-- ---- a token of a kind

expect_takes : (level : ℕ) (k : TokenKind) → TakesOne (token level k) level (expect k)
expect_takes level k = record {
  at_end = refl;
  takes = λ t. by t (just k t.kind) refl;
  spelled = λ s t x. (t, x.0, λ ts. rw (just_same k t.kind x.1, expect) refl);
}
  where
    by : (t : Placed) (b : Bool) → just k t.kind ≡ b
        → Taken (token level k) level (expect k) t ⊎ ((ts : List Placed) → expect k (t ∷ ts) ≡ Err (Unexpected (t ∷ ts)))
    by t true e = inl (record { value = t; spelled = (refl, same_just k t.kind e); answer = λ ts. rw (e, expect) refl })
    by t false e = inr (λ ts. rw (e, expect) refl)

-- a token of a kind is read exactly
pub exact_token : {levels : ℕ} {room : Type 0} (level : ℕ) (k : TokenKind) → level ≤ levels → Exact levels (token level k) (expect k) none room
exact_token level k h = exact_one (token level k) level (expect k) h (expect_takes level k) (λ r. example_token level k)

-- ---- a token whose kind tells something

expect_told_takes : {A : Type 0} (level : ℕ) (told : TokenKind → Option A) → TakesOne (telling level told) level (expect_told told)
expect_told_takes {A} level told = record {
  at_end = refl;
  takes = λ t. by t (told t.kind) refl;
  spelled = λ s x l. (x.0, l.0, λ ts. rw l.1 refl);
}
  where
    by : (t : Placed) (o : Option A) → told t.kind ≡ o
        → Taken (telling level told) level (expect_told told) t ⊎ ((ts : List Placed) → expect_told told (t ∷ ts) ≡ Err (Unexpected (t ∷ ts)))
    by t (Some a) e = inl (record { value = (t, a); spelled = (refl, e); answer = λ ts. rw e refl })
    by t None e = inr (λ ts. rw e refl)

-- a token whose kind tells something is read exactly: name a kind, and what it tells
pub exact_telling : {levels : ℕ} {room : Type 0} {A : Type 0} (level : ℕ) (told : TokenKind → Option A) (k : TokenKind) (a : A) → told k ≡ Some a → level ≤ levels
    → Exact levels (telling level told) (expect_told told) none room
exact_telling level told k a e h = exact_one (telling level told) level (expect_told told) h (expect_told_takes level told) (λ r. example_telling level told k a e)
