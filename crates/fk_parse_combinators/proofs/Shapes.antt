-- The shapes of languages that are put together.
use Rattle.std.proofs.Common.{◌≡◌, ℕ, ◌≤◌, List, [], ◌∷◌, ◌++◌, Option, Some, None, IsTrue, ◌⊎◌, inl, inr, refl, ap, le_trans, le_refl}
use Rattle.std.proofs.lemmas.Bool.{or_cases, or_left, or_right}
use Rattle.fk_parse_combinators.specs.Languages.{Placed, Stretch, Language, nothing, ◌then◌, ◌or◌, making, many, maybe}
use Rattle.fk_parse_combinators.proofs.Sets.{Kinds, ◌∪◌, Within}
use Rattle.fk_parse_combinators.proofs.Exact.{Fronts, Starts, Example, Empty, Shape, LooseShape}

-- ---- more kinds, fewer levels, less room

fronts_more : (first other : Kinds) (level lower : ℕ) → Within first other → lower ≤ level → (s : Stretch) → Fronts first level s → Fronts other lower s
fronts_more first other level lower within below s w = record {
  front = w.front;
  others = w.others;
  is = w.is;
  kind = within w.front.token.kind w.kind;
  deep = le_trans below w.deep;
}

-- what begins a stretch begins it whatever comes behind it
pub fronts_before : (first : Kinds) (level : ℕ) (s t : Stretch) → Fronts first level s → Fronts first level (s ++ t)
fronts_before first level s t w = record { front = w.front; others = w.others ++ t; is = ap (λ z. z ++ t) w.is; kind = w.kind; deep = w.deep }

starts_lower : {A : Type 0} (L : Language A) (level lower : ℕ) → lower ≤ level → (t : Placed) → Starts L level t → Starts L lower t
starts_lower L level lower below t w = record { at = w.at; deep = le_trans below w.deep; others = w.others; value = w.value; spelled = w.spelled }

-- a language at a level is one at each lower level
pub shape_lower : {room : Type 0} {A : Type 0} {L : Language A} {level lower : ℕ} {first : Kinds} → lower ≤ level → Shape L level first room → Shape L lower first room
shape_lower {L} {level} {lower} {first} below w = record {
  fronts = λ s a l. fronts_more first first level lower (λ k h. h) below s (w.fronts s a l);
  starts = λ r t h. starts_lower L level lower below t (w.starts r t h);
  example = w.example;
}

-- two sets of the same kinds
pub shape_kinds : {room : Type 0} {A : Type 0} {L : Language A} {level : ℕ} {first : Kinds} (other : Kinds) → Within first other → Within other first
    → Shape L level first room → Shape L level other room
shape_kinds {L} {level} {first} other within back w = record {
  fronts = λ s a l. fronts_more first other level level within (le_refl level) s (w.fronts s a l);
  starts = λ r t h. w.starts r t (back t.kind h);
  example = w.example;
}

-- where less room is asked for
pub shape_room : {small large : Type 0} {A : Type 0} {L : Language A} {level : ℕ} {first : Kinds} → (small → large) → Shape L level first large → Shape L level first small
shape_room {L} {level} {first} enough w = record { fronts = w.fronts; starts = λ r. w.starts (enough r); example = λ r. w.example (enough r) }

-- a language that has no stretch where there is no room
pub shape_nothing : {room : Type 0} {A : Type 0} (level : ℕ) (first : Kinds) → (room → ⊥) → Shape {A = A} nothing level first room
shape_nothing level first no_room = record { fronts = λ s a l. absurd l; starts = λ r. absurd (no_room r); example = λ r. absurd (no_room r) }

-- ---- examples

-- a language that is put together has an example where its parts have one
pub example_making : {A B : Type 0} (f : A → B) {L : Language A} → Example L → Example (making f L)
example_making f {L} x = record { stretch = x.stretch; value = f x.value; spelled = (x.value, x.spelled, refl) }

pub example_then : {A B : Type 0} {L : Language A} {M : Language B} → Example L → Example M → Example (L then M)
example_then {L} {M} x y = record { stretch = x.stretch ++ y.stretch; value = (x.value, y.value); spelled = (x.stretch, y.stretch, refl, x.spelled, y.spelled) }

pub example_left : {A : Type 0} {L : Language A} (M : Language A) → Example L → Example (L or M)
example_left {L} M x = record { stretch = x.stretch; value = x.value; spelled = inl x.spelled }

pub example_right : {A : Type 0} (L : Language A) {M : Language A} → Example M → Example (L or M)
example_right L {M} x = record { stretch = x.stretch; value = x.value; spelled = inr x.spelled }

pub example_empty : {A : Type 0} {L : Language A} → Empty L → Example L
example_empty {L} e = record { stretch = []; value = e.value; spelled = e.spelled }

-- these have the empty stretch
pub empty_many : {A : Type 0} (L : Language A) → Empty (many L)
empty_many L = record { value = []; spelled = refl }

pub empty_maybe : {A : Type 0} (L : Language A) → Empty (maybe L)
empty_maybe L = record { value = None; spelled = refl }

pub empty_making : {A B : Type 0} (f : A → B) {L : Language A} → Empty L → Empty (making f L)
empty_making f {L} e = record { value = f e.value; spelled = (e.value, e.spelled, refl) }

-- ---- what is made of a language

starts_making : {A B : Type 0} (f : A → B) (L : Language A) (level : ℕ) (t : Placed) → Starts L level t → Starts (making f L) level t
starts_making f L level t w = record { at = w.at; deep = w.deep; others = w.others; value = f w.value; spelled = (w.value, w.spelled, refl) }

-- it begins as the language does
pub shape_making : {room : Type 0} {A B : Type 0} (f : A → B) {L : Language A} {level : ℕ} {first : Kinds} → Shape L level first room → Shape (making f L) level first room
shape_making f {L} {level} {first} w = record {
  fronts = λ s b l. w.fronts s l.0 l.1;
  starts = λ r t h. starts_making f L level t (w.starts r t h);
  example = λ r. example_making f (w.example r);
}

pub loose_making : {room : Type 0} {A B : Type 0} (f : A → B) {L : Language A} {level : ℕ} {first : Kinds} → LooseShape L level first room → LooseShape (making f L) level first room
loose_making f {L} {level} {first} w = record {
  fronts = λ s b l. w.fronts s l.0 l.1;
  starts = λ r t h. starts_making f L level t (w.starts r t h);
  empty = λ r. empty_making f (w.empty r);
}

-- ---- one after another

starts_then : {A B : Type 0} (L : Language A) (M : Language B) (level : ℕ) (t : Placed) → Starts L level t → Example M → Starts (L then M) level t
starts_then L M level t w x = record {
  at = w.at;
  deep = w.deep;
  others = w.others ++ x.stretch;
  value = (w.value, x.value);
  spelled = (record { token = t; level = w.at } ∷ w.others, x.stretch, refl, w.spelled, x.spelled);
}

starts_behind : {A B : Type 0} (L : Language A) (M : Language B) (level : ℕ) (t : Placed) → Empty L → Starts M level t → Starts (L then M) level t
starts_behind L M level t e w = record {
  at = w.at;
  deep = w.deep;
  others = w.others;
  value = (e.value, w.value);
  spelled = ([], record { token = t; level = w.at } ∷ w.others, refl, e.spelled, w.spelled);
}

-- where the first isn't empty, both begin as it does
pub shape_then : {room : Type 0} {A B : Type 0} {L : Language A} {M : Language B} {level : ℕ} {first : Kinds} → Shape L level first room → (room → Example M)
    → Shape (L then M) level first room
shape_then {L} {M} {level} {first} w x = record {
  fronts = λ s v l. rw l.2 (fronts_before first level l.0 l.1 (w.fronts l.0 v.0 l.3));
  starts = λ r t h. starts_then L M level t (w.starts r t h) (x r);
  example = λ r. example_then (w.example r) (x r);
}

-- the first may be empty
starts_either : {A B : Type 0} (L : Language A) (M : Language B) (level : ℕ) (f g : Kinds) (t : Placed)
    → Empty L → Example M → (IsTrue (f t.kind) → Starts L level t) → (IsTrue (g t.kind) → Starts M level t)
    → IsTrue ((f ∪ g) t.kind) → Starts (L then M) level t
starts_either L M level f g t e x v w h =
    elim (or_cases (f t.kind) (g t.kind) h) [ inl i ↦ starts_then L M level t (v i) x | inr j ↦ starts_behind L M level t e (w j) ]

union_fronts : (f g : Kinds) (level : ℕ) (s : Stretch) → Fronts f level s ⊎ Fronts g level s → Fronts (f ∪ g) level s
union_fronts f g level s (inl w) = record { front = w.front; others = w.others; is = w.is; kind = or_left (f w.front.token.kind) (g w.front.token.kind) w.kind; deep = w.deep }
union_fronts f g level s (inr w) = record { front = w.front; others = w.others; is = w.is; kind = or_right (f w.front.token.kind) (g w.front.token.kind) w.kind; deep = w.deep }

-- where the first may be empty, both begin as either does
pub shape_loose_then : {room : Type 0} {A B : Type 0} {L : Language A} {M : Language B} {level : ℕ} {f g : Kinds} → LooseShape L level f room → Shape M level g room
    → Shape (L then M) level (f ∪ g) room
shape_loose_then {L} {M} {level} {f} {g} v w = record {
  fronts = λ s x l. elim (v.fronts l.0 x.0 l.3) [
    | inl e ↦ union_fronts f g level s (inr (rw (l.2, e) (w.fronts l.1 x.1 l.4)))
    | inr h ↦ union_fronts f g level s (inl (rw l.2 (fronts_before f level l.0 l.1 h)))
  ];
  starts = λ r t h. starts_either L M level f g t (v.empty r) (w.example r) (v.starts r t) (w.starts r t) h;
  example = λ r. example_then (example_empty (v.empty r)) (w.example r);
}

-- where both may be empty
pub loose_then : {room : Type 0} {A B : Type 0} {L : Language A} {M : Language B} {level : ℕ} {f g : Kinds} → LooseShape L level f room → LooseShape M level g room
    → LooseShape (L then M) level (f ∪ g) room
loose_then {L} {M} {level} {f} {g} v w = record {
  fronts = λ s x l. elim (v.fronts l.0 x.0 l.3) [
    | inl e ↦ elim (w.fronts l.1 x.1 l.4) [
      | inl d ↦ inl (rw (l.2, e, d) refl)
      | inr h ↦ inr (union_fronts f g level s (inr (rw (l.2, e) h)))
    ]
    | inr h ↦ inr (union_fronts f g level s (inl (rw l.2 (fronts_before f level l.0 l.1 h))))
  ];
  starts = λ r t h. starts_either L M level f g t (v.empty r) (example_empty (w.empty r)) (v.starts r t) (w.starts r t) h;
  empty = λ r. let e = v.empty r in let d = w.empty r in record { value = (e.value, d.value); spelled = ([], [], refl, e.spelled, d.spelled) };
}

-- ---- one or another

starts_or : {A : Type 0} (L M : Language A) (level : ℕ) (f g : Kinds) (t : Placed)
    → (IsTrue (f t.kind) → Starts L level t) → (IsTrue (g t.kind) → Starts M level t) → IsTrue ((f ∪ g) t.kind) → Starts (L or M) level t
starts_or L M level f g t v w h =
    elim (or_cases (f t.kind) (g t.kind) h) [
      | inl i ↦ let a = v i in record { at = a.at; deep = a.deep; others = a.others; value = a.value; spelled = inl a.spelled }
      | inr j ↦ let b = w j in record { at = b.at; deep = b.deep; others = b.others; value = b.value; spelled = inr b.spelled }
    ]

-- one or the other begins as either does
pub shape_or : {room : Type 0} {A : Type 0} {L M : Language A} {level : ℕ} {f g : Kinds} → Shape L level f room → Shape M level g room → Shape (L or M) level (f ∪ g) room
shape_or {L} {M} {level} {f} {g} v w = record {
  fronts = λ s a l. elim l [ inl m ↦ union_fronts f g level s (inl (v.fronts s a m)) | inr n ↦ union_fronts f g level s (inr (w.fronts s a n)) ];
  starts = λ r t h. starts_or L M level f g t (v.starts r t) (w.starts r t) h;
  example = λ r. example_left M (v.example r);
}

-- ---- one or nothing, any number

-- one or nothing begins as one does
pub loose_maybe : {room : Type 0} {A : Type 0} {L : Language A} {level : ℕ} {first : Kinds} → Shape L level first room → LooseShape (maybe L) level first room
loose_maybe {room} {A} {L} {level} {first} w = record {
  fronts = fronts;
  starts = λ r t h. let v = w.starts r t h in record { at = v.at; deep = v.deep; others = v.others; value = Some v.value; spelled = v.spelled };
  empty = λ r. empty_maybe L;
}
  where
    fronts : (s : Stretch) (o : Option A) → maybe L s o → (s ≡ []) ⊎ Fronts first level s
    fronts s None l = inl l
    fronts s (Some a) l = inr (w.fronts s a l)

-- any number begins as one does
pub loose_many : {room : Type 0} {A : Type 0} {L : Language A} {level : ℕ} {first : Kinds} → Shape L level first room → LooseShape (many L) level first room
loose_many {room} {A} {L} {level} {first} w = record {
  fronts = fronts;
  starts = λ r t h. let v = w.starts r t h in record {
    at = v.at;
    deep = v.deep;
    others = v.others ++ [];
    value = v.value ∷ [];
    spelled = (record { token = t; level = v.at } ∷ v.others, [], refl, v.spelled, refl);
  };
  empty = λ r. empty_many L;
}
  where
    fronts : (s : Stretch) (list : List A) → many L s list → (s ≡ []) ⊎ Fronts first level s
    fronts s [] l = inl l
    fronts s (a ∷ list) l = inr (rw l.2 (fronts_before first level l.0 l.1 (w.fronts l.0 a l.3)))
