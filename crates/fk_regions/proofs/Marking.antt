-- What marks leave of the note of an index.
use Rattle.std.proofs.Common.{◌≡◌, ◌⊎◌, ◌↔◌, inl, inr, ℕ, zero, suc, Bool, true, false, List, [], ◌∷◌, map, fold, length, Some, IsTrue, slice_get, refl, ap, subst, ◌∙◌, arith}
use Rattle.fk_syntax.specs.declared.facts.Note.{Note}
use Rattle.fk_regions.specs.declared.around.Holder.{Holder}
use Rattle.fk_regions.specs.declared.around.Around.{Around}
use Rattle.fk_regions.specs.declared.around.Region.{Region}
use Rattle.fk_regions.specs.declared.around.Region.TheVariants.{Synchronous, Asynchronous, Neither}
use Rattle.fk_regions.specs.Around.{region}
use Rattle.fk_regions.specs.Tokens.{TokenIn}
use Rattle.fk_regions.specs.Marked.{marked, synchronous_at, marked_by, after}
use Rattle.fk_regions.specs.Retold.{retold}

-- a note with another answer
abbrev pub says : Note → Bool → Note
says note sync = record note { sync = sync }

-- the note of an index, of which is known when it says yes
abbrev pub Says : List Note → ℕ → Note → Type 0 → Type 0
Says notes index note P = (sync : Bool) × (slice_get notes index ≡ Some (says note sync)) × (IsTrue sync ↔ P)

not_true : (b : Bool) → b ≡ false → ¬ (b ≡ true)
not_true b e h = cc

-- one mark
at-says : (notes : List Note) (at index : ℕ) (note : Note) → slice_get notes index ≡ Some note → Says (synchronous_at notes at) index note ((note.sync ≡ true) ⊎ (at ≡ index))
unfolding synchronous_at
at-says [] at index note e = absurd (cc)
at-says (x ∷ notes) zero zero note e =
    let same : x ≡ note = cc in
    (true, ap (λ n. Some (marked n)) same, (λ h. inr refl, λ h. refl))
at-says (x ∷ notes) zero (suc index) note e = (note.sync, e, (λ h. inl h, λ h. elim h [ inl h ↦ h | inr h ↦ absurd (omega (arith, h)) ]))
at-says (x ∷ notes) (suc at) zero note e = (note.sync, e, (λ h. inl h, λ h. elim h [ inl h ↦ h | inr h ↦ absurd (omega (arith, h)) ]))
at-says (x ∷ notes) (suc at) (suc index) note e =
    let rest = at-says notes at index note e in
    (rest.0, rest.1, (λ h. elim (rest.2.0 h) [ inl a ↦ inl a | inr b ↦ inr (ap suc b) ], λ h. rest.2.1 (elim h [ inl a ↦ inl a | inr b ↦ inr (omega (arith, b)) ])))

by-says : (a : Region) (notes : List Note) (at index : ℕ) (note : Note) → slice_get notes index ≡ Some note → Says (marked_by a notes at) index note ((note.sync ≡ true) ⊎ ((at ≡ index) × (a ≡ Synchronous)))
by-says Synchronous notes at index note e =
    let t = at-says notes at index note e in
    (t.0, t.1, (λ h. elim (t.2.0 h) [ inl a ↦ inl a | inr b ↦ inr (b, refl) ], λ h. t.2.1 (elim h [ inl a ↦ inl a | inr b ↦ inr b.0 ])))
by-says Asynchronous notes at index note e = (note.sync, e, (λ h. inl h, λ h. elim h [ inl a ↦ a | inr b ↦ absurd (let impossible = b.1 in cc) ]))
by-says Neither notes at index note e = (note.sync, e, (λ h. inl h, λ h. elim h [ inl a ↦ a | inr b ↦ absurd (let impossible = b.1 in cc) ]))

-- a token of the list stands in a synchronous region
abbrev pub Stands : List (TokenIn (List Holder)) → ℕ → Type 0
Stands xs index = (i : ℕ) × (x : TokenIn (List Holder)) × (slice_get xs i ≡ Some x) × (x.spot.at ≡ index) × (region x.around ≡ Synchronous)

stands-cases : (y : TokenIn (List Holder)) (ys : List (TokenIn (List Holder))) (index i : ℕ) (x : TokenIn (List Holder)) → slice_get (y ∷ ys) i ≡ Some x → (x.spot.at ≡ index) × (region x.around ≡ Synchronous) → ((y.spot.at ≡ index) × (region y.around ≡ Synchronous)) ⊎ Stands ys index
stands-cases y ys index zero x e h = let same : x ≡ y = cc in inl (subst (λ z. (z.spot.at ≡ index) × (region z.around ≡ Synchronous)) same h)
stands-cases y ys index (suc i) x e h = inr (i, x, e, h.0, h.1)

pub marks-say : (xs : List (TokenIn (List Holder))) (notes : List Note) (index : ℕ) (note : Note) → slice_get notes index ≡ Some note → Says (fold after notes (map retold xs)) index note ((note.sync ≡ true) ⊎ Stands xs index)
marks-say [] notes index note e = (note.sync, e, (λ h. inl h, λ h. elim h [ inl a ↦ a | inr s ↦ absurd (let impossible = s.2 in cc) ]))
marks-say (x ∷ xs) notes index note e =
    let t = by-says (region x.around) notes x.spot.at index note e in
    let rest = marks-say xs (after notes (retold x)) index (says note t.0) t.1 in
    (rest.0, rest.1, (to t.0 rest.0 t.2 rest.2, from t.0 rest.0 t.2 rest.2))
  where
    to : (s u : Bool) → (IsTrue s ↔ ((note.sync ≡ true) ⊎ ((x.spot.at ≡ index) × (region x.around ≡ Synchronous)))) → (IsTrue u ↔ ((s ≡ true) ⊎ Stands xs index)) → IsTrue u → (note.sync ≡ true) ⊎ Stands (x ∷ xs) index
    to s u one others h = elim (others.0 h) [
      | inl a ↦ elim (one.0 a) [ inl b ↦ inl b | inr b ↦ inr (zero, x, refl, b.0, b.1) ]
      | inr b ↦ inr (suc b.0, b.1, b.2, b.3, b.4)
    ]

    from : (s u : Bool) → (IsTrue s ↔ ((note.sync ≡ true) ⊎ ((x.spot.at ≡ index) × (region x.around ≡ Synchronous)))) → (IsTrue u ↔ ((s ≡ true) ⊎ Stands xs index)) → (note.sync ≡ true) ⊎ Stands (x ∷ xs) index → IsTrue u
    from s u one others h = elim h [
      | inl a ↦ others.1 (inl (one.1 (inl a)))
      | inr b ↦ elim (stands-cases x xs index b.0 b.1 b.2 (b.3, b.4)) [ inl here ↦ others.1 (inl (one.1 (inr here))) | inr later ↦ others.1 (inr later) ]
    ]

-- marks keep the length
length-at : (notes : List Note) (at : ℕ) → length (synchronous_at notes at) ≡ length notes
unfolding synchronous_at
length-at [] at = refl
length-at (x ∷ notes) zero = refl
length-at (x ∷ notes) (suc at) = ap suc (length-at notes at)

length-by : (a : Region) (notes : List Note) (at : ℕ) → length (marked_by a notes at) ≡ length notes
length-by Synchronous notes at = length-at notes at
length-by Asynchronous notes at = refl
length-by Neither notes at = refl

pub length-marks : (xs : List (TokenIn Around)) (notes : List Note) → length (fold after notes xs) ≡ length notes
length-marks [] notes = refl
length-marks (x ∷ xs) notes = length-marks xs (after notes x) ∙ length-by x.around.region notes x.spot.at
