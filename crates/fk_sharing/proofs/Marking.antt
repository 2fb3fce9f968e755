-- What marks leave of the note of an index.
use Rattle.std.proofs.Common.{◌≡◌, ◌⊎◌, ◌↔◌, inl, inr, ℕ, zero, suc, Bool, true, false, ◌&&◌, ◌||◌, List, [], ◌∷◌, map, fold, length, Some, slice_get, refl, ap, subst, ◌∙◌}
use Rattle.fk_syntax.specs.declared.facts.Note.{Note}
use Rattle.fk_sharing.specs.declared.around.Holder.{Holder}
use Rattle.fk_sharing.specs.declared.around.Around.{Around}
use Rattle.fk_sharing.specs.Around.{region}
use Rattle.fk_sharing.specs.Tokens.{TokenIn}
use Rattle.fk_sharing.specs.Broken.{is_splitting}
use Rattle.fk_sharing.specs.Marked.{joined, joined_at, after}
use Rattle.fk_sharing.specs.Retold.{retold}

abbrev pub Held : Type 0
Held = TokenIn (List Holder)

-- two numbers are one
abbrev is_same : ℕ → ℕ → Bool
is_same zero zero = true
is_same zero (suc n) = false
is_same (suc m) zero = false
is_same (suc m) (suc n) = is_same m n

same-tells : (m n : ℕ) → is_same m n ≡ true → m ≡ n
same-tells zero zero h = refl
same-tells zero (suc n) h = absurd (cc)
same-tells (suc m) zero h = absurd (cc)
same-tells (suc m) (suc n) h = ap suc (same-tells m n h)

same-refl : (n : ℕ) → is_same n n ≡ true
same-refl zero = refl
same-refl (suc n) = same-refl n

or-false : (b : Bool) → (b || false) ≡ b
or-false true = refl
or-false false = refl

or-tells : (a b : Bool) → (a || b) ≡ true → (a ≡ true) ⊎ (b ≡ true)
or-tells true b h = inl refl
or-tells false b h = inr h

or-left : (a b : Bool) → a ≡ true → (a || b) ≡ true
or-left true b h = refl
or-left false b h = absurd (cc)

or-right : (a b : Bool) → b ≡ true → (a || b) ≡ true
or-right true b h = refl
or-right false b h = h

and-tells : (a b : Bool) → (a && b) ≡ true → (a ≡ true) × (b ≡ true)
and-tells true b h = (refl, h)
and-tells false b h = absurd (cc)

and-holds : (a b : Bool) → a ≡ true → b ≡ true → (a && b) ≡ true
and-holds true b h g = g
and-holds false b h g = absurd (cc)

-- one mark
joined-none : (note : Note) → joined note false false ≡ note
joined-none note = ap (λ b. record note { shared = b; splits = note.splits || false }) (or-false note.shared) ∙ ap (λ b. record note { splits = b }) (or-false note.splits)

get-joined : (notes : List Note) (at index : ℕ) (note : Note) (s p : Bool) → slice_get notes index ≡ Some note → slice_get (joined_at notes at s p) index ≡ Some (joined note (is_same at index && s) (is_same at index && p))
unfolding joined_at
get-joined [] at index note s p e = absurd (cc)
get-joined (x ∷ notes) zero zero note s p e = let same : x ≡ note = cc in ap (λ n. Some (joined n s p)) same
get-joined (x ∷ notes) zero (suc index) note s p e = let same = joined-none note in cc
get-joined (x ∷ notes) (suc at) zero note s p e = let same = joined-none note in cc
get-joined (x ∷ notes) (suc at) (suc index) note s p e = get-joined notes at index note s p e

-- a flag, raised by each token of an index that passes a test
abbrev pub raised : (Held → Bool) → ℕ → Bool → List Held → Bool
raised test index flag [] = flag
raised test index flag (x ∷ xs) = raised test index (flag || (is_same x.spot.at index && test x)) xs

abbrev pub is_shared : Held → Bool
is_shared token = token.shared

abbrev pub is_split : Held → Bool
is_split token = is_splitting (region token.around) token.word

pub marks-say : (xs : List Held) (notes : List Note) (index : ℕ) (note : Note) → slice_get notes index ≡ Some note → slice_get (fold after notes (map retold xs)) index ≡ Some (record note { shared = raised is_shared index note.shared xs; splits = raised is_split index note.splits xs })
marks-say [] notes index note e = e
marks-say (x ∷ xs) notes index note e = marks-say xs (after notes (retold x)) index (joined note (is_same x.spot.at index && is_shared x) (is_same x.spot.at index && is_split x)) (get-joined notes x.spot.at index note (is_shared x) (is_split x) e)

-- one of the tokens of an index passes a test
abbrev pub Has : (Held → Bool) → List Held → ℕ → Type 0
Has test xs index = (i : ℕ) × (x : Held) × (slice_get xs i ≡ Some x) × (x.spot.at ≡ index) × (test x ≡ true)

module _ (test : Held → Bool) (index : ℕ) where
  raised-tells : (flag : Bool) (xs : List Held) → raised test index flag xs ≡ true → (flag ≡ true) ⊎ Has test xs index
  raised-tells flag [] h = inl h
  raised-tells flag (x ∷ xs) h = elim (raised-tells (flag || (is_same x.spot.at index && test x)) xs h) [
    | inl a ↦ elim (or-tells flag (is_same x.spot.at index && test x) a) [
      | inl b ↦ inl b
      | inr b ↦ let t = and-tells (is_same x.spot.at index) (test x) b in inr (zero, x, refl, same-tells x.spot.at index t.0, t.1)
    ]
    | inr t ↦ inr (suc t.0, t.1, t.2, t.3, t.4)
  ]

  raised-kept : (flag : Bool) (xs : List Held) → flag ≡ true → raised test index flag xs ≡ true
  raised-kept flag [] h = h
  raised-kept flag (x ∷ xs) h = raised-kept (flag || (is_same x.spot.at index && test x)) xs (or-left flag (is_same x.spot.at index && test x) h)

  here : (x : Held) → x.spot.at ≡ index → test x ≡ true → (is_same x.spot.at index && test x) ≡ true
  here x e h = and-holds (is_same x.spot.at index) (test x) (subst (λ n. is_same x.spot.at n ≡ true) e (same-refl x.spot.at)) h

  raised-finds : (flag : Bool) (xs : List Held) (i : ℕ) (x : Held) → slice_get xs i ≡ Some x → x.spot.at ≡ index → test x ≡ true → raised test index flag xs ≡ true
  raised-finds flag [] i x e a h = absurd (cc)
  raised-finds flag (y ∷ ys) zero x e a h =
      let same : x ≡ y = cc in
      let there = subst (λ z. (is_same z.spot.at index && test z) ≡ true) same (here x a h) in
      raised-kept (flag || (is_same y.spot.at index && test y)) ys (or-right flag (is_same y.spot.at index && test y) there)
  raised-finds flag (y ∷ ys) (suc i) x e a h = raised-finds (flag || (is_same y.spot.at index && test y)) ys i x e a h

  pub raised-has : (xs : List Held) → (raised test index false xs ≡ true) ↔ Has test xs index
  raised-has xs = (
    (λ h. elim (raised-tells false xs h) [ inl a ↦ absurd (cc) | inr t ↦ t ]),
    (λ t. raised-finds false xs t.0 t.1 t.2 t.3 t.4),
  )

-- marks keep the length
length-at : (notes : List Note) (at : ℕ) (s p : Bool) → length (joined_at notes at s p) ≡ length notes
unfolding joined_at
length-at [] at s p = refl
length-at (x ∷ notes) zero s p = refl
length-at (x ∷ notes) (suc at) s p = ap suc (length-at notes at s p)

pub length-marks : (xs : List (TokenIn Around)) (notes : List Note) → length (fold after notes xs) ≡ length notes
length-marks [] notes = refl
length-marks (x ∷ xs) notes = length-marks xs (after notes x) ∙ length-at notes x.spot.at x.shared (is_splitting x.around.region x.word)
