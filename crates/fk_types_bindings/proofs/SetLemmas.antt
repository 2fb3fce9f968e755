-- Numbers that are set one after the other.
use Rattle.std.proofs.Common.{◌≡◌, ◌≢◌, ℕ, zero, suc, ◌+◌, ◌<◌, ◌≤◌, inl, inr, List, [], ◌∷◌, ◌++◌, map, take, length, get_or, Option, Some, None, refl, sym, ap, subst, ◌∙◌, arith}
use Rattle.std.specs.Prelude.{◌⊎◌, ◌↔◌, slice_get, slice_set}
use Rattle.std.proofs.lemmas.Bool.{cases_lt}
use Rattle.std.proofs.lemmas.List.{length-set, length-map, length-take-le, length_push, map_more, take_all}
use Rattle.std.proofs.lemmas.List.Elements.{Contains-push, Contains-append_left}
use Rattle.std.proofs.lemmas.Option.{none-some, same_Some, slice_get_within}
use Rattle.fk_types_structs.proofs.WordLemmas.{slice_get-last, slice_get-front}
use Rattle.fk_types_bindings.specs.Bound.{with_told, AreApart, IsSetBy, AreSet}

-- ---- a list after a write

set-same : {X : Type 0} (xs : List X) (i : ℕ) (x : X) → i < length xs → slice_get (slice_set xs i x) i ≡ Some x
set-same [] i x within = absurd (omega arith)
set-same (y ∷ ys) zero x within = refl
set-same (y ∷ ys) (suc i) x within = set-same ys i x (omega arith)

set-other : {X : Type 0} (xs : List X) (i k : ℕ) (x : X) → k ≢ i → slice_get (slice_set xs i x) k ≡ slice_get xs k
set-other [] i k x apart = refl
set-other (y ∷ ys) zero zero x apart = absurd (apart refl)
set-other (y ∷ ys) zero (suc k) x apart = refl
set-other (y ∷ ys) (suc i) zero x apart = refl
set-other (y ∷ ys) (suc i) (suc k) x apart = set-other ys i k x (λ e. apart (ap suc e))

with_told-same : (numbers : List ℕ) (at number : ℕ) (told : Option ℕ) → told ≡ Some number → at < length numbers → slice_get (with_told numbers at told) at ≡ Some number
with_told-same numbers at number told is within = ap (λ (t : Option ℕ). slice_get (with_told numbers at t) at) is ∙ set-same numbers at number within

with_told-other : (numbers : List ℕ) (at k : ℕ) (told : Option ℕ) → k ≢ at → slice_get (with_told numbers at told) k ≡ slice_get numbers k
with_told-other numbers at k None apart = refl
with_told-other numbers at k (Some number) apart = set-other numbers at k number apart

-- what stands somewhere then stood there before, or was written there
set-only : {X : Type 0} (xs : List X) (i k : ℕ) (x y : X) → slice_get (slice_set xs i x) k ≡ Some y → (slice_get xs k ≡ Some y) ⊎ ((i ≡ k) × (x ≡ y))
set-only [] i k x y e = inl e
set-only (z ∷ xs) zero zero x y e = inr (refl, same_Some x y e)
set-only (z ∷ xs) zero (suc k) x y e = inl e
set-only (z ∷ xs) (suc i) zero x y e = inl e
set-only (z ∷ xs) (suc i) (suc k) x y e = elim (set-only xs i k x y e) [ inl old ↦ inl old | inr new ↦ inr (ap suc new.0, new.1) ]

with_told-only : (numbers : List ℕ) (at k : ℕ) (told : Option ℕ) (number : ℕ) → slice_get (with_told numbers at told) k ≡ Some number
    → (slice_get numbers k ≡ Some number) ⊎ ((at ≡ k) × (told ≡ Some number))
with_told-only numbers at k None number e = inl e
with_told-only numbers at k (Some n) number e = elim (set-only numbers at k n number e) [ inl old ↦ inl old | inr new ↦ inr (new.0, ap Some new.1) ]

length-with_told : (numbers : List ℕ) (at : ℕ) (told : Option ℕ) → length (with_told numbers at told) ≡ length numbers
length-with_told numbers at None = refl
length-with_told numbers at (Some number) = length-set numbers at number

-- ---- one thing after others

module _ {X : Type 0} (token : X → ℕ) (Has : ℕ → X → ℕ → Type 0) where
  pub set-none : (numbers : List ℕ) → AreSet token Has [] numbers numbers
  set-none numbers = record {
    same_length = refl;
    each = λ apart i x number there within has. absurd (none-some x there);
    others = λ at away. refl;
    only = λ at number e. inl e;
  }

  set-push : (xs : List X) (x : X) (old mid : List ℕ) (told : Option ℕ) → ((number : ℕ) → Has (length xs) x number ↔ (told ≡ Some number))
      → AreSet token Has xs old mid → AreSet token Has (xs ++ x ∷ []) old (with_told mid (token x) told)
  set-push xs x old mid told tells before = record {
    same_length = length-with_told mid (token x) told ∙ before.same_length;
    each = λ apart i y number there within has. elim (cases_lt i (length xs)) [
      | inl less ↦ earlier apart i y number less there within has
      | inr past ↦ last apart i y number past there within has
    ];
    others = λ at away. with_told-other mid (token x) at told (λ e. away x (Contains-push xs x) (sym e)) ∙ before.others at (λ y there. away y (Contains-append_left xs (x ∷ []) y there));
    only = λ at number e. elim (with_told-only mid (token x) at told number e) [
      | inl kept ↦ elim (before.only at number kept) [
        | inl stood ↦ inl stood
        | inr by ↦ inr (record { index = by.index; thing = by.thing; there = front by.index by.thing by.there; here = by.here; has = by.has })
      ]
      | inr new ↦ inr (record { index = length xs; thing = x; there = slice_get-last xs x; here = new.0; has = (tells number).1 new.1 })
    ];
  }
    where
      front : (i : ℕ) (y : X) → slice_get xs i ≡ Some y → slice_get (xs ++ x ∷ []) i ≡ Some y
      front i y there = slice_get-front xs x i (slice_get_within xs i y there) ∙ there

      earlier : AreApart token (xs ++ x ∷ []) → (i : ℕ) (y : X) (number : ℕ) → i < length xs → slice_get (xs ++ x ∷ []) i ≡ Some y → token y < length old → Has i y number
          → slice_get (with_told mid (token x) told) (token y) ≡ Some number
      earlier apart i y number less there within has =
          with_told-other mid (token x) (token y) told (apart i (length xs) y x less there (slice_get-last xs x))
          ∙ before.each (λ a b u v low p q. apart a b u v low (front a u p) (front b v q)) i y number (sym (slice_get-front xs x i less) ∙ there) within has

      last : AreApart token (xs ++ x ∷ []) → (i : ℕ) (y : X) (number : ℕ) → length xs ≤ i → slice_get (xs ++ x ∷ []) i ≡ Some y → token y < length old → Has i y number
          → slice_get (with_told mid (token x) told) (token y) ≡ Some number
      last apart i y number past there within has =
          let end : i ≡ length xs = omega (arith, past, slice_get_within (xs ++ x ∷ []) i y there, length_push xs x) in
          let same : y ≡ x = same_Some y x (sym there ∙ ap (slice_get (xs ++ x ∷ [])) end ∙ slice_get-last xs x) in
          let own : Has (length xs) x number = subst (λ k. Has k x number) end (subst (λ z. Has i z number) same has) in
          let inside : token x < length mid = omega (arith, within, ap token same, before.same_length) in
          ap (λ z. slice_get (with_told mid (token x) told) (token z)) same ∙ with_told-same mid (token x) number told ((tells number).0 own) inside

  -- the things that are seen in a list, up to an index, and one more
  pub set-more : {Y : Type 0} (view : Y → X) (ys : List Y) (i : ℕ) (d : Y) (old mid new : List ℕ) (at : ℕ) (told : Option ℕ)
      → i < length ys → at ≡ token (view (get_or ys i d)) → new ≡ with_told mid at told
      → ((number : ℕ) → Has i (view (get_or ys i d)) number ↔ (told ≡ Some number))
      → AreSet token Has (map view (take i ys)) old mid → AreSet token Has (map view (take (i + 1) ys)) old new
  set-more view ys i d old mid new at told inside here becomes tells before =
      let xs = map view (take i ys) in
      let x = view (get_or ys i d) in
      let size : length xs ≡ i = length-map (take i ys) view ∙ length-take-le i ys (omega arith) in
      let step = set-push xs x old mid told (λ number. ((λ has. (tells number).0 (subst (λ k. Has k x number) size has)), (λ is. subst (λ k. Has k x number) (sym size) ((tells number).1 is)))) before in
      subst (λ zs. AreSet token Has zs old new) (sym (map_more view ys i d inside))
      (subst (AreSet token Has (xs ++ x ∷ []) old) (sym (becomes ∙ ap (λ k. with_told mid k told) here)) step)

  -- and all of them
  pub set-whole : {Y : Type 0} (view : Y → X) (ys : List Y) (i : ℕ) (old new : List ℕ) → length ys ≤ i
      → AreSet token Has (map view (take i ys)) old new → AreSet token Has (map view ys) old new
  set-whole view ys i old new past are = subst (λ zs. AreSet token Has (map view zs) old new) (take_all i ys past) are
