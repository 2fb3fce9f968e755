-- Lists, and what was found of each element.
use Rattle.std.proofs.Common.{◌≡◌, ℕ, zero, suc, ◌+◌, ◌<◌, ◌≤◌, List, [], ◌∷◌, ◌++◌, Some, map, take, length, get_or, slice_get, refl, sym, ap, subst, ◌∙◌}
use Rattle.std.specs.List.{AllZip}
use Rattle.std.proofs.lemmas.List.{take_more, take_all, map-append}
use Rattle.std.proofs.lemmas.Option.{same_Some}
use Rattle.std.proofs.lemmas.Slice.Zip.{all_zipped_more}

-- one element after the other, of a list of the code that is seen as one of the definitions
module _ {X Y Z : Type 0} (view : X → Y) (R : Y → Z → Type 0) (xs : List X) where
  taken : (i : ℕ) (x : X) → i < length xs → x ≡ get_or xs i x → map view (take (i + 1) xs) ≡ map view (take i xs) ++ view x ∷ []
  taken i x within is = ap (map view) (take_more xs i x within ∙ ap (λ y. take i xs ++ y ∷ []) (sym is)) ∙ map-append view (take i xs) (x ∷ [])

  pub zip-more : (i : ℕ) (x : X) (zs : List Z) (z : Z) → i < length xs → x ≡ get_or xs i x → AllZip R (map view (take i xs)) zs → R (view x) z → AllZip R (map view (take (i + 1) xs)) (zs ++ z ∷ [])
  zip-more i x zs z within is all here = subst (λ ys. AllZip R ys (zs ++ z ∷ [])) (sym (taken i x within is)) (all_zipped_more R (map view (take i xs)) zs (view x) z all here)

  pub zip-all : (i : ℕ) (zs : List Z) → length xs ≤ i → AllZip R (map view (take i xs)) zs → AllZip R (map view xs) zs
  zip-all i zs whole all = subst (λ ys. AllZip R (map view ys) zs) (take_all i xs whole) all

-- what was found of one element
pub zip-at : {X Y : Type 0} (R : X → Y → Type 0) (xs : List X) (ys : List Y) → AllZip R xs ys → (i : ℕ) (x : X) → slice_get xs i ≡ Some x → (y : Y) × (slice_get ys i ≡ Some y) × R x y
zip-at R [] ys all i x e = absurd cc
zip-at R (a ∷ xs) [] all i x e = absurd all
zip-at R (a ∷ xs) (b ∷ ys) all zero x e = (b, refl, subst (λ v. R v b) (same_Some a x e) all.0)
zip-at R (a ∷ xs) (b ∷ ys) all (suc i) x e = zip-at R xs ys all.1 i x e

pub zip-both : {X Y : Type 0} (R : X → Y → Type 0) (xs : List X) (ys : List Y) → AllZip R xs ys → (i : ℕ) (x : X) (y : Y) → slice_get xs i ≡ Some x → slice_get ys i ≡ Some y → R x y
zip-both R xs ys all i x y here there = let found = zip-at R xs ys all i x here in subst (R x) (same_Some found.0 y (sym found.1 ∙ there)) found.2
