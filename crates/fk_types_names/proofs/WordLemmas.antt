-- What a search by equal bytes says of a list of words.
use Rattle.std.proofs.Common.{◌≡◌, ℕ, zero, suc, ◌<◌, ◌⊎◌, inl, inr, Bool, true, false, ◌||◌, List, [], ◌∷◌, Decides, length, get_or, slice_index, Contains, refl, arith, nat_eq}
use Rattle.std.specs.List.{list_any}
use Rattle.std.specs.Cmp.Lexicographic.{pointwise}
use Rattle.std.proofs.lemmas.Bool.{false≢true}
use Rattle.std.proofs.lemmas.List.Elements.{All-contains}
use Rattle.std.proofs.lemmas.List.Sums.{AllPass-from_list_all}
use Rattle.std.proofs.lemmas.Slice.Eq.{bytes_eq-Decides}
use Rattle.fk_types_names.specs.Means.{is_initial, predeclared}

contains_cases : (x y : List ℕ) (xs : List (List ℕ)) → Contains (x ∷ xs) y → (x ≡ y) ⊎ Contains xs y
contains_cases x y xs h = by h.0 h.1 h.2
  where
    by : (k : ℕ) → k < length (x ∷ xs) → get_or (x ∷ xs) k y ≡ y → (x ≡ y) ⊎ Contains xs y
    by zero l e = inl e
    by (suc k) l e = inr (k, omega arith, e)

pub among_words : (words : List (List ℕ)) (text : List ℕ) → Decides (list_any (λ word. pointwise nat_eq word text) words) (Contains words text)
among_words [] text = (λ e. absurd (false≢true e), λ h. absurd (omega (arith, h.1)))
among_words (w ∷ words) text = by (pointwise nat_eq w text) (bytes_eq-Decides w text) (among_words words text)
  where
    by : (b : Bool) → Decides b (w ≡ text) → Decides (list_any (λ word. pointwise nat_eq word text) words) (Contains words text) → Decides (b || list_any (λ word. pointwise nat_eq word text) words) (Contains (w ∷ words) text)
    by true d rest = (λ _. (0, omega arith, d.0 refl), λ _. refl)
    by false d rest = (
      λ h. let k = rest.0 h in (suc k.0, (let l = k.1 in omega arith), k.2),
      λ h. elim (contains_cases w text words h) [ inl p ↦ absurd (false≢true (d.1 p)) | inr q ↦ rest.1 q ],
    )

-- ---- the first bytes of the predeclared names

abbrev begins_so : List ℕ → Bool
begins_so [] = false
begins_so (c ∷ cs) = is_initial c

pub begins : (name : List ℕ) → Contains predeclared name → (0 < length name) × (is_initial (slice_index name 0) ≡ true)
begins name h = by name (All-contains (λ n. begins_so n ≡ true) predeclared name (AllPass-from_list_all begins_so predeclared refl) h)
  where
    by : (n : List ℕ) → begins_so n ≡ true → (0 < length n) × (is_initial (slice_index n 0) ≡ true)
    by [] e = absurd (false≢true e)
    by (c ∷ cs) e = (omega arith, e)
