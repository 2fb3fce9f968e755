-- Memories whose later words are 0.
use Rattle.std.proofs.Common.{◌≡◌, ℕ, ◌<◌, ◌≤◌, ◌==◌, Bool, true, false, cond, List, ◌++◌, length, get_or, set, take, replicate, ap, refl, ◌∙◌}
use Rattle.std.proofs.Math.Path.{fun_ext}
use Rattle.std.proofs.lemmas.Bool.{eqb-true, eqb-false}
use Rattle.std.proofs.lemmas.List.{get_or-set_same, get_or-set_other, take_all}
use Rattle.std.specs.Prelude.{slice_index}
use Rattle.fk_num.specs.Word.{put}
use Rattle.fk_meaning_store.proofs.IndexZeros.{index_append_zeros}

-- a word of a list with the same words is replaced
pub put_at : (xs ys : List ℕ) (i w : ℕ) → slice_index ys ≡ slice_index xs → i < length ys → slice_index (set ys i w) ≡ put (slice_index xs) i w
put_at xs ys i w same low = fun_ext (λ j. at j (j == i) refl)
  where
    at : (j : ℕ) (b : Bool) → (j == i) ≡ b → slice_index (set ys i w) j ≡ cond b w (slice_index xs j)
    at j true e = ap (λ k. get_or (set ys i w) k 0) (eqb-true j i e) ∙ get_or-set_same ys i w 0 low
    at j false e = get_or-set_other ys i j w 0 (eqb-false j i e) ∙ ap (λ (m : ℕ → ℕ). m j) same

-- zeros are added
pub grown : (xs ys : List ℕ) (n m : ℕ) → ys ≡ take n xs ++ replicate m 0 → length xs ≤ n → slice_index ys ≡ slice_index xs
grown xs ys n m is le = ap slice_index (is ∙ ap (λ l. l ++ replicate m 0) (take_all n xs le)) ∙ index_append_zeros xs m
