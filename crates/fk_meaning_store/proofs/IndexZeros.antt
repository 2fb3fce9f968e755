-- Lists of zeros.
use Rattle.std.proofs.Common.{◌≡◌, ℕ, zero, suc, List, [], ◌∷◌, ◌++◌, refl}
use Rattle.std.proofs.Math.Path.{fun_ext}
use Rattle.std.specs.Prelude.{slice_index, replicate}

pub index_zeros : (n i : ℕ) → slice_index (replicate n 0) i ≡ 0
index_zeros zero i = refl
index_zeros (suc n) zero = refl
index_zeros (suc n) (suc i) = index_zeros n i

index-append-zeros : (xs : List ℕ) (n i : ℕ) → slice_index (xs ++ replicate n 0) i ≡ slice_index xs i
index-append-zeros [] n i = index_zeros n i
index-append-zeros (x ∷ xs) n zero = refl
index-append-zeros (x ∷ xs) n (suc i) = index-append-zeros xs n i

-- zeros after a list change no word
pub index_append_zeros : (xs : List ℕ) (n : ℕ) → slice_index (xs ++ replicate n 0) ≡ slice_index xs
index_append_zeros xs n = fun_ext (index-append-zeros xs n)
