-- Lists of words as memories.
use Rattle.std.proofs.Common.{◌≡◌, ℕ, ◌<◌, List, length, inl, inr, eq-eqb}
use Rattle.std.specs.Prelude.{slice_index, slice_set}
use Rattle.std.proofs.Math.Path.{fun_ext}
use Rattle.std.proofs.lemmas.Bool.{cases_eq, ne_eqb}
use Rattle.std.proofs.lemmas.Grind.{get_or-set_at}
use Rattle.std.proofs.lemmas.List.{get_or-set_other}
use Rattle.fk_num.specs.Word.{put}

put-set : (xs : List ℕ) (i v j : ℕ) → i < length xs → slice_index (slice_set xs i v) j ≡ put (slice_index xs) i v j
put-set xs i v j within =
    elim (cases_eq j i) [
      | inl same ↦ rw (eq-eqb j i same) (get_or-set_at xs i j v 0 same within)
      | inr other ↦ rw (ne_eqb j i other) (get_or-set_other xs i j v 0 other)
    ]

-- a list with a word set is the memory with that word
pub index_set : (xs : List ℕ) (i v : ℕ) → i < length xs → slice_index (slice_set xs i v) ≡ put (slice_index xs) i v
index_set xs i v within = fun_ext (λ j. put-set xs i v j within)
