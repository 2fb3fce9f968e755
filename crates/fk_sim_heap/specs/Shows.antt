-- The count and the notes of the harts show the top of the store's heap.
use Rattle.std.specs.Prelude.{◌≡◌, ℕ, suc, ◌+◌, ◌*◌, ◌<◌, ◌≤◌, min, List, [], ◌∷◌, Bool, true}
use Rattle.std.specs.Prelude.{false, Option, Some, None}
use Rattle.fk_num.specs.Word.{word_sum}
use Rattle.fk_meaning_store.specs.Store.{Store, shared_words}
use Rattle.fk_meaning_store.specs.Serve.{Served, hired}
use Rattle.fk_sim_heap.specs.Count.{added_by, is_past, block_at}

-- How many harts have noted that the heap is full, by their notes.
abbrev pub and_full : Bool → ℕ → ℕ
and_full true n = suc n
and_full false n = n

abbrev pub number_full : List Bool → ℕ
number_full [] = 0
number_full (f ∷ fs) = and_full f (number_full fs)

-- A count shows the top of a heap that begins at the word `first`. As long as it is not past the
-- end, the words counted are those taken. Only where it is, a hart may have noted this, and each
-- that did has added at most one more request.
pub record ShowsTop (first top count full : ℕ) : Type 0 where
  pub shown : top ≡ min (first + count) shared_words
  pub past : 0 < full → shared_words < first + count
  pub few : first + count ≤ shared_words + full * shared_words

-- Processors ask for words one after another, each on the store that those before it have left.
-- Some don't ask.
abbrev pub AllHire : List (Option ℕ) → Store → List ℕ → Store → Type 0
AllHire [] s [] s' = s' ≡ s
AllHire (None ∷ asks) s answers s' = AllHire asks s answers s'
AllHire (Some words ∷ asks) s (answer ∷ answers) s' = (s1 : Store)
    × (hired words s ≡ Served s1 answer) × AllHire asks s1 answers s'
AllHire asks s answers s' = ⊥

-- Harts do so, each with its note, on the count that those before it have left.
abbrev pub AllCount : (first count : ℕ) → (full : List Bool) → List (Option ℕ) → List ℕ
    → (count' : ℕ) → (full' : List Bool) → Type 0
AllCount first count [] [] [] count' [] = count' ≡ count
AllCount first count (f ∷ fs) (None ∷ asks) answers count' (f' ∷ fs') =
    (f' ≡ f) × AllCount first count fs asks answers count' fs'
AllCount first count (f ∷ fs) (Some words ∷ asks) (answer ∷ answers) count' (f' ∷ fs') =
    (answer ≡ block_at first count (added_by f words))
    × (f' ≡ is_past first (word_sum count (added_by f words)))
    × AllCount first (word_sum count (added_by f words)) fs asks answers count' fs'
AllCount first count fs asks answers count' fs' = ⊥
