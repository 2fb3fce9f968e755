-- Laws of the count and the notes.
use Rattle.std.specs.Prelude.{◌≡◌, ℕ, ◌<◌, ◌≤◌, List, length, Bool, Option}
use Rattle.fk_num.specs.Word.{word_sum}
use Rattle.fk_meaning_store.specs.Store.{Store, shared_words}
use Rattle.fk_meaning_store.specs.Serve.{Served, hired}
use Rattle.fk_sim_heap.specs.Count.{added_by, is_past, block_at}
use Rattle.fk_sim_heap.specs.Shows.{and_full, number_full, ShowsTop, AllHire, AllCount}

abbrev pub HeapsBeginUncounted : Type 0
HeapsBeginUncounted = (first : ℕ) → first ≤ shared_words → ShowsTop first first 0 0

-- A request of a hart with this note, beside `others` harts that have noted that the heap is full.
pub record IsCounted (first count others words : ℕ) (full : Bool) (s : Store) : Type 0 where
  pub top : ℕ
  pub served : hired words s
      ≡ Served (record s { top = top }) (block_at first count (added_by full words))
  pub shows : ShowsTop first top (word_sum count (added_by full words))
      (and_full (is_past first (word_sum count (added_by full words))) others)

-- The heap doesn't begin at the first word of shared data.
abbrev pub RequestsAreCounted : Type 0
RequestsAreCounted =
    (first count others words : ℕ) (full : Bool) (s : Store)
    → 0 < first → others < 1024 → ShowsTop first s.top count (and_full full others)
    → IsCounted first count others words full s

abbrev pub RoundsAreCounted : Type 0
RoundsAreCounted =
    (first count count' : ℕ) (full full' : List Bool) (asks : List (Option ℕ)) (answers : List ℕ)
    (s : Store)
    → 0 < first → length full ≤ 1024 → ShowsTop first s.top count (number_full full)
    → AllCount first count full asks answers count' full'
    → (s' : Store) × AllHire asks s answers s'
    × ShowsTop first s'.top count' (number_full full')
