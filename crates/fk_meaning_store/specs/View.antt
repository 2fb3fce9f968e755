-- The store that a `Store32` holds.
use Rattle.std.specs.Prelude.{◌≡◌, ℕ, length, ◌+◌, ◌*◌, nat_lt, List, Result, Ok, Err, slice_index}
use Rattle.std.specs.Prelude.{if◌then◌else◌}
use Rattle.fk_num.specs.Word.{Memory}
use Rattle.fk_meaning_operation.specs.declared.kinds.FaultKind.{FaultKind}
use Rattle.fk_meaning_store.specs.declared.store.Store32.{Store32}
use Rattle.fk_meaning_store.specs.Store.{Store, private_words}
use Rattle.fk_meaning_store.specs.Serve.{Answer, Served, Faults}

-- the private heaps in one list, one after the other
abbrev pub heaps_in : List ℕ → ℕ → Memory
heaps_in words h i = if nat_lt i private_words then slice_index words (h * private_words + i) else 0

abbrev pub store_of : Store32 → Store
store_of s = record {
  words = slice_index s.words.items;
  heaps = heaps_in s.heaps.items;
  top = s.top;
  output = s.output.items;
}

-- the number of processors, and the room that is left for bytes of output
abbrev pub processors_of : Store32 → ℕ
processors_of s = s.processors

abbrev pub room_of : Store32 → ℕ
room_of s = s.spare

-- a call uses as much of the room as it prints, and doesn't change the number of processors
pub record KeepsRoom (old new : Store32) : Type 0 where
  pub room : room_of new + length (store_of new).output ≡ room_of old + length (store_of old).output
  pub processors : processors_of new ≡ processors_of old

-- the answer of a call that served a request, with the store after it
abbrev pub answer_of : Result ℕ FaultKind → Store → Answer
answer_of (Ok answer) s = Served s answer
answer_of (Err kind) s = Faults kind
