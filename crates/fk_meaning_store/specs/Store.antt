-- The state that all processors share.
use Rattle.std.specs.Prelude.{ℕ, ◌+◌, ◌-◌, ◌*◌, ◌/◌, ◌^◌, List, [], ◌++◌, length, slice_index}
use Rattle.fk_num.specs.Word.{Memory}
use Rattle.fk_space.specs.Space.{Space, whole}

-- shared data, the private heap of each processor, the top of the global heap, and the bytes
-- printed so far
pub record Store : Type 0 where
  pub words : Memory
  pub heaps : ℕ → Memory
  pub top : ℕ
  pub output : List ℕ

abbrev pub shared_words : ℕ
shared_words = 2 ^ 20

abbrev pub private_words : ℕ
private_words = 16384

-- the address of a word of shared data, and of one of a private heap
abbrev pub address_of : (index : ℕ) → ℕ
address_of index = 0x10000000 + 4 * index

abbrev pub private_address : (index : ℕ) → ℕ
private_address index = 0x20010000 + 4 * index

-- shared data begins with the globals and the input numbers. Of the words after these, the group
-- space has one half, rounded down, and the global heap has the others
abbrev pub group_words : (taken : ℕ) → ℕ
group_words taken = (shared_words - taken) / 2

abbrev pub group_space : (taken : ℕ) → Space
group_space taken = whole taken (group_words taken)

abbrev pub heap_start : (taken : ℕ) → ℕ
heap_start taken = taken + group_words taken

-- the store at the beginning: the globals, the input numbers and then zeros; private heaps of
-- zeros; no block taken, and nothing printed
abbrev pub opening_store : (globals input : List ℕ) → Store
opening_store globals input = record {
  words = slice_index (globals ++ input);
  heaps = λ h. λ i. 0;
  top = heap_start (length globals + length input);
  output = [];
}
