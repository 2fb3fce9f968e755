-- What the code of `shmalloc` does.
use Rattle.std.specs.Prelude.{◌≡◌, ℕ, ◌+◌, ◌*◌, ◌^◌, ◌<◌, ◌≤◌, ◌==◌, ◌||◌, length, Bool, false}
use Rattle.std.specs.Int.{from_bool}
use Rattle.fk_num.specs.Limits.{most_code_words}
use Rattle.fk_num.specs.Word.{put, word_sum}
use Rattle.fk_image.specs.declared.Image.{Image}
use Rattle.fk_meaning_store.specs.Store.{address_of, heap_start}
use Rattle.fk_meaning_store.specs.Serve.{words_of}
use Rattle.fk_machine.specs.Hart.{Hart, Shared, Reservations, Setting, Goes}
use Rattle.fk_machine.specs.Step.{step}
use Rattle.fk_machine.specs.Run.{count_in}
use Rattle.fk_sim_nodes.specs.Alone.{Holds, RunsPrivately, later, in_cycles}
use Rattle.fk_sim_block.specs.Stands.{local_address, local_register, shared_register}
use Rattle.fk_sim_block.specs.Stands.{device_register, full_word}
use Rattle.fk_sim_heap.specs.Count.{asked_word, added_by, is_past, block_at}
use Rattle.fk_gen.specs.Registers.{ra, t0, t1, t2, t3}
use Rattle.fk_gen_access.specs.Heap.{HasHeap, heap_label}

-- A hart comes to the code with a size, and with the word of the code where it goes on.
pub record ComesToHeap (bound : ℕ → ℕ) (bytes back : ℕ) (full : Bool) (h : Hart) : Type 0 where
  pub live : h.ended ≡ false
  pub at : h.pc ≡ 4 * bound heap_label
  pub size : h.registers t0 ≡ bytes
  pub is_word : bytes < 2 ^ 32
  pub link : h.registers ra ≡ 4 * back
  pub within : back < most_code_words
  pub local : h.registers local_register ≡ local_address 0
  pub shared_data : h.registers shared_register ≡ address_of 0
  pub devices : h.registers device_register ≡ 0x30000000
  pub noted : h.local full_word ≡ from_bool full

-- The registers that a block may change.
abbrev pub is_free : (register : ℕ) → Bool
is_free r = (r == t0) || (r == t1) || (r == t2) || (r == t3)

-- It goes on with the address of its block, or 0, and has noted whether the count is past the end
-- of the heap.
pub record GoesOnWithBlock (first count added back : ℕ) (h h' : Hart) : Type 0 where
  pub live : h'.ended ≡ false
  pub at : h'.pc ≡ 4 * back
  pub block : h'.registers t0 ≡ block_at first count added
  pub noted : h'.local full_word ≡ from_bool (is_past first (word_sum count added))
  pub registers : (r : ℕ) → is_free r ≡ false → h'.registers r ≡ h.registers r
  pub words : (j : ℕ) → (j ≡ full_word → ⊥) → h'.local j ≡ h.local j

-- In this cycle the hart commits, and adds to the count. What it becomes depends on the count that
-- it finds.
pub record AddsToCount (image : Image) (t : Setting) (number added : ℕ) (committing : Hart)
    (Then : (count : ℕ) → Hart → Type 0) : Type 0 where
  pub live : committing.ended ≡ false
  pub counted : count_in image.commits.items committing.pc ≡ 1
  pub hart : (count : ℕ) → Hart
  pub adds : (sh : Shared) → (reserved : Reservations)
      × (step t number committing sh ≡ Goes (hart (sh.control asked_word)) (record sh {
        control = put sh.control asked_word (word_sum (sh.control asked_word) added);
        reserved = reserved;
      }))
  pub follows : (count : ℕ) → Then count (hart count)

-- The hart adds the words of its size to the count, and goes on with the block that comes behind
-- those counted before.
abbrev pub HeapCodeHires : Type 0
HeapCodeHires =
    (image : Image) (bound : ℕ → ℕ) (t : Setting) (number bytes back : ℕ) (full : Bool) (h : Hart)
    → HasHeap image bound → Holds image t → t.inputs ≤ 65536
    → ComesToHeap bound bytes back full h
    → (committing : Hart) × RunsPrivately image t number 14 h committing
    × AddsToCount image (in_cycles 14 t) number (added_by full (words_of bytes)) committing
    (λ count h1. (h' : Hart) × RunsPrivately image (later (in_cycles 14 t)) number 17 h1 h'
    × GoesOnWithBlock (heap_start (length image.globals.items + t.inputs)) count
    (added_by full (words_of bytes)) back h h')
