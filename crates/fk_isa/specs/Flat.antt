-- A small memory: 256 bytes, and the reservation of each of two harts.
use Rattle.std.specs.Prelude.{ℕ, ◌+◌, ◌*◌, ◌/◌, ◌%◌, ◌^◌, ◌==◌, nat_lt, if◌then◌else◌, List, map}
use Rattle.std.specs.Prelude.{Option, Some, None, slice_index, slice_index_or, slice_set}
use Rattle.fk_num.specs.Word.{Memory, put}
use Rattle.fk_isa.specs.declared.flat.FlatMemory.{FlatMemory}
use Rattle.fk_isa.specs.Atomic.{combined, unless}
use Rattle.fk_isa.specs.Tells.{Answer, Gives, Traps, GoesOn, Tells}

-- The byte at each address, and the number of the word that each hart has reserved.
pub record Flat : Type 0 where
  pub bytes : Memory
  pub reserved : List (Option ℕ)

abbrev pub flat_of : FlatMemory → Flat
flat_of m = record { bytes = slice_index m.bytes; reserved = m.reserved }

abbrev pub half_at : Memory → ℕ → ℕ
half_at m a = m a + m (a + 1) * 2 ^ 8

abbrev pub word_at : Memory → ℕ → ℕ
word_at m a = half_at m a + half_at m (a + 2) * 2 ^ 16

-- The number of `size` bytes, lowest first.
abbrev pub number_at : Memory → ℕ → ℕ → ℕ
number_at m a size = if size == 1 then m a else if size == 2 then half_at m a else word_at m a

abbrev pub with_half : Memory → ℕ → ℕ → Memory
with_half m a v = put (put m a (v % 2 ^ 8)) (a + 1) (v / 2 ^ 8 % 2 ^ 8)

abbrev pub with_word : Memory → ℕ → ℕ → Memory
with_word m a v = with_half (with_half m a v) (a + 2) (v / 2 ^ 16)

abbrev pub with_number : Memory → ℕ → ℕ → ℕ → Memory
with_number m a size v = if size == 1 then put m a (v % 2 ^ 8)
    else if size == 2 then with_half m a v else with_word m a v

-- The memory after a store of `size` bytes, which clears the reservations of their word.
abbrev pub after_store : Flat → ℕ → ℕ → ℕ → Flat
after_store m a size v =
    record { bytes = with_number m.bytes a size v; reserved = map (unless (a / 4)) m.reserved }

-- The trap of an access: 3 Misaligned, 4 Access.
abbrev pub flat_trap : ℕ → ℕ → Option ℕ
flat_trap a size = if a % size == 0 then (if nat_lt a 256 then None else Some 4) else Some 3

abbrev pub unless_trap : {A : Type 0} → Option ℕ → Answer Flat A → Answer Flat A
unless_trap None answer = answer
unless_trap (Some kind) answer = Traps kind

abbrev pub reserve : Flat → ℕ → Option ℕ → Flat
reserve m hart r = record { bytes = m.bytes; reserved = slice_set m.reserved hart r }

-- `lr.w` reserves its word. `sc.w` stores and gives 0 if the hart has reserved the word, and else
-- gives 1.
abbrev pub conditional : Flat → ℕ → ℕ → ℕ → Option ℕ → Answer Flat ℕ
conditional m hart a v None = Gives 1 (reserve m hart None)
conditional m hart a v (Some r) = if r == a / 4 then Gives 0 (after_store m a 4 v)
    else Gives 1 (reserve m hart None)

abbrev pub atomically : Flat → ℕ → ℕ → ℕ → ℕ → Answer Flat ℕ
atomically m hart a what v =
    if what == 0b00010 then Gives (word_at m.bytes a) (reserve m hart (Some (a / 4)))
    else if what == 0b00011 then conditional m hart a v (slice_index_or m.reserved hart None)
    else Gives (word_at m.bytes a) (after_store m a 4 (combined what (word_at m.bytes a) v))

abbrev pub flat_tells : Tells Flat
flat_tells = record {
  loads = λ m hart a size. unless_trap (flat_trap a size) (Gives (number_at m.bytes a size) m);
  stores =
      λ m hart a size v. unless_trap (flat_trap a size) (Gives GoesOn (after_store m a size v));
  atomics = λ m hart a what v. unless_trap (flat_trap a 4) (atomically m hart a what v);
}
