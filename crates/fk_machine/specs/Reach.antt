-- What a hart reaches beyond its registers, and what answers it gets there.
use Rattle.std.specs.Prelude.{ℕ, ◌+◌, ◌*◌, ◌/◌, ◌%◌, ◌^◌, ◌==◌, if◌then◌else◌, List, [], ◌∷◌, ◌++◌}
use Rattle.std.specs.Prelude.{Option, Some, None, Bool, true, false}
use Rattle.fk_num.specs.Word.{Memory, put, signed_line}
use Rattle.fk_isa.specs.Tells.{Answer, Gives, Traps, Stored, GoesOn, Ends, FaultsAt, Tells}
use Rattle.fk_isa.specs.Atomic.{unless, combined}
use Rattle.fk_machine.specs.declared.place.Device.{Device}
use Rattle.fk_machine.specs.declared.place.Device.TheVariants.{OutInt, OutChar, Fault, Halt, Cycle}
use Rattle.fk_machine.specs.declared.place.Device.TheVariants.{HartId, Harts, Inputs}
use Rattle.fk_machine.specs.declared.place.Location.{Location}
use Rattle.fk_machine.specs.declared.place.Location.TheVariants.{SharedWord, ControlWord, LocalWord}
use Rattle.fk_machine.specs.declared.place.Location.TheVariants.{DeviceWord, Nowhere}
use Rattle.fk_machine.specs.Hart.{Reservations, Shared, Setting}
use Rattle.fk_machine.specs.Place.{place_of}

-- What a hart reaches: its own local memory, what all harts share, and the numbers that devices
-- give.
pub record Reach : Type 0 where
  pub setting : Setting
  pub local : Memory
  pub shared : Shared

-- `size` bytes of a word, from byte `byte` on, lowest first, as a number. All four are the word.
abbrev pub part : ℕ → ℕ → ℕ → ℕ
part w byte size = if size == 4 then w else w / 2 ^ (8 * byte) % 2 ^ (8 * size)

-- The word with these bytes replaced by the lowest ones of a value. The bytes below and above them
-- stay.
abbrev pub with_part : ℕ → ℕ → ℕ → ℕ → ℕ
with_part w byte size v =
    if size == 4 then v
    else w % 2 ^ (8 * byte) + v % 2 ^ (8 * size) * 2 ^ (8 * byte) + w / 2 ^ (8 * (byte + size))
    * 2 ^ (8 * (byte + size))

-- An access whose address is no multiple of its size is the trap Misaligned, which comes before
-- Access.
abbrev pub aligned : {A : Type 0} → ℕ → ℕ → Answer Reach A → Answer Reach A
aligned a size answer = if a % size == 0 then answer else Traps 3

-- Devices take only accesses to whole words.
abbrev pub whole : {A : Type 0} → ℕ → Answer Reach A → Answer Reach A
whole size answer = if size == 4 then answer else Traps 4

-- A load from a device.
abbrev pub load_device : Reach → ℕ → Device → Answer Reach ℕ
load_device r number Cycle = Gives r.setting.finished r
load_device r number HartId = Gives number r
load_device r number Harts = Gives r.setting.harts r
load_device r number Inputs = Gives r.setting.inputs r
load_device r number device = Traps 4

-- The state after bytes were printed.
abbrev pub prints : Reach → List ℕ → Reach
prints r bytes = record r { shared = record r.shared { output = r.shared.output ++ bytes } }

-- A store to a device.
abbrev pub store_device : Reach → ℕ → Device → Answer Reach Stored
store_device r v OutInt = Gives GoesOn (prints r (signed_line v))
store_device r v OutChar = Gives GoesOn (prints r (v % 256 ∷ []))
store_device r v Fault = Gives (FaultsAt v) r
store_device r v Halt = Gives Ends r
store_device r v device = Traps 4

-- The word of a memory. Devices have none.
abbrev pub word_at : Reach → Location → Option ℕ
word_at r (SharedWord i) = Some (r.shared.words i)
word_at r (ControlWord i) = Some (r.shared.control i)
word_at r (LocalWord i) = Some (r.local i)
word_at r (DeviceWord device) = None
word_at r Nowhere = None

-- The answer for a word of a memory. Where there is none, the access traps.
abbrev pub on_word : {A : Type 0} → Option ℕ → (ℕ → Answer Reach A) → Answer Reach A
on_word None answer = Traps 4
on_word (Some w) answer = answer w

-- All reservations except those of a word.
abbrev pub cleared : Reservations → ℕ → Reservations
cleared reserved word = λ hart. unless word (reserved hart)

-- The reservations with that of one hart replaced.
abbrev pub reserves : Reservations → ℕ → Option ℕ → Reservations
reserves reserved number r = λ hart. if hart == number then r else reserved hart

-- The state after a hart has stored a word, which clears the word's reservations. A local word can
-- be reserved by its own hart alone.
abbrev pub stored : Reach → ℕ → ℕ → Location → ℕ → Reach
stored r number word (SharedWord i) v =
    record r {
      shared = record r.shared
          { words = put r.shared.words i v; reserved = cleared r.shared.reserved word };
    }
stored r number word (ControlWord i) v =
    record r {
      shared = record r.shared
          { control = put r.shared.control i v; reserved = cleared r.shared.reserved word };
    }
stored r number word (LocalWord i) v =
    record r {
      local = put r.local i v;
      shared = record r.shared
          { reserved = reserves r.shared.reserved number (unless word (r.shared.reserved number)) };
    }
stored r number word place v = r

-- Loads of `size` bytes.
abbrev pub load : Reach → ℕ → ℕ → ℕ → Location → Answer Reach ℕ
load r number a size (DeviceWord device) = whole size (load_device r number device)
load r number a size place = on_word (word_at r place) (λ w. Gives (part w (a % 4) size) r)

-- Stores of `size` bytes.
abbrev pub store : Reach → ℕ → ℕ → ℕ → ℕ → Location → Answer Reach Stored
store r number a size v (DeviceWord device) = whole size (store_device r v device)
store r number a size v place =
    on_word (word_at r place)
    (λ w. Gives GoesOn (stored r number (a / 4 * 4) place (with_part w (a % 4) size v)))

-- The state after a hart has reserved a word, or has lost its reservation.
abbrev pub reserving : Reach → ℕ → Option ℕ → Reach
reserving r number word =
    record r { shared = record r.shared { reserved = reserves r.shared.reserved number word } }

-- Whether a reservation is of a word.
abbrev pub is_of : ℕ → Option ℕ → Bool
is_of word None = false
is_of word (Some reserved) = reserved == word

-- `sc.w` stores and gives 0 if the hart has reserved the word, and else gives 1. In both cases the
-- hart has no reservation any more.
abbrev pub conditional : Bool → Reach → ℕ → ℕ → Location → ℕ → Answer Reach ℕ
conditional true r number word place v =
    Gives 0 (stored (reserving r number None) number word place v)
conditional false r number word place v = Gives 1 (reserving r number None)

-- Atomic instructions on a word w. `lr.w` gives the word and reserves it. Those other than `lr.w`
-- and `sc.w` give it, and store it combined with v.
abbrev pub atomic : Reach → ℕ → ℕ → ℕ → ℕ → Location → ℕ → Answer Reach ℕ
atomic r number word what v place w =
    if what == 0b00010 then Gives w (reserving r number (Some word))
    else if what == 0b00011
    then conditional (is_of word (r.shared.reserved number)) r number word place v
    else Gives w (stored r number word place (combined what w v))

-- The answers of a hart's bus.
abbrev pub tells : Tells Reach
tells = record {
  loads = λ r number a size. aligned a size (load r number a size (place_of a));
  stores = λ r number a size v. aligned a size (store r number a size v (place_of a));
  atomics = λ r number a what v.
      aligned a 4 (on_word (word_at r (place_of a)) (atomic r number a what v (place_of a)));
}
