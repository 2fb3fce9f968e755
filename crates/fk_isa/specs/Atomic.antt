-- What atomic instructions store, and the reservations that a store leaves.
use Rattle.std.specs.Prelude.{ℕ, ◌==◌, if◌then◌else◌, Option, Some, None}
use Rattle.fk_num.specs.Op.{applied}
use Rattle.fk_num.specs.declared.operator.Op.TheVariants as op

-- A reservation, unless it is of this word.
abbrev pub unless : ℕ → Option ℕ → Option ℕ
unless word None = None
unless word (Some r) = if r == word then None else Some r

-- The word that an atomic instruction stores, by the bits 31 to 27 of the instruction, the word
-- that it found, and its value.
unfoldable pub combined : ℕ → ℕ → ℕ → ℕ
combined what old v =
    if what == 0b00001 then v
    else if what == 0b00000 then applied op.Add old v
    else if what == 0b00100 then applied op.Xor old v
    else if what == 0b01100 then applied op.And old v
    else if what == 0b01000 then applied op.Or old v
    else if what == 0b10000 then applied op.MinS old v
    else if what == 0b10100 then applied op.MaxS old v
    else if what == 0b11000 then applied op.MinU old v
    else applied op.MaxU old v
