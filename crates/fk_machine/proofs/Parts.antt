-- The parts of a word.
use Rattle.std.proofs.Common.{◌≡◌, ℕ, zero, suc, ◌+◌, ◌*◌, ◌/◌, ◌%◌, ◌^◌, ◌<◌, ◌≤◌, arith}
use Rattle.fk_machine.specs.Reach.{with_part}

-- the word that is put together of the bytes above, the new ones and those below
abbrev pub spliced : ℕ → ℕ → ℕ → ℕ → ℕ
spliced w byte size v =
    (w / 2 ^ (8 * byte) / 2 ^ (8 * size) * 2 ^ (8 * size) % 4294967296 + v % (1 * 2 ^ (8 * size) % 4294967296)) * 2 ^ (8 * byte) % 4294967296
    + w % (1 * 2 ^ (8 * byte) % 4294967296)

pub record Splices (w byte size v : ℕ) : Type 0 where
  pub fits : spliced w byte size v < 4294967296
  pub is : spliced w byte size v ≡ with_part w byte size v

one_byte : (w byte v : ℕ) → w < 2 ^ 32 → byte + 1 ≤ 4 → Splices w byte 1 v
one_byte w zero v fits within = record { fits = omega arith; is = omega arith }
one_byte w (suc zero) v fits within = record { fits = omega arith; is = omega arith }
one_byte w (suc (suc zero)) v fits within = record { fits = omega arith; is = omega arith }
one_byte w (suc (suc (suc zero))) v fits within = record { fits = omega arith; is = omega arith }
one_byte w (suc (suc (suc (suc byte)))) v fits within = absurd (omega arith)

two_bytes : (w byte v : ℕ) → w < 2 ^ 32 → byte + 2 ≤ 4 → Splices w byte 2 v
two_bytes w zero v fits within = record { fits = omega arith; is = omega arith }
two_bytes w (suc zero) v fits within = record { fits = omega arith; is = omega arith }
two_bytes w (suc (suc zero)) v fits within = record { fits = omega arith; is = omega arith }
two_bytes w (suc (suc (suc byte))) v fits within = absurd (omega arith)

pub splices : (w byte size v : ℕ) → w < 2 ^ 32 → 1 ≤ size → size ≤ 2 → byte + size ≤ 4 → Splices w byte size v
splices w byte (suc zero) v fits some few within = one_byte w byte v fits within
splices w byte (suc (suc zero)) v fits some few within = two_bytes w byte v fits within
splices w byte zero v fits some few within = absurd (omega arith)
splices w byte (suc (suc (suc size))) v fits some few within = absurd (omega arith)
