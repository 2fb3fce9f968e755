-- What a bus answers a hart about its memory, reservations and devices.
use Rattle.std.specs.Prelude.{◌≡◌, ℕ, ◌⊎◌, Result, Ok, Err}
use Rattle.fk_isa.specs.declared.effect.Effect.{Effect}
use Rattle.fk_isa.specs.declared.effect.Effect.TheVariants.{Next, Ended, Fault}

-- The answer to a call: a value and the bus after it, or a trap, which changes nothing.
pub data Answer (S A : Type 0) : Type 0 where
  Gives : (value : A) (after : S) → Answer S A
  Traps : (kind : ℕ) → Answer S A

-- What a store does to its hart: the hart goes on, or has ended, or the machine has faulted at a
-- site.
pub data Stored : Type 0 where
  GoesOn : Stored
  Ends : Stored
  FaultsAt : (site : ℕ) → Stored

-- The answers of a bus, by its state, the hart, the address, the size or the instruction, and the
-- value.
pub record Tells (S : Type 0) : Type 0 where
  pub loads : S → ℕ → ℕ → ℕ → Answer S ℕ
  pub stores : S → ℕ → ℕ → ℕ → ℕ → Answer S Stored
  pub atomics : S → ℕ → ℕ → ℕ → ℕ → Answer S ℕ

-- A call returned what its answer says, and left the bus as the answer says.
abbrev pub Told : {S : Type 0} → Answer S ℕ → Result ℕ ℕ → S → S → Type 0
Told (Gives value after) result before now = (result ≡ Ok value) × (now ≡ after)
Told (Traps kind) result before now = (result ≡ Err kind) × (now ≡ before)

abbrev pub ToldStore : {S : Type 0} → Answer S Stored → Result Effect ℕ → S → S → Type 0
ToldStore (Gives GoesOn after) result before now = (result ≡ Ok Next) × (now ≡ after)
ToldStore (Gives Ends after) result before now = (result ≡ Ok Ended) × (now ≡ after)
ToldStore (Gives (FaultsAt site) after) result before now =
    (result ≡ Ok (Fault site)) × (now ≡ after)
ToldStore (Traps kind) result before now = (result ≡ Err kind) × (now ≡ before)

abbrev pub IsSize : ℕ → Type 0
IsSize size = (size ≡ 1) ⊎ (size ≡ 2) ⊎ (size ≡ 4)

-- The bits 31 to 27 of an atomic instruction: lr.w, sc.w, and amoswap.w to amomaxu.w.
abbrev pub IsAtomic : ℕ → Type 0
IsAtomic what = (what ≡ 0b00010) ⊎ (what ≡ 0b00011) ⊎ (what ≡ 0b00001) ⊎ (what ≡ 0b00000)
    ⊎ (what ≡ 0b00100) ⊎ (what ≡ 0b01100) ⊎ (what ≡ 0b01000) ⊎ (what ≡ 0b10000) ⊎ (what ≡ 0b10100)
    ⊎ (what ≡ 0b11000) ⊎ (what ≡ 0b11100)
