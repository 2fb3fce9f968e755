-- Harts, what they share, and the effect of an instruction.
use Rattle.std.specs.Prelude.{ℕ, List, Option, Bool}
use Rattle.fk_num.specs.Word.{Memory}
use Rattle.fk_isa.specs.declared.instruction.Instruction.{Instruction}
use Rattle.fk_machine.specs.declared.stand.Stand.{Stand}

-- A hart: the word of each register, the address of its next instruction, its own memory, and
-- whether it has ended.
pub record Hart : Type 0 where
  pub registers : Memory
  pub pc : ℕ
  pub local : Memory
  pub ended : Bool

-- The address of the word that each hart has reserved, if any, by the hart's number.
abbrev pub Reservations : Type 0
Reservations = ℕ → Option ℕ

-- What all harts share: data, control, the bytes printed in this cycle, and reservations.
pub record Shared : Type 0 where
  pub words : Memory
  pub control : Memory
  pub output : List ℕ
  pub reserved : Reservations

-- What stays the same in a cycle: the code, each word as an instruction if it is one; the numbers
-- of harts and of input numbers; and the number of cycles finished before.
pub record Setting : Type 0 where
  pub code : List (Option Instruction)
  pub harts : ℕ
  pub inputs : ℕ
  pub finished : ℕ

-- The effect of an instruction: it goes on, or ends the machine.
pub data Effect : Type 0 where
  Goes : (hart : Hart) (shared : Shared) → Effect
  Stops : (stand : Stand) → Effect
