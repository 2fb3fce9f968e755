-- What one instruction of a hart does.
use Rattle.std.specs.Prelude.{ℕ, ◌/◌, Option, Some, None, slice_get}
use Rattle.fk_isa.specs.declared.instruction.Instruction.{Instruction}
use Rattle.fk_isa.specs.declared.effect.Effect.TheVariants.{Next, Ended, Fault, Trap}
use Rattle.fk_isa.specs.Step.{HartState, Outcome, After, step as outcome}
use Rattle.fk_machine.specs.declared.stand.Stand.TheVariants.{Faulted, Trapped}
use Rattle.fk_machine.specs.Hart.{Hart, Shared, Setting, Effect, Goes, Stops}
use Rattle.fk_machine.specs.Reach.{Reach, tells}

-- A trap: 1 Fetch, 2 Unknown, 3 Misaligned, 4 Access, 5 Ecall or 6 Ebreak. A trapping instruction
-- changes nothing.
abbrev pub trap : ℕ → Hart → ℕ → Effect
trap number h kind = Stops (Trapped number h.pc kind)

-- A hart without its local memory.
abbrev pub state_of : Hart → HartState
state_of h = record { registers = h.registers; pc = h.pc; ended = h.ended }

-- What a hart reaches.
abbrev pub reach_of : Setting → Hart → Shared → Reach
reach_of t h s = record { setting = t; local = h.local; shared = s }

-- The hart goes on with what it has reached.
abbrev pub goes : HartState → Reach → Effect
goes h r =
    Goes (record { registers = h.registers; pc = h.pc; local = r.local; ended = h.ended }) r.shared

-- The effect of an outcome. A fault or a trap ends the machine.
abbrev pub on_outcome : ℕ → Hart → Outcome Reach → Effect
on_outcome number h (After Next h' r) = goes h' r
on_outcome number h (After Ended h' r) = goes h' r
on_outcome number h (After (Fault site) h' r) = Stops (Faulted site number)
on_outcome number h (After (Trap kind) h' r) = trap number h kind

-- An instruction of the hart with this number.
abbrev pub perform : Setting → ℕ → Instruction → Hart → Shared → Effect
perform t number i h s = on_outcome number h (outcome tells number i (state_of h) (reach_of t h s))

-- A word that is no instruction is the trap Unknown.
abbrev pub on_row : Setting → ℕ → Option Instruction → Hart → Shared → Effect
on_row t number None h s = trap number h 2
on_row t number (Some i) h s = perform t number i h s

-- A pc outside the code is the trap Fetch.
abbrev pub on_fetch : Setting → ℕ → Option (Option Instruction) → Hart → Shared → Effect
on_fetch t number None h s = trap number h 1
on_fetch t number (Some r) h s = on_row t number r h s

-- One turn of the hart with this number.
abbrev pub step : Setting → ℕ → Hart → Shared → Effect
step t number h s = on_fetch t number (slice_get t.code (h.pc / 4)) h s
