-- What the instructions of a meeting come to.
use Rattle.std.proofs.Common.{◌≡◌, ℕ, ◌%◌, true, false, refl, eq-eqb}
use Rattle.std.specs.Prelude.{◌==◌, nat_lt, bit_and}
use Rattle.fk_num.specs.Word.{word_sum}
use Rattle.fk_isa.specs.declared.instruction.Instruction.TheVariants.{Lw, Andi, Beq, Bne, Bltu}
use Rattle.fk_machine.specs.declared.place.Device.TheVariants.{Cycle}
use Rattle.fk_machine.specs.declared.place.Location.TheVariants.{DeviceWord}
use Rattle.fk_machine.specs.Place.{place_of, device_at}
use Rattle.fk_machine.specs.Hart.{Hart, Shared, Setting, Goes}
use Rattle.fk_machine.specs.Step.{perform}
use Rattle.fk_machine.proofs.Performs.{writes, moves}

pub place_of-cycle : place_of 0x30000010 ≡ DeviceWord Cycle
unfolding place_of device_at
place_of-cycle = refl

-- a load of the device gives the number of cycles that were finished before this one
pub lw-cycle : (t : Setting) (number rd rs imm : ℕ) (h : Hart) (s : Shared) → word_sum (h.registers rs) imm % 4 ≡ 0
    → place_of (word_sum (h.registers rs) imm) ≡ DeviceWord Cycle → perform t number (Lw rd rs imm) h s ≡ Goes (writes h rd t.finished) s
lw-cycle t number rd rs imm h s e f = let aligned = eq-eqb _ 0 e in rw (aligned, f)

pub andi : (t : Setting) (number rd rs imm : ℕ) (h : Hart) (s : Shared)
    → perform t number (Andi rd rs imm) h s ≡ Goes (writes h rd (bit_and (h.registers rs) imm)) s
andi t number rd rs imm h s = refl

-- the hart after a jump that gives no register a value
abbrev pub goes_to : Hart → (pc : ℕ) → Hart
goes_to h pc = record h { pc = pc }

pub beq-taken : (t : Setting) (number ra rb imm : ℕ) (h : Hart) (s : Shared) → h.registers ra ≡ h.registers rb → word_sum h.pc imm % 4 ≡ 0
    → perform t number (Beq ra rb imm) h s ≡ Goes (goes_to h (word_sum h.pc imm)) s
beq-taken t number ra rb imm h s e a = let same = eq-eqb _ _ e in let aligned = eq-eqb _ 0 a in rw (same, aligned)

pub beq-passed : (t : Setting) (number ra rb imm : ℕ) (h : Hart) (s : Shared) → (h.registers ra == h.registers rb) ≡ false
    → perform t number (Beq ra rb imm) h s ≡ Goes (moves h) s
beq-passed t number ra rb imm h s e = rw e

pub bne-taken : (t : Setting) (number ra rb imm : ℕ) (h : Hart) (s : Shared) → (h.registers ra == h.registers rb) ≡ false → word_sum h.pc imm % 4 ≡ 0
    → perform t number (Bne ra rb imm) h s ≡ Goes (goes_to h (word_sum h.pc imm)) s
bne-taken t number ra rb imm h s e a = let aligned = eq-eqb _ 0 a in rw (e, aligned)

pub bne-passed : (t : Setting) (number ra rb imm : ℕ) (h : Hart) (s : Shared) → h.registers ra ≡ h.registers rb
    → perform t number (Bne ra rb imm) h s ≡ Goes (moves h) s
bne-passed t number ra rb imm h s e = let same = eq-eqb _ _ e in rw same

pub bltu-taken : (t : Setting) (number ra rb imm : ℕ) (h : Hart) (s : Shared) → nat_lt (h.registers ra) (h.registers rb) ≡ true → word_sum h.pc imm % 4 ≡ 0
    → perform t number (Bltu ra rb imm) h s ≡ Goes (goes_to h (word_sum h.pc imm)) s
bltu-taken t number ra rb imm h s e a = let aligned = eq-eqb _ 0 a in rw (e, aligned)

pub bltu-passed : (t : Setting) (number ra rb imm : ℕ) (h : Hart) (s : Shared) → nat_lt (h.registers ra) (h.registers rb) ≡ false
    → perform t number (Bltu ra rb imm) h s ≡ Goes (moves h) s
bltu-passed t number ra rb imm h s e = rw e
