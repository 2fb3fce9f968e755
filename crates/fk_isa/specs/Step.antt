-- What one instruction does to its hart, given the answers of the bus.
use Rattle.std.specs.Prelude.{ℕ, ◌*◌, ◌/◌, ◌%◌, ◌^◌, ◌==◌, not, nat_lt, nat_le, int_lt, int_le}
use Rattle.std.specs.Prelude.{if◌then◌else◌, Bool, true, slice_index}
use Rattle.fk_num.specs.Op.{applied}
use Rattle.fk_num.specs.Word.{Memory, put, signed, word_sum}
use Rattle.fk_num.specs.declared.operator.Op.{Op}
use Rattle.fk_num.specs.declared.operator.Op.TheVariants as op
use Rattle.fk_isa.specs.declared.effect.Effect.{Effect}
use Rattle.fk_isa.specs.declared.effect.Effect.TheVariants.{Next, Ended, Fault, Trap}
use Rattle.fk_isa.specs.declared.hart.Hart.{Hart}
use Rattle.fk_isa.specs.declared.instruction.Instruction.{Instruction}
use Rattle.fk_isa.specs.declared.instruction.Instruction.TheVariants.{Lui, Auipc, Jal, Jalr, Beq}
use Rattle.fk_isa.specs.declared.instruction.Instruction.TheVariants.{Bne, Blt, Bge, Bltu, Bgeu, Lb}
use Rattle.fk_isa.specs.declared.instruction.Instruction.TheVariants.{Lh, Lw, Lbu, Lhu, Sb, Sh, Sw}
use Rattle.fk_isa.specs.declared.instruction.Instruction.TheVariants.{Addi, Slti, Sltiu, Xori, Ori}
use Rattle.fk_isa.specs.declared.instruction.Instruction.TheVariants.{Andi, Slli, Srli, Srai, Add}
use Rattle.fk_isa.specs.declared.instruction.Instruction.TheVariants.{Sub, Sll, Slt, Sltu, Xor, Srl}
use Rattle.fk_isa.specs.declared.instruction.Instruction.TheVariants.{Sra, Or, And, Mul, Mulh}
use Rattle.fk_isa.specs.declared.instruction.Instruction.TheVariants.{Mulhsu, Mulhu, Div, Divu, Rem}
use Rattle.fk_isa.specs.declared.instruction.Instruction.TheVariants.{Remu, Fence, Ecall, Ebreak}
use Rattle.fk_isa.specs.declared.instruction.Instruction.TheVariants.{LrW, ScW, AmoSwapW, AmoAddW}
use Rattle.fk_isa.specs.declared.instruction.Instruction.TheVariants.{AmoXorW, AmoAndW, AmoOrW}
use Rattle.fk_isa.specs.declared.instruction.Instruction.TheVariants.{AmoMinW, AmoMaxW, AmoMinuW}
use Rattle.fk_isa.specs.declared.instruction.Instruction.TheVariants.{AmoMaxuW}
use Rattle.fk_isa.specs.Bits.{extended}
use Rattle.fk_isa.specs.Tells.{Answer, Gives, Traps, Stored, GoesOn, Ends, FaultsAt, Tells}

-- A hart: the word of each register, the address of its next instruction, and whether it has ended.
pub record HartState : Type 0 where
  pub registers : Memory
  pub pc : ℕ
  pub ended : Bool

abbrev pub hart_of : Hart → HartState
hart_of h = record { registers = slice_index h.registers; pc = h.pc; ended = h.ended }

-- The outcome of an instruction: its effect, and the hart and the bus after it.
pub data Outcome (S : Type 0) : Type 0 where
  After : (effect : Effect) (hart : HartState) (bus : S) → Outcome S

-- Register 0 stays 0.
abbrev pub set_register : Memory → ℕ → ℕ → Memory
set_register registers r v = if r == 0 then registers else put registers r v

abbrev pub next : HartState → ℕ
next h = word_sum h.pc 4

abbrev pub moved : HartState → ℕ → HartState
moved h pc = record { registers = h.registers; pc = pc; ended = h.ended }

-- The hart after an instruction that gives register rd a value.
abbrev pub written : HartState → ℕ → ℕ → HartState
written h rd v = record { registers = set_register h.registers rd v; pc = next h; ended = h.ended }

abbrev pub ended : HartState → HartState
ended h = record { registers = h.registers; pc = next h; ended = true }

abbrev pub goes : {S : Type 0} → HartState → S → Outcome S
goes h s = After Next h s

-- A trap: 3 Misaligned, 5 Ecall, 6 Ebreak, or one of the bus. A trapping instruction changes
-- nothing.
abbrev pub traps : {S : Type 0} → ℕ → HartState → S → Outcome S
traps kind h s = After (Trap kind) h s

-- A jump or a taken branch to an address that is no multiple of 4 is the trap Misaligned.
abbrev pub jump_effect : ℕ → Effect
jump_effect target = if target % 4 == 0 then Next else Trap 3

-- The hart after a jump. Register rd gets the address of the next instruction.
abbrev pub jumped : HartState → ℕ → ℕ → HartState
jumped h rd target = if target % 4 == 0 then moved (written h rd (next h)) target else h

abbrev pub jump : {S : Type 0} → HartState → S → ℕ → ℕ → Outcome S
jump h s rd target = After (jump_effect target) (jumped h rd target) s

abbrev pub branch_effect : Bool → ℕ → Effect
branch_effect holds target = if holds then jump_effect target else Next

-- The hart after a branch, which gives no register a value.
abbrev pub branched : Bool → HartState → ℕ → HartState
branched holds h target = if holds then jumped h 0 target else moved h (next h)

abbrev pub branch : {S : Type 0} → Bool → HartState → S → ℕ → Outcome S
branch holds h s imm =
    After (branch_effect holds (word_sum h.pc imm)) (branched holds h (word_sum h.pc imm)) s

-- Register rd gets what the bus gives, converted by a function.
abbrev pub puts : {S : Type 0} → HartState → S → ℕ → (ℕ → ℕ) → Answer S ℕ → Outcome S
puts h s rd f (Gives v after) = goes (written h rd (f v)) after
puts h s rd f (Traps kind) = traps kind h s

-- A store that faults leaves its hart where it is.
abbrev pub stores_to : {S : Type 0} → HartState → S → Answer S Stored → Outcome S
stores_to h s (Gives GoesOn after) = After Next (moved h (next h)) after
stores_to h s (Gives Ends after) = After Ended (ended h) after
stores_to h s (Gives (FaultsAt site) after) = After (Fault site) h after
stores_to h s (Traps kind) = traps kind h s

abbrev pub address : HartState → ℕ → ℕ → ℕ
address h rs1 imm = word_sum (h.registers rs1) imm

abbrev pub load : {S : Type 0} → Tells S → ℕ → HartState → S → ℕ → ℕ → ℕ → ℕ → (ℕ → ℕ) → Outcome S
load t n h s rd rs1 imm size f = puts h s rd f (t.loads s n (address h rs1 imm) size)

abbrev pub store : {S : Type 0} → Tells S → ℕ → HartState → S → ℕ → ℕ → ℕ → ℕ → Outcome S
store t n h s rs1 rs2 imm size =
    stores_to h s (t.stores s n (address h rs1 imm) size (h.registers rs2))

abbrev pub atomic : {S : Type 0} → Tells S → ℕ → HartState → S → ℕ → ℕ → ℕ → ℕ → Outcome S
atomic t n h s what rd rs1 rs2 =
    puts h s rd (λ v. v) (t.atomics s n (h.registers rs1) what (h.registers rs2))

abbrev pub immediate : {S : Type 0} → Op → HartState → S → ℕ → ℕ → ℕ → Outcome S
immediate o h s rd rs1 imm = goes (written h rd (applied o (h.registers rs1) imm)) s

abbrev pub operation : {S : Type 0} → Op → HartState → S → ℕ → ℕ → ℕ → Outcome S
operation o h s rd rs1 rs2 = immediate o h s rd rs1 (h.registers rs2)

abbrev pub step : {S : Type 0} → Tells S → ℕ → Instruction → HartState → S → Outcome S
step t n (Lui rd imm) h s = goes (written h rd (imm * 2 ^ 12)) s
step t n (Auipc rd imm) h s = goes (written h rd (word_sum h.pc (imm * 2 ^ 12))) s
step t n (Jal rd imm) h s = jump h s rd (word_sum h.pc imm)
step t n (Jalr rd rs1 imm) h s = jump h s rd (address h rs1 imm / 2 * 2)
step t n (Beq rs1 rs2 imm) h s = branch (h.registers rs1 == h.registers rs2) h s imm
step t n (Bne rs1 rs2 imm) h s = branch (not (h.registers rs1 == h.registers rs2)) h s imm
step t n (Blt rs1 rs2 imm) h s =
    branch (int_lt (signed (h.registers rs1)) (signed (h.registers rs2))) h s imm
step t n (Bge rs1 rs2 imm) h s =
    branch (int_le (signed (h.registers rs2)) (signed (h.registers rs1))) h s imm
step t n (Bltu rs1 rs2 imm) h s = branch (nat_lt (h.registers rs1) (h.registers rs2)) h s imm
step t n (Bgeu rs1 rs2 imm) h s = branch (nat_le (h.registers rs2) (h.registers rs1)) h s imm
step t n (Lb rd rs1 imm) h s = load t n h s rd rs1 imm 1 (extended 8)
step t n (Lh rd rs1 imm) h s = load t n h s rd rs1 imm 2 (extended 16)
step t n (Lw rd rs1 imm) h s = load t n h s rd rs1 imm 4 (λ v. v)
step t n (Lbu rd rs1 imm) h s = load t n h s rd rs1 imm 1 (λ v. v)
step t n (Lhu rd rs1 imm) h s = load t n h s rd rs1 imm 2 (λ v. v)
step t n (Sb rs1 rs2 imm) h s = store t n h s rs1 rs2 imm 1
step t n (Sh rs1 rs2 imm) h s = store t n h s rs1 rs2 imm 2
step t n (Sw rs1 rs2 imm) h s = store t n h s rs1 rs2 imm 4
step t n (Addi rd rs1 imm) h s = immediate op.Add h s rd rs1 imm
step t n (Slti rd rs1 imm) h s = immediate op.LtS h s rd rs1 imm
step t n (Sltiu rd rs1 imm) h s = immediate op.LtU h s rd rs1 imm
step t n (Xori rd rs1 imm) h s = immediate op.Xor h s rd rs1 imm
step t n (Ori rd rs1 imm) h s = immediate op.Or h s rd rs1 imm
step t n (Andi rd rs1 imm) h s = immediate op.And h s rd rs1 imm
step t n (Slli rd rs1 distance) h s = immediate op.Shl h s rd rs1 distance
step t n (Srli rd rs1 distance) h s = immediate op.ShrU h s rd rs1 distance
step t n (Srai rd rs1 distance) h s = immediate op.ShrS h s rd rs1 distance
step t n (Add rd rs1 rs2) h s = operation op.Add h s rd rs1 rs2
step t n (Sub rd rs1 rs2) h s = operation op.Sub h s rd rs1 rs2
step t n (Sll rd rs1 rs2) h s = operation op.Shl h s rd rs1 rs2
step t n (Slt rd rs1 rs2) h s = operation op.LtS h s rd rs1 rs2
step t n (Sltu rd rs1 rs2) h s = operation op.LtU h s rd rs1 rs2
step t n (Xor rd rs1 rs2) h s = operation op.Xor h s rd rs1 rs2
step t n (Srl rd rs1 rs2) h s = operation op.ShrU h s rd rs1 rs2
step t n (Sra rd rs1 rs2) h s = operation op.ShrS h s rd rs1 rs2
step t n (Or rd rs1 rs2) h s = operation op.Or h s rd rs1 rs2
step t n (And rd rs1 rs2) h s = operation op.And h s rd rs1 rs2
step t n (Mul rd rs1 rs2) h s = operation op.Mul h s rd rs1 rs2
step t n (Mulh rd rs1 rs2) h s = operation op.MulHS h s rd rs1 rs2
step t n (Mulhsu rd rs1 rs2) h s = operation op.MulHSU h s rd rs1 rs2
step t n (Mulhu rd rs1 rs2) h s = operation op.MulHU h s rd rs1 rs2
step t n (Div rd rs1 rs2) h s = operation op.DivS h s rd rs1 rs2
step t n (Divu rd rs1 rs2) h s = operation op.DivU h s rd rs1 rs2
step t n (Rem rd rs1 rs2) h s = operation op.RemS h s rd rs1 rs2
step t n (Remu rd rs1 rs2) h s = operation op.RemU h s rd rs1 rs2
step t n (Fence high low) h s = goes (moved h (next h)) s
step t n Ecall h s = traps 5 h s
step t n Ebreak h s = traps 6 h s
step t n (LrW rd rs1 aq rl) h s = atomic t n h s 0b00010 rd rs1 0
step t n (ScW rd rs1 rs2 aq rl) h s = atomic t n h s 0b00011 rd rs1 rs2
step t n (AmoSwapW rd rs1 rs2 aq rl) h s = atomic t n h s 0b00001 rd rs1 rs2
step t n (AmoAddW rd rs1 rs2 aq rl) h s = atomic t n h s 0b00000 rd rs1 rs2
step t n (AmoXorW rd rs1 rs2 aq rl) h s = atomic t n h s 0b00100 rd rs1 rs2
step t n (AmoAndW rd rs1 rs2 aq rl) h s = atomic t n h s 0b01100 rd rs1 rs2
step t n (AmoOrW rd rs1 rs2 aq rl) h s = atomic t n h s 0b01000 rd rs1 rs2
step t n (AmoMinW rd rs1 rs2 aq rl) h s = atomic t n h s 0b10000 rd rs1 rs2
step t n (AmoMaxW rd rs1 rs2 aq rl) h s = atomic t n h s 0b10100 rd rs1 rs2
step t n (AmoMinuW rd rs1 rs2 aq rl) h s = atomic t n h s 0b11000 rd rs1 rs2
step t n (AmoMaxuW rd rs1 rs2 aq rl) h s = atomic t n h s 0b11100 rd rs1 rs2
