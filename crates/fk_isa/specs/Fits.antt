-- Instructions whose fields are in range.
use Rattle.std.specs.Prelude.{◌≡◌, ℕ, ◌-◌, ◌%◌, ◌^◌, ◌<◌, ◌≤◌, ◌⊎◌}
use Rattle.fk_isa.specs.declared.instruction.Instruction.{Instruction}
use Rattle.fk_isa.specs.declared.instruction.Instruction.TheVariants.{Lui, Auipc, Jal, Jalr, Beq}
use Rattle.fk_isa.specs.declared.instruction.Instruction.TheVariants.{Bne, Blt, Bge, Bltu, Bgeu, Lb}
use Rattle.fk_isa.specs.declared.instruction.Instruction.TheVariants.{Lh, Lw, Lbu, Lhu, Sb, Sh, Sw}
use Rattle.fk_isa.specs.declared.instruction.Instruction.TheVariants.{Addi, Slti, Sltiu, Xori, Ori}
use Rattle.fk_isa.specs.declared.instruction.Instruction.TheVariants.{Andi, Slli, Srli, Srai, Add}
use Rattle.fk_isa.specs.declared.instruction.Instruction.TheVariants.{Sub, Sll, Slt, Sltu, Xor, Srl}
use Rattle.fk_isa.specs.declared.instruction.Instruction.TheVariants.{Sra, Or, And, Mul, Mulh}
use Rattle.fk_isa.specs.declared.instruction.Instruction.TheVariants.{Mulhsu, Mulhu, Div, Divu, Rem}
use Rattle.fk_isa.specs.declared.instruction.Instruction.TheVariants.{Remu, Fence, Ecall, Ebreak}
use Rattle.fk_isa.specs.declared.instruction.Instruction.TheVariants.{LrW, ScW, AmoSwapW, AmoAddW}
use Rattle.fk_isa.specs.declared.instruction.Instruction.TheVariants.{AmoXorW, AmoAndW, AmoOrW}
use Rattle.fk_isa.specs.declared.instruction.Instruction.TheVariants.{AmoMinW, AmoMaxW, AmoMinuW}
use Rattle.fk_isa.specs.declared.instruction.Instruction.TheVariants.{AmoMaxuW}

abbrev pub IsRegister : ℕ → Type 0
IsRegister r = r < 2 ^ 5

-- A word whose signed value has `count` bits.
abbrev pub IsShort : ℕ → ℕ → Type 0
IsShort count imm = (imm < 2 ^ (count - 1)) ⊎ ((2 ^ 32 - 2 ^ (count - 1) ≤ imm) × (imm < 2 ^ 32))

-- The offset of a branch or jump: a signed number of `count` bits, whose lowest bit is 0.
abbrev pub IsOffset : ℕ → ℕ → Type 0
IsOffset count imm = IsShort count imm × (imm % 2 ≡ 0)

abbrev pub AreRegisters : ℕ → ℕ → ℕ → Type 0
AreRegisters a b c = IsRegister a × IsRegister b × IsRegister c

abbrev pub Fits : Instruction → Type 0
Fits (Lui rd imm) = IsRegister rd × (imm < 2 ^ 20)
Fits (Auipc rd imm) = IsRegister rd × (imm < 2 ^ 20)
Fits (Jal rd imm) = IsRegister rd × IsOffset 21 imm
Fits (Jalr rd rs1 imm) = IsRegister rd × IsRegister rs1 × IsShort 12 imm
Fits (Beq rs1 rs2 imm) = IsRegister rs1 × IsRegister rs2 × IsOffset 13 imm
Fits (Bne rs1 rs2 imm) = IsRegister rs1 × IsRegister rs2 × IsOffset 13 imm
Fits (Blt rs1 rs2 imm) = IsRegister rs1 × IsRegister rs2 × IsOffset 13 imm
Fits (Bge rs1 rs2 imm) = IsRegister rs1 × IsRegister rs2 × IsOffset 13 imm
Fits (Bltu rs1 rs2 imm) = IsRegister rs1 × IsRegister rs2 × IsOffset 13 imm
Fits (Bgeu rs1 rs2 imm) = IsRegister rs1 × IsRegister rs2 × IsOffset 13 imm
Fits (Lb rd rs1 imm) = IsRegister rd × IsRegister rs1 × IsShort 12 imm
Fits (Lh rd rs1 imm) = IsRegister rd × IsRegister rs1 × IsShort 12 imm
Fits (Lw rd rs1 imm) = IsRegister rd × IsRegister rs1 × IsShort 12 imm
Fits (Lbu rd rs1 imm) = IsRegister rd × IsRegister rs1 × IsShort 12 imm
Fits (Lhu rd rs1 imm) = IsRegister rd × IsRegister rs1 × IsShort 12 imm
Fits (Sb rs1 rs2 imm) = IsRegister rs1 × IsRegister rs2 × IsShort 12 imm
Fits (Sh rs1 rs2 imm) = IsRegister rs1 × IsRegister rs2 × IsShort 12 imm
Fits (Sw rs1 rs2 imm) = IsRegister rs1 × IsRegister rs2 × IsShort 12 imm
Fits (Addi rd rs1 imm) = IsRegister rd × IsRegister rs1 × IsShort 12 imm
Fits (Slti rd rs1 imm) = IsRegister rd × IsRegister rs1 × IsShort 12 imm
Fits (Sltiu rd rs1 imm) = IsRegister rd × IsRegister rs1 × IsShort 12 imm
Fits (Xori rd rs1 imm) = IsRegister rd × IsRegister rs1 × IsShort 12 imm
Fits (Ori rd rs1 imm) = IsRegister rd × IsRegister rs1 × IsShort 12 imm
Fits (Andi rd rs1 imm) = IsRegister rd × IsRegister rs1 × IsShort 12 imm
Fits (Slli rd rs1 distance) = IsRegister rd × IsRegister rs1 × (distance < 32)
Fits (Srli rd rs1 distance) = IsRegister rd × IsRegister rs1 × (distance < 32)
Fits (Srai rd rs1 distance) = IsRegister rd × IsRegister rs1 × (distance < 32)
Fits (Add rd rs1 rs2) = AreRegisters rd rs1 rs2
Fits (Sub rd rs1 rs2) = AreRegisters rd rs1 rs2
Fits (Sll rd rs1 rs2) = AreRegisters rd rs1 rs2
Fits (Slt rd rs1 rs2) = AreRegisters rd rs1 rs2
Fits (Sltu rd rs1 rs2) = AreRegisters rd rs1 rs2
Fits (Xor rd rs1 rs2) = AreRegisters rd rs1 rs2
Fits (Srl rd rs1 rs2) = AreRegisters rd rs1 rs2
Fits (Sra rd rs1 rs2) = AreRegisters rd rs1 rs2
Fits (Or rd rs1 rs2) = AreRegisters rd rs1 rs2
Fits (And rd rs1 rs2) = AreRegisters rd rs1 rs2
Fits (Mul rd rs1 rs2) = AreRegisters rd rs1 rs2
Fits (Mulh rd rs1 rs2) = AreRegisters rd rs1 rs2
Fits (Mulhsu rd rs1 rs2) = AreRegisters rd rs1 rs2
Fits (Mulhu rd rs1 rs2) = AreRegisters rd rs1 rs2
Fits (Div rd rs1 rs2) = AreRegisters rd rs1 rs2
Fits (Divu rd rs1 rs2) = AreRegisters rd rs1 rs2
Fits (Rem rd rs1 rs2) = AreRegisters rd rs1 rs2
Fits (Remu rd rs1 rs2) = AreRegisters rd rs1 rs2
Fits (Fence high low) = (high < 2 ^ 17) × (low < 2 ^ 5)
Fits Ecall = Unit {0}
Fits Ebreak = Unit {0}
Fits (LrW rd rs1 aq rl) = IsRegister rd × IsRegister rs1
Fits (ScW rd rs1 rs2 aq rl) = AreRegisters rd rs1 rs2
Fits (AmoSwapW rd rs1 rs2 aq rl) = AreRegisters rd rs1 rs2
Fits (AmoAddW rd rs1 rs2 aq rl) = AreRegisters rd rs1 rs2
Fits (AmoXorW rd rs1 rs2 aq rl) = AreRegisters rd rs1 rs2
Fits (AmoAndW rd rs1 rs2 aq rl) = AreRegisters rd rs1 rs2
Fits (AmoOrW rd rs1 rs2 aq rl) = AreRegisters rd rs1 rs2
Fits (AmoMinW rd rs1 rs2 aq rl) = AreRegisters rd rs1 rs2
Fits (AmoMaxW rd rs1 rs2 aq rl) = AreRegisters rd rs1 rs2
Fits (AmoMinuW rd rs1 rs2 aq rl) = AreRegisters rd rs1 rs2
Fits (AmoMaxuW rd rs1 rs2 aq rl) = AreRegisters rd rs1 rs2
