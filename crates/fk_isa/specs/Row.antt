-- The table of instructions (RISC-V Unprivileged ISA, "RV32/64G Instruction Set Listings").
use Rattle.std.specs.Prelude.{◌≡◌, ℕ, Bool}
use Rattle.fk_isa.specs.declared.instruction.Instruction.{Instruction}
use Rattle.fk_isa.specs.declared.instruction.Instruction.TheVariants.{Lui, Auipc, Jal, Jalr, Beq}
use Rattle.fk_isa.specs.declared.instruction.Instruction.TheVariants.{Bne, Blt, Bge, Bltu, Bgeu, Lb}
use Rattle.fk_isa.specs.declared.instruction.Instruction.TheVariants.{Lh, Lw, Lbu, Lhu, Sb, Sh, Sw}
use Rattle.fk_isa.specs.declared.instruction.Instruction.TheVariants.{Addi, Slti, Sltiu, Xori, Ori}
use Rattle.fk_isa.specs.declared.instruction.Instruction.TheVariants.{Andi, Slli, Srli, Srai, Add}
use Rattle.fk_isa.specs.declared.instruction.Instruction.TheVariants.{Sub, Sll, Slt, Sltu, Xor, Srl}
use Rattle.fk_isa.specs.declared.instruction.Instruction.TheVariants.{Sra, Or, And, Mul, Mulh}
use Rattle.fk_isa.specs.declared.instruction.Instruction.TheVariants.{Mulhsu, Mulhu, Div, Divu, Rem}
use Rattle.fk_isa.specs.declared.instruction.Instruction.TheVariants.{Remu, Fence, Ecall, Ebreak}
use Rattle.fk_isa.specs.declared.instruction.Instruction.TheVariants.{LrW, ScW, AmoSwapW, AmoAddW}
use Rattle.fk_isa.specs.declared.instruction.Instruction.TheVariants.{AmoXorW, AmoAndW, AmoOrW}
use Rattle.fk_isa.specs.declared.instruction.Instruction.TheVariants.{AmoMinW, AmoMaxW, AmoMinuW}
use Rattle.fk_isa.specs.declared.instruction.Instruction.TheVariants.{AmoMaxuW}
use Rattle.fk_isa.specs.Bits.{bits, is_set, opcode, funct3, funct5, funct7, rd, rs1, rs2}
use Rattle.fk_isa.specs.Bits.{i_immediate, s_immediate, b_immediate, u_immediate, j_immediate}

-- ---- the formats: which bits of a word give what

pub record RFormat (w f7 f3 code d a b : ℕ) : Type 0 where
  pub upper : funct7 w ≡ f7
  pub middle : funct3 w ≡ f3
  pub lower : opcode w ≡ code
  pub to : rd w ≡ d
  pub from : rs1 w ≡ a
  pub and : rs2 w ≡ b

pub record IFormat (w f3 code d a imm : ℕ) : Type 0 where
  pub middle : funct3 w ≡ f3
  pub lower : opcode w ≡ code
  pub to : rd w ≡ d
  pub from : rs1 w ≡ a
  pub immediate : i_immediate w ≡ imm

pub record SFormat (w f3 code a b imm : ℕ) : Type 0 where
  pub middle : funct3 w ≡ f3
  pub lower : opcode w ≡ code
  pub from : rs1 w ≡ a
  pub and : rs2 w ≡ b
  pub immediate : s_immediate w ≡ imm

pub record BFormat (w f3 code a b imm : ℕ) : Type 0 where
  pub middle : funct3 w ≡ f3
  pub lower : opcode w ≡ code
  pub from : rs1 w ≡ a
  pub and : rs2 w ≡ b
  pub immediate : b_immediate w ≡ imm

pub record UFormat (w code d imm : ℕ) : Type 0 where
  pub lower : opcode w ≡ code
  pub to : rd w ≡ d
  pub immediate : u_immediate w ≡ imm

pub record JFormat (w code d imm : ℕ) : Type 0 where
  pub lower : opcode w ≡ code
  pub to : rd w ≡ d
  pub immediate : j_immediate w ≡ imm

-- The format of the atomic instructions: R with the bits aq and rl in funct7.
pub record AFormat (w f5 : ℕ) (aq rl : Bool) (f3 code d a b : ℕ) : Type 0 where
  pub upper : funct5 w ≡ f5
  pub acquire : is_set w 26 ≡ aq
  pub release : is_set w 25 ≡ rl
  pub middle : funct3 w ≡ f3
  pub lower : opcode w ≡ code
  pub to : rd w ≡ d
  pub from : rs1 w ≡ a
  pub and : rs2 w ≡ b

-- The format of fence, whose other bits are free.
pub record FenceFormat (w f3 code high low : ℕ) : Type 0 where
  pub middle : funct3 w ≡ f3
  pub lower : opcode w ≡ code
  pub above : bits w 15 17 ≡ high
  pub below : bits w 7 5 ≡ low

-- ---- the rows: that a word is that of an instruction, by funct7, funct3 and opcode

abbrev pub Row : ℕ → Instruction → Type 0
Row w (Lui rd imm) = UFormat w 0x37 rd imm
Row w (Auipc rd imm) = UFormat w 0x17 rd imm
Row w (Jal rd imm) = JFormat w 0x6f rd imm
Row w (Jalr rd rs1 imm) = IFormat w 0 0x67 rd rs1 imm
Row w (Beq rs1 rs2 imm) = BFormat w 0 0x63 rs1 rs2 imm
Row w (Bne rs1 rs2 imm) = BFormat w 1 0x63 rs1 rs2 imm
Row w (Blt rs1 rs2 imm) = BFormat w 4 0x63 rs1 rs2 imm
Row w (Bge rs1 rs2 imm) = BFormat w 5 0x63 rs1 rs2 imm
Row w (Bltu rs1 rs2 imm) = BFormat w 6 0x63 rs1 rs2 imm
Row w (Bgeu rs1 rs2 imm) = BFormat w 7 0x63 rs1 rs2 imm
Row w (Lb rd rs1 imm) = IFormat w 0 0x03 rd rs1 imm
Row w (Lh rd rs1 imm) = IFormat w 1 0x03 rd rs1 imm
Row w (Lw rd rs1 imm) = IFormat w 2 0x03 rd rs1 imm
Row w (Lbu rd rs1 imm) = IFormat w 4 0x03 rd rs1 imm
Row w (Lhu rd rs1 imm) = IFormat w 5 0x03 rd rs1 imm
Row w (Sb rs1 rs2 imm) = SFormat w 0 0x23 rs1 rs2 imm
Row w (Sh rs1 rs2 imm) = SFormat w 1 0x23 rs1 rs2 imm
Row w (Sw rs1 rs2 imm) = SFormat w 2 0x23 rs1 rs2 imm
Row w (Addi rd rs1 imm) = IFormat w 0 0x13 rd rs1 imm
Row w (Slti rd rs1 imm) = IFormat w 2 0x13 rd rs1 imm
Row w (Sltiu rd rs1 imm) = IFormat w 3 0x13 rd rs1 imm
Row w (Xori rd rs1 imm) = IFormat w 4 0x13 rd rs1 imm
Row w (Ori rd rs1 imm) = IFormat w 6 0x13 rd rs1 imm
Row w (Andi rd rs1 imm) = IFormat w 7 0x13 rd rs1 imm
Row w (Slli rd rs1 distance) = RFormat w 0 1 0x13 rd rs1 distance
Row w (Srli rd rs1 distance) = RFormat w 0 5 0x13 rd rs1 distance
Row w (Srai rd rs1 distance) = RFormat w 0x20 5 0x13 rd rs1 distance
Row w (Add rd rs1 rs2) = RFormat w 0 0 0x33 rd rs1 rs2
Row w (Sub rd rs1 rs2) = RFormat w 0x20 0 0x33 rd rs1 rs2
Row w (Sll rd rs1 rs2) = RFormat w 0 1 0x33 rd rs1 rs2
Row w (Slt rd rs1 rs2) = RFormat w 0 2 0x33 rd rs1 rs2
Row w (Sltu rd rs1 rs2) = RFormat w 0 3 0x33 rd rs1 rs2
Row w (Xor rd rs1 rs2) = RFormat w 0 4 0x33 rd rs1 rs2
Row w (Srl rd rs1 rs2) = RFormat w 0 5 0x33 rd rs1 rs2
Row w (Sra rd rs1 rs2) = RFormat w 0x20 5 0x33 rd rs1 rs2
Row w (Or rd rs1 rs2) = RFormat w 0 6 0x33 rd rs1 rs2
Row w (And rd rs1 rs2) = RFormat w 0 7 0x33 rd rs1 rs2
Row w (Mul rd rs1 rs2) = RFormat w 0x1 0 0x33 rd rs1 rs2
Row w (Mulh rd rs1 rs2) = RFormat w 0x1 1 0x33 rd rs1 rs2
Row w (Mulhsu rd rs1 rs2) = RFormat w 0x1 2 0x33 rd rs1 rs2
Row w (Mulhu rd rs1 rs2) = RFormat w 0x1 3 0x33 rd rs1 rs2
Row w (Div rd rs1 rs2) = RFormat w 0x1 4 0x33 rd rs1 rs2
Row w (Divu rd rs1 rs2) = RFormat w 0x1 5 0x33 rd rs1 rs2
Row w (Rem rd rs1 rs2) = RFormat w 0x1 6 0x33 rd rs1 rs2
Row w (Remu rd rs1 rs2) = RFormat w 0x1 7 0x33 rd rs1 rs2
Row w (Fence high low) = FenceFormat w 0 0x0f high low
Row w Ecall = w ≡ 0x00000073
Row w Ebreak = w ≡ 0x00100073
Row w (LrW rd rs1 aq rl) = AFormat w 0b00010 aq rl 2 0x2f rd rs1 0
Row w (ScW rd rs1 rs2 aq rl) = AFormat w 0b00011 aq rl 2 0x2f rd rs1 rs2
Row w (AmoSwapW rd rs1 rs2 aq rl) = AFormat w 0b00001 aq rl 2 0x2f rd rs1 rs2
Row w (AmoAddW rd rs1 rs2 aq rl) = AFormat w 0b00000 aq rl 2 0x2f rd rs1 rs2
Row w (AmoXorW rd rs1 rs2 aq rl) = AFormat w 0b00100 aq rl 2 0x2f rd rs1 rs2
Row w (AmoAndW rd rs1 rs2 aq rl) = AFormat w 0b01100 aq rl 2 0x2f rd rs1 rs2
Row w (AmoOrW rd rs1 rs2 aq rl) = AFormat w 0b01000 aq rl 2 0x2f rd rs1 rs2
Row w (AmoMinW rd rs1 rs2 aq rl) = AFormat w 0b10000 aq rl 2 0x2f rd rs1 rs2
Row w (AmoMaxW rd rs1 rs2 aq rl) = AFormat w 0b10100 aq rl 2 0x2f rd rs1 rs2
Row w (AmoMinuW rd rs1 rs2 aq rl) = AFormat w 0b11000 aq rl 2 0x2f rd rs1 rs2
Row w (AmoMaxuW rd rs1 rs2 aq rl) = AFormat w 0b11100 aq rl 2 0x2f rd rs1 rs2
