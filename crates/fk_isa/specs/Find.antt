-- The row of a word, found by opcode, funct3 and funct7.
use Rattle.std.specs.Prelude.{ℕ, ◌==◌, if◌then◌else◌, Option, Some, None}
use Rattle.fk_isa.specs.declared.instruction.Instruction.{Instruction}
use Rattle.fk_isa.specs.declared.instruction.Instruction.TheVariants.{Lui, Auipc, Jal, Jalr, Beq}
use Rattle.fk_isa.specs.declared.instruction.Instruction.TheVariants.{Bne, Blt, Bge, Bltu, Bgeu, Lb}
use Rattle.fk_isa.specs.declared.instruction.Instruction.TheVariants.{Lh, Lw, Lbu, Lhu, Sb, Sh, Sw}
use Rattle.fk_isa.specs.declared.instruction.Instruction.TheVariants.{Addi, Slti, Sltiu, Xori, Ori}
use Rattle.fk_isa.specs.declared.instruction.Instruction.TheVariants.{Andi, Slli, Srli, Srai, Add}
use Rattle.fk_isa.specs.declared.instruction.Instruction.TheVariants.{Sub, Sll, Slt, Sltu, Xor, Srl}
use Rattle.fk_isa.specs.declared.instruction.Instruction.TheVariants.{Sra, Or, And, Mul, Mulh}
use Rattle.fk_isa.specs.declared.instruction.Instruction.TheVariants.{Mulhsu, Mulhu, Div, Divu, Rem}
use Rattle.fk_isa.specs.declared.instruction.Instruction.TheVariants.{Remu, Fence, Ecall, Ebreak}
use Rattle.fk_isa.specs.declared.instruction.Instruction.TheVariants.{LrW, ScW, AmoSwapW, AmoAddW}
use Rattle.fk_isa.specs.declared.instruction.Instruction.TheVariants.{AmoXorW, AmoAndW, AmoOrW}
use Rattle.fk_isa.specs.declared.instruction.Instruction.TheVariants.{AmoMinW, AmoMaxW, AmoMinuW}
use Rattle.fk_isa.specs.declared.instruction.Instruction.TheVariants.{AmoMaxuW}
use Rattle.fk_isa.specs.Bits.{bits, is_set, opcode, funct3, funct5, funct7, rd, rs1, rs2}
use Rattle.fk_isa.specs.Bits.{i_immediate, s_immediate, b_immediate, u_immediate, j_immediate}

-- The row of a word with opcode 0x63.
unfoldable pub branch_row : ℕ → Option Instruction
branch_row w =
    if funct3 w == 0 then Some (Beq (rs1 w) (rs2 w) (b_immediate w))
    else if funct3 w == 1 then Some (Bne (rs1 w) (rs2 w) (b_immediate w))
    else if funct3 w == 4 then Some (Blt (rs1 w) (rs2 w) (b_immediate w))
    else if funct3 w == 5 then Some (Bge (rs1 w) (rs2 w) (b_immediate w))
    else if funct3 w == 6 then Some (Bltu (rs1 w) (rs2 w) (b_immediate w))
    else if funct3 w == 7 then Some (Bgeu (rs1 w) (rs2 w) (b_immediate w))
    else None

-- The row of a word with opcode 0x03.
unfoldable pub load_row : ℕ → Option Instruction
load_row w =
    if funct3 w == 0 then Some (Lb (rd w) (rs1 w) (i_immediate w))
    else if funct3 w == 1 then Some (Lh (rd w) (rs1 w) (i_immediate w))
    else if funct3 w == 2 then Some (Lw (rd w) (rs1 w) (i_immediate w))
    else if funct3 w == 4 then Some (Lbu (rd w) (rs1 w) (i_immediate w))
    else if funct3 w == 5 then Some (Lhu (rd w) (rs1 w) (i_immediate w))
    else None

-- The row of a word with opcode 0x23.
unfoldable pub store_row : ℕ → Option Instruction
store_row w =
    if funct3 w == 0 then Some (Sb (rs1 w) (rs2 w) (s_immediate w))
    else if funct3 w == 1 then Some (Sh (rs1 w) (rs2 w) (s_immediate w))
    else if funct3 w == 2 then Some (Sw (rs1 w) (rs2 w) (s_immediate w))
    else None

-- The row of a word with opcode 0x13 and funct3 5.
unfoldable pub right_shift_row : ℕ → Option Instruction
right_shift_row w =
    if funct7 w == 0 then Some (Srli (rd w) (rs1 w) (rs2 w))
    else if funct7 w == 0x20 then Some (Srai (rd w) (rs1 w) (rs2 w))
    else None

-- The row of a word with opcode 0x13 and funct3 1.
unfoldable pub left_shift_row : ℕ → Option Instruction
left_shift_row w =
    if funct7 w == 0 then Some (Slli (rd w) (rs1 w) (rs2 w))
    else None

-- The row of a word with opcode 0x13.
unfoldable pub immediate_row : ℕ → Option Instruction
immediate_row w =
    if funct3 w == 0 then Some (Addi (rd w) (rs1 w) (i_immediate w))
    else if funct3 w == 1 then left_shift_row w
    else if funct3 w == 2 then Some (Slti (rd w) (rs1 w) (i_immediate w))
    else if funct3 w == 3 then Some (Sltiu (rd w) (rs1 w) (i_immediate w))
    else if funct3 w == 4 then Some (Xori (rd w) (rs1 w) (i_immediate w))
    else if funct3 w == 5 then right_shift_row w
    else if funct3 w == 6 then Some (Ori (rd w) (rs1 w) (i_immediate w))
    else if funct3 w == 7 then Some (Andi (rd w) (rs1 w) (i_immediate w))
    else None

-- The row of a word with opcode 0x33 and funct7 0.
unfoldable pub base_row : ℕ → Option Instruction
base_row w =
    if funct3 w == 0 then Some (Add (rd w) (rs1 w) (rs2 w))
    else if funct3 w == 1 then Some (Sll (rd w) (rs1 w) (rs2 w))
    else if funct3 w == 2 then Some (Slt (rd w) (rs1 w) (rs2 w))
    else if funct3 w == 3 then Some (Sltu (rd w) (rs1 w) (rs2 w))
    else if funct3 w == 4 then Some (Xor (rd w) (rs1 w) (rs2 w))
    else if funct3 w == 5 then Some (Srl (rd w) (rs1 w) (rs2 w))
    else if funct3 w == 6 then Some (Or (rd w) (rs1 w) (rs2 w))
    else if funct3 w == 7 then Some (And (rd w) (rs1 w) (rs2 w))
    else None

-- The row of a word with opcode 0x33 and funct7 0x20.
unfoldable pub other_row : ℕ → Option Instruction
other_row w =
    if funct3 w == 0 then Some (Sub (rd w) (rs1 w) (rs2 w))
    else if funct3 w == 5 then Some (Sra (rd w) (rs1 w) (rs2 w))
    else None

-- The row of a word with opcode 0x33 and funct7 1.
unfoldable pub product_row : ℕ → Option Instruction
product_row w =
    if funct3 w == 0 then Some (Mul (rd w) (rs1 w) (rs2 w))
    else if funct3 w == 1 then Some (Mulh (rd w) (rs1 w) (rs2 w))
    else if funct3 w == 2 then Some (Mulhsu (rd w) (rs1 w) (rs2 w))
    else if funct3 w == 3 then Some (Mulhu (rd w) (rs1 w) (rs2 w))
    else if funct3 w == 4 then Some (Div (rd w) (rs1 w) (rs2 w))
    else if funct3 w == 5 then Some (Divu (rd w) (rs1 w) (rs2 w))
    else if funct3 w == 6 then Some (Rem (rd w) (rs1 w) (rs2 w))
    else if funct3 w == 7 then Some (Remu (rd w) (rs1 w) (rs2 w))
    else None

-- The row of a word with opcode 0x33.
unfoldable pub operation_row : ℕ → Option Instruction
operation_row w =
    if funct7 w == 0 then base_row w
    else if funct7 w == 0x20 then other_row w
    else if funct7 w == 1 then product_row w
    else None

-- The row of a word with opcode 0x0f.
unfoldable pub fence_row : ℕ → Option Instruction
fence_row w =
    if funct3 w == 0 then Some (Fence (bits w 15 17) (bits w 7 5))
    else None

-- The row of a word with opcode 0x73.
unfoldable pub system_row : ℕ → Option Instruction
system_row w =
    if w == 0x00000073 then Some Ecall
    else if w == 0x00100073 then Some Ebreak
    else None

-- The row of a word with opcode 0x2f, funct3 2 and funct5 2, whose rs2 is 0.
unfoldable pub reserved_row : ℕ → Option Instruction
reserved_row w =
    if rs2 w == 0 then Some (LrW (rd w) (rs1 w) (is_set w 26) (is_set w 25))
    else None

-- The row of a word with opcode 0x2f and funct3 2.
unfoldable pub word_row : ℕ → Option Instruction
word_row w =
    if funct5 w == 0b00010 then reserved_row w
    else if funct5 w == 0b00011 then Some (ScW (rd w) (rs1 w) (rs2 w) (is_set w 26) (is_set w 25))
    else if funct5 w == 0b00001
    then Some (AmoSwapW (rd w) (rs1 w) (rs2 w) (is_set w 26) (is_set w 25))
    else if funct5 w == 0b00000
    then Some (AmoAddW (rd w) (rs1 w) (rs2 w) (is_set w 26) (is_set w 25))
    else if funct5 w == 0b00100
    then Some (AmoXorW (rd w) (rs1 w) (rs2 w) (is_set w 26) (is_set w 25))
    else if funct5 w == 0b01100
    then Some (AmoAndW (rd w) (rs1 w) (rs2 w) (is_set w 26) (is_set w 25))
    else if funct5 w == 0b01000
    then Some (AmoOrW (rd w) (rs1 w) (rs2 w) (is_set w 26) (is_set w 25))
    else if funct5 w == 0b10000
    then Some (AmoMinW (rd w) (rs1 w) (rs2 w) (is_set w 26) (is_set w 25))
    else if funct5 w == 0b10100
    then Some (AmoMaxW (rd w) (rs1 w) (rs2 w) (is_set w 26) (is_set w 25))
    else if funct5 w == 0b11000
    then Some (AmoMinuW (rd w) (rs1 w) (rs2 w) (is_set w 26) (is_set w 25))
    else if funct5 w == 0b11100
    then Some (AmoMaxuW (rd w) (rs1 w) (rs2 w) (is_set w 26) (is_set w 25))
    else None

-- The row of a word with opcode 0x2f.
unfoldable pub atomic_row : ℕ → Option Instruction
atomic_row w =
    if funct3 w == 2 then word_row w
    else None

-- The row of a word with opcode 0x67.
unfoldable pub jump_row : ℕ → Option Instruction
jump_row w =
    if funct3 w == 0 then Some (Jalr (rd w) (rs1 w) (i_immediate w))
    else None

-- The row of a word.
unfoldable pub row : ℕ → Option Instruction
row w =
    if opcode w == 0x37 then Some (Lui (rd w) (u_immediate w))
    else if opcode w == 0x17 then Some (Auipc (rd w) (u_immediate w))
    else if opcode w == 0x6f then Some (Jal (rd w) (j_immediate w))
    else if opcode w == 0x67 then jump_row w
    else if opcode w == 0x63 then branch_row w
    else if opcode w == 0x03 then load_row w
    else if opcode w == 0x23 then store_row w
    else if opcode w == 0x13 then immediate_row w
    else if opcode w == 0x33 then operation_row w
    else if opcode w == 0x0f then fence_row w
    else if opcode w == 0x73 then system_row w
    else if opcode w == 0x2f then atomic_row w
    else None
