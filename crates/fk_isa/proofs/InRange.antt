-- The fields that a row gives are in range.
use Rattle.std.proofs.Common.{◌≡◌, ℕ, Bool, ◌+◌, ◌*◌, ◌%◌, ◌^◌, ◌<◌, Option, Some, None, IfSome, sym, arith}
use Rattle.std.proofs.lemmas.Bool.Decides.{nat_tests}
use Rattle.fk_isa.specs.declared.instruction.Instruction.{Instruction}
use Rattle.fk_isa.specs.declared.instruction.Instruction.TheVariants.{Lui, Auipc, Jal, Jalr, Beq, Bne, Blt, Bge, Bltu, Bgeu, Lb, Lh, Lw, Lbu, Lhu, Sb, Sh, Sw, Addi, Slti, Sltiu, Xori, Ori, Andi, Slli, Srli, Srai, Add, Sub, Sll, Slt, Sltu, Xor, Srl, Sra, Or, And, Mul, Mulh, Mulhsu, Mulhu, Div, Divu, Rem, Remu, Fence, Ecall, Ebreak, LrW, ScW, AmoSwapW, AmoAddW, AmoXorW, AmoAndW, AmoOrW, AmoMinW, AmoMaxW, AmoMinuW, AmoMaxuW}
use Rattle.fk_isa.specs.Bits.{bits, extended}
use Rattle.fk_isa.specs.Fits.{Fits, IsRegister, IsShort, IsOffset}
use Rattle.fk_isa.specs.Find.{row}
use Rattle.fk_isa.specs.Row.{Row, RFormat, IFormat, SFormat, BFormat, UFormat, JFormat, AFormat}
use Rattle.fk_isa.proofs.Held.{held}

short_12 : (n imm : ℕ) → n < 2 ^ 12 → extended 12 n ≡ imm → IsShort 12 imm
short_12 n imm f e = grind (arith, nat_tests)

offset_13 : (n imm : ℕ) → n < 2 ^ 13 → n % 2 ≡ 0 → extended 13 n ≡ imm → IsOffset 13 imm
offset_13 n imm f even e = grind (arith, nat_tests)

offset_21 : (n imm : ℕ) → n < 2 ^ 21 → n % 2 ≡ 0 → extended 21 n ≡ imm → IsOffset 21 imm
offset_21 n imm f even e = grind (arith, nat_tests)

i_fits : {f3 code d a imm : ℕ} (w : ℕ) → IFormat w f3 code d a imm → IsRegister d × IsRegister a × IsShort 12 imm
i_fits w f = (omega arith, omega arith, short_12 (bits w 20 12) _ (omega arith) f.immediate)

s_fits : {f3 code a b imm : ℕ} (w : ℕ) → SFormat w f3 code a b imm → IsRegister a × IsRegister b × IsShort 12 imm
s_fits w f = (omega arith, omega arith, short_12 (bits w 25 7 * 2 ^ 5 + bits w 7 5) _ (omega arith) f.immediate)

b_fits : {f3 code a b imm : ℕ} (w : ℕ) → BFormat w f3 code a b imm → IsRegister a × IsRegister b × IsOffset 13 imm
b_fits w f =
    (omega arith, omega arith, offset_13 (bits w 31 1 * 2 ^ 12 + bits w 7 1 * 2 ^ 11 + bits w 25 6 * 2 ^ 5 + bits w 8 4 * 2) _ (omega arith) (omega arith) f.immediate)

u_fits : {code d imm : ℕ} (w : ℕ) → UFormat w code d imm → IsRegister d × (imm < 2 ^ 20)
u_fits w f = (omega arith, omega arith)

j_fits : {code d imm : ℕ} (w : ℕ) → JFormat w code d imm → IsRegister d × IsOffset 21 imm
j_fits w f =
    (omega arith, offset_21 (bits w 31 1 * 2 ^ 20 + bits w 12 8 * 2 ^ 12 + bits w 20 1 * 2 ^ 11 + bits w 21 10 * 2) _ (omega arith) (omega arith) f.immediate)

r_fits : {f7 f3 code d a b : ℕ} (w : ℕ) → RFormat w f7 f3 code d a b → IsRegister d × IsRegister a × IsRegister b
r_fits w f = (omega arith, omega arith, omega arith)

a_fits : {f5 : ℕ} {aq rl : Bool} {f3 code d a b : ℕ} (w : ℕ) → AFormat w f5 aq rl f3 code d a b → IsRegister d × IsRegister a × IsRegister b
a_fits w f = (omega arith, omega arith, omega arith)

pub row_fits : (w : ℕ) (i : Instruction) → Row w i → Fits i
row_fits w (Lui rd imm) f = u_fits w f
row_fits w (Auipc rd imm) f = u_fits w f
row_fits w (Jal rd imm) f = j_fits w f
row_fits w (Jalr rd rs1 imm) f = i_fits w f
row_fits w (Beq rs1 rs2 imm) f = b_fits w f
row_fits w (Bne rs1 rs2 imm) f = b_fits w f
row_fits w (Blt rs1 rs2 imm) f = b_fits w f
row_fits w (Bge rs1 rs2 imm) f = b_fits w f
row_fits w (Bltu rs1 rs2 imm) f = b_fits w f
row_fits w (Bgeu rs1 rs2 imm) f = b_fits w f
row_fits w (Lb rd rs1 imm) f = i_fits w f
row_fits w (Lh rd rs1 imm) f = i_fits w f
row_fits w (Lw rd rs1 imm) f = i_fits w f
row_fits w (Lbu rd rs1 imm) f = i_fits w f
row_fits w (Lhu rd rs1 imm) f = i_fits w f
row_fits w (Sb rs1 rs2 imm) f = s_fits w f
row_fits w (Sh rs1 rs2 imm) f = s_fits w f
row_fits w (Sw rs1 rs2 imm) f = s_fits w f
row_fits w (Addi rd rs1 imm) f = i_fits w f
row_fits w (Slti rd rs1 imm) f = i_fits w f
row_fits w (Sltiu rd rs1 imm) f = i_fits w f
row_fits w (Xori rd rs1 imm) f = i_fits w f
row_fits w (Ori rd rs1 imm) f = i_fits w f
row_fits w (Andi rd rs1 imm) f = i_fits w f
row_fits w (Slli rd rs1 distance) f = r_fits w f
row_fits w (Srli rd rs1 distance) f = r_fits w f
row_fits w (Srai rd rs1 distance) f = r_fits w f
row_fits w (Add rd rs1 rs2) f = r_fits w f
row_fits w (Sub rd rs1 rs2) f = r_fits w f
row_fits w (Sll rd rs1 rs2) f = r_fits w f
row_fits w (Slt rd rs1 rs2) f = r_fits w f
row_fits w (Sltu rd rs1 rs2) f = r_fits w f
row_fits w (Xor rd rs1 rs2) f = r_fits w f
row_fits w (Srl rd rs1 rs2) f = r_fits w f
row_fits w (Sra rd rs1 rs2) f = r_fits w f
row_fits w (Or rd rs1 rs2) f = r_fits w f
row_fits w (And rd rs1 rs2) f = r_fits w f
row_fits w (Mul rd rs1 rs2) f = r_fits w f
row_fits w (Mulh rd rs1 rs2) f = r_fits w f
row_fits w (Mulhsu rd rs1 rs2) f = r_fits w f
row_fits w (Mulhu rd rs1 rs2) f = r_fits w f
row_fits w (Div rd rs1 rs2) f = r_fits w f
row_fits w (Divu rd rs1 rs2) f = r_fits w f
row_fits w (Rem rd rs1 rs2) f = r_fits w f
row_fits w (Remu rd rs1 rs2) f = r_fits w f
row_fits w (Fence high low) f = (omega arith, omega arith)
row_fits w Ecall f = tt
row_fits w Ebreak f = tt
row_fits w (LrW rd rs1 aq rl) f = let all = a_fits w f in (all.0, all.1)
row_fits w (ScW rd rs1 rs2 aq rl) f = a_fits w f
row_fits w (AmoSwapW rd rs1 rs2 aq rl) f = a_fits w f
row_fits w (AmoAddW rd rs1 rs2 aq rl) f = a_fits w f
row_fits w (AmoXorW rd rs1 rs2 aq rl) f = a_fits w f
row_fits w (AmoAndW rd rs1 rs2 aq rl) f = a_fits w f
row_fits w (AmoOrW rd rs1 rs2 aq rl) f = a_fits w f
row_fits w (AmoMinW rd rs1 rs2 aq rl) f = a_fits w f
row_fits w (AmoMaxW rd rs1 rs2 aq rl) f = a_fits w f
row_fits w (AmoMinuW rd rs1 rs2 aq rl) f = a_fits w f
row_fits w (AmoMaxuW rd rs1 rs2 aq rl) f = a_fits w f

pub found_fits : (w : ℕ) (answer : Option Instruction) → answer ≡ row w → IfSome answer Fits
found_fits w None e = tt
found_fits w (Some i) e = row_fits w i (held w i (sym e))
