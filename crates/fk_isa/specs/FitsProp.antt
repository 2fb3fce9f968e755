-- There is at most one proof that an instruction fits.
use Rattle.std.specs.Prelude.{ℕ, ◌-◌, ◌%◌, ◌^◌, ◌<◌, ◌≤◌}
use Rattle.std.specs.Coded.{×_prop, Unit-prop, le_prop}
use Rattle.std.proofs.Common.{ap, arith, inl, inr}
use native.Mathlib.Nat.{ℕ_set}
use Rattle.fk_isa.specs.declared.instruction.Instruction.{Instruction}
use Rattle.fk_isa.specs.declared.instruction.Instruction.TheVariants.{Lui, Auipc, Jal, Jalr, Beq}
use Rattle.fk_isa.specs.declared.instruction.Instruction.TheVariants.{Bne, Blt, Bge, Bltu, Bgeu, Lb}
use Rattle.fk_isa.specs.declared.instruction.Instruction.TheVariants.{Lh, Lw, Lbu, Lhu, Sb, Sh, Sw}
use Rattle.fk_isa.specs.declared.instruction.Instruction.TheVariants.{Addi, Slti, Sltiu, Xori, Ori}
use Rattle.fk_isa.specs.declared.instruction.Instruction.TheVariants.{Andi, Slli, Srli, Srai, Add}
use Rattle.fk_isa.specs.declared.instruction.Instruction.TheVariants.{Sub, Sll, Slt, Sltu, Xor, Srl}
use Rattle.fk_isa.specs.declared.instruction.Instruction.TheVariants.{Sra, Or, And, Mul, Mulh}
use Rattle.fk_isa.specs.declared.instruction.Instruction.TheVariants.{Mulhsu, Mulhu, Div, Divu, Rem}
use Rattle.fk_isa.specs.declared.instruction.Instruction.TheVariants.{Remu, Fence, Ecall, Ebreak}
use Rattle.fk_isa.specs.declared.instruction.Instruction.TheVariants.{LrW, ScW, AmoSwapW, AmoAddW}
use Rattle.fk_isa.specs.declared.instruction.Instruction.TheVariants.{AmoXorW, AmoAndW, AmoOrW}
use Rattle.fk_isa.specs.declared.instruction.Instruction.TheVariants.{AmoMinW, AmoMaxW, AmoMinuW}
use Rattle.fk_isa.specs.declared.instruction.Instruction.TheVariants.{AmoMaxuW}
use Rattle.fk_isa.specs.Fits.{IsRegister, IsShort, IsOffset, Fits}

-- A word is not both small and large.
abbrev AreApart : ℕ → ℕ → Type 0
AreApart count imm = imm < 2 ^ (count - 1) → 2 ^ 32 - 2 ^ (count - 1) ≤ imm → ⊥

short_prop : (count imm : ℕ) → AreApart count imm → IsProp (IsShort count imm)
short_prop count imm apart (inl a) (inl b) = ap inl (le_prop a b)
short_prop count imm apart (inr a) (inr b) = ap inr (×_prop le_prop le_prop a b)
short_prop count imm apart (inl a) (inr b) = absurd (apart a b.0)
short_prop count imm apart (inr a) (inl b) = absurd (apart b a.0)

offset_prop : (count imm : ℕ) → AreApart count imm → IsProp (IsOffset count imm)
offset_prop count imm apart = ×_prop (short_prop count imm apart) (ℕ_set (imm % 2) 0)

all_prop : {A B C : Type 0} → IsProp A → IsProp B → IsProp C → IsProp (A × B × C)
all_prop f g h u v = λ i. (f u.0 v.0 i, g u.1 v.1 i, h u.2 v.2 i)

short_row_prop : (a b imm : ℕ) → IsProp (IsRegister a × IsRegister b × IsShort 12 imm)
short_row_prop a b imm = all_prop le_prop le_prop (short_prop 12 imm (λ l h. omega arith))

branch_row_prop : (a b imm : ℕ) → IsProp (IsRegister a × IsRegister b × IsOffset 13 imm)
branch_row_prop a b imm = all_prop le_prop le_prop (offset_prop 13 imm (λ l h. omega arith))

three_prop : (a b c : ℕ) → IsProp (IsRegister a × IsRegister b × IsRegister c)
three_prop a b c = all_prop le_prop le_prop le_prop

pub Fits-prop : (i : Instruction) → IsProp (Fits i)
Fits-prop (Lui rd imm) = ×_prop le_prop le_prop
Fits-prop (Auipc rd imm) = ×_prop le_prop le_prop
Fits-prop (Jal rd imm) = ×_prop le_prop (offset_prop 21 imm (λ a b. omega arith))
Fits-prop (Jalr rd rs1 imm) = short_row_prop rd rs1 imm
Fits-prop (Beq rs1 rs2 imm) = branch_row_prop rs1 rs2 imm
Fits-prop (Bne rs1 rs2 imm) = branch_row_prop rs1 rs2 imm
Fits-prop (Blt rs1 rs2 imm) = branch_row_prop rs1 rs2 imm
Fits-prop (Bge rs1 rs2 imm) = branch_row_prop rs1 rs2 imm
Fits-prop (Bltu rs1 rs2 imm) = branch_row_prop rs1 rs2 imm
Fits-prop (Bgeu rs1 rs2 imm) = branch_row_prop rs1 rs2 imm
Fits-prop (Lb rd rs1 imm) = short_row_prop rd rs1 imm
Fits-prop (Lh rd rs1 imm) = short_row_prop rd rs1 imm
Fits-prop (Lw rd rs1 imm) = short_row_prop rd rs1 imm
Fits-prop (Lbu rd rs1 imm) = short_row_prop rd rs1 imm
Fits-prop (Lhu rd rs1 imm) = short_row_prop rd rs1 imm
Fits-prop (Sb rs1 rs2 imm) = short_row_prop rs1 rs2 imm
Fits-prop (Sh rs1 rs2 imm) = short_row_prop rs1 rs2 imm
Fits-prop (Sw rs1 rs2 imm) = short_row_prop rs1 rs2 imm
Fits-prop (Addi rd rs1 imm) = short_row_prop rd rs1 imm
Fits-prop (Slti rd rs1 imm) = short_row_prop rd rs1 imm
Fits-prop (Sltiu rd rs1 imm) = short_row_prop rd rs1 imm
Fits-prop (Xori rd rs1 imm) = short_row_prop rd rs1 imm
Fits-prop (Ori rd rs1 imm) = short_row_prop rd rs1 imm
Fits-prop (Andi rd rs1 imm) = short_row_prop rd rs1 imm
Fits-prop (Slli rd rs1 distance) = three_prop rd rs1 distance
Fits-prop (Srli rd rs1 distance) = three_prop rd rs1 distance
Fits-prop (Srai rd rs1 distance) = three_prop rd rs1 distance
Fits-prop (Add rd rs1 rs2) = three_prop rd rs1 rs2
Fits-prop (Sub rd rs1 rs2) = three_prop rd rs1 rs2
Fits-prop (Sll rd rs1 rs2) = three_prop rd rs1 rs2
Fits-prop (Slt rd rs1 rs2) = three_prop rd rs1 rs2
Fits-prop (Sltu rd rs1 rs2) = three_prop rd rs1 rs2
Fits-prop (Xor rd rs1 rs2) = three_prop rd rs1 rs2
Fits-prop (Srl rd rs1 rs2) = three_prop rd rs1 rs2
Fits-prop (Sra rd rs1 rs2) = three_prop rd rs1 rs2
Fits-prop (Or rd rs1 rs2) = three_prop rd rs1 rs2
Fits-prop (And rd rs1 rs2) = three_prop rd rs1 rs2
Fits-prop (Mul rd rs1 rs2) = three_prop rd rs1 rs2
Fits-prop (Mulh rd rs1 rs2) = three_prop rd rs1 rs2
Fits-prop (Mulhsu rd rs1 rs2) = three_prop rd rs1 rs2
Fits-prop (Mulhu rd rs1 rs2) = three_prop rd rs1 rs2
Fits-prop (Div rd rs1 rs2) = three_prop rd rs1 rs2
Fits-prop (Divu rd rs1 rs2) = three_prop rd rs1 rs2
Fits-prop (Rem rd rs1 rs2) = three_prop rd rs1 rs2
Fits-prop (Remu rd rs1 rs2) = three_prop rd rs1 rs2
Fits-prop (Fence high low) = ×_prop le_prop le_prop
Fits-prop Ecall = Unit-prop
Fits-prop Ebreak = Unit-prop
Fits-prop (LrW rd rs1 aq rl) = ×_prop le_prop le_prop
Fits-prop (ScW rd rs1 rs2 aq rl) = three_prop rd rs1 rs2
Fits-prop (AmoSwapW rd rs1 rs2 aq rl) = three_prop rd rs1 rs2
Fits-prop (AmoAddW rd rs1 rs2 aq rl) = three_prop rd rs1 rs2
Fits-prop (AmoXorW rd rs1 rs2 aq rl) = three_prop rd rs1 rs2
Fits-prop (AmoAndW rd rs1 rs2 aq rl) = three_prop rd rs1 rs2
Fits-prop (AmoOrW rd rs1 rs2 aq rl) = three_prop rd rs1 rs2
Fits-prop (AmoMinW rd rs1 rs2 aq rl) = three_prop rd rs1 rs2
Fits-prop (AmoMaxW rd rs1 rs2 aq rl) = three_prop rd rs1 rs2
Fits-prop (AmoMinuW rd rs1 rs2 aq rl) = three_prop rd rs1 rs2
Fits-prop (AmoMaxuW rd rs1 rs2 aq rl) = three_prop rd rs1 rs2
