-- Which instructions compute.
use Rattle.fk_isa.specs.declared.instruction.Instruction.{Instruction}
use Rattle.fk_isa.specs.declared.instruction.Instruction.TheVariants.{Lui, Auipc, Addi, Slti, Sltiu}
use Rattle.fk_isa.specs.declared.instruction.Instruction.TheVariants.{Xori, Ori, Andi, Slli, Srli}
use Rattle.fk_isa.specs.declared.instruction.Instruction.TheVariants.{Srai, Add, Sub, Sll, Slt}
use Rattle.fk_isa.specs.declared.instruction.Instruction.TheVariants.{Sltu, Xor, Srl, Sra, Or, And}
use Rattle.fk_isa.specs.declared.instruction.Instruction.TheVariants.{Mul, Mulh, Mulhsu, Mulhu, Div}
use Rattle.fk_isa.specs.declared.instruction.Instruction.TheVariants.{Divu, Rem, Remu}

-- that an instruction only gives a register a word, of immediates, registers and its address, and
-- goes on (RISC-V Unprivileged ISA, "Integer Computational Instructions", "M" Extension)
abbrev pub IsComputation : Instruction → Type 0
IsComputation (Lui rd imm) = Unit {0}
IsComputation (Auipc rd imm) = Unit {0}
IsComputation (Addi rd rs1 imm) = Unit {0}
IsComputation (Slti rd rs1 imm) = Unit {0}
IsComputation (Sltiu rd rs1 imm) = Unit {0}
IsComputation (Xori rd rs1 imm) = Unit {0}
IsComputation (Ori rd rs1 imm) = Unit {0}
IsComputation (Andi rd rs1 imm) = Unit {0}
IsComputation (Slli rd rs1 distance) = Unit {0}
IsComputation (Srli rd rs1 distance) = Unit {0}
IsComputation (Srai rd rs1 distance) = Unit {0}
IsComputation (Add rd rs1 rs2) = Unit {0}
IsComputation (Sub rd rs1 rs2) = Unit {0}
IsComputation (Sll rd rs1 rs2) = Unit {0}
IsComputation (Slt rd rs1 rs2) = Unit {0}
IsComputation (Sltu rd rs1 rs2) = Unit {0}
IsComputation (Xor rd rs1 rs2) = Unit {0}
IsComputation (Srl rd rs1 rs2) = Unit {0}
IsComputation (Sra rd rs1 rs2) = Unit {0}
IsComputation (Or rd rs1 rs2) = Unit {0}
IsComputation (And rd rs1 rs2) = Unit {0}
IsComputation (Mul rd rs1 rs2) = Unit {0}
IsComputation (Mulh rd rs1 rs2) = Unit {0}
IsComputation (Mulhsu rd rs1 rs2) = Unit {0}
IsComputation (Mulhu rd rs1 rs2) = Unit {0}
IsComputation (Div rd rs1 rs2) = Unit {0}
IsComputation (Divu rd rs1 rs2) = Unit {0}
IsComputation (Rem rd rs1 rs2) = Unit {0}
IsComputation (Remu rd rs1 rs2) = Unit {0}
IsComputation _ = ⊥
