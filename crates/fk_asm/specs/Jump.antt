-- Jumps: the distances that they go, those that their formats can hold, and their immediates.
use Rattle.std.specs.Prelude.{ℕ, ◌-◌, ◌*◌, ◌^◌, ℤ, pos, neg_ℤ, ◌-ℤ◌, ◌≤ℤ◌}
use Rattle.std.specs.Int.{w32, cast_unsigned}
use Rattle.fk_isa.specs.declared.instruction.Instruction.{Instruction}
use Rattle.fk_isa.specs.declared.instruction.Instruction.TheVariants.{Jal, Beq, Bne, Blt, Bge, Bltu}
use Rattle.fk_isa.specs.declared.instruction.Instruction.TheVariants.{Bgeu}

-- The instructions that go to a place at a distance: the branches and jal.
abbrev pub IsJump : Instruction → Type 0
IsJump (Jal rd imm) = Unit {0}
IsJump (Beq rs1 rs2 imm) = Unit {0}
IsJump (Bne rs1 rs2 imm) = Unit {0}
IsJump (Blt rs1 rs2 imm) = Unit {0}
IsJump (Bge rs1 rs2 imm) = Unit {0}
IsJump (Bltu rs1 rs2 imm) = Unit {0}
IsJump (Bgeu rs1 rs2 imm) = Unit {0}
IsJump i = ⊥

-- The distance in bytes from one word to another, by their indices.
abbrev pub distance : ℕ → ℕ → ℤ
distance from to = pos (4 * to) -ℤ pos (4 * from)

-- The distances that the format of a jump can hold: J of jal, and B of the branches.
abbrev pub Reaches : Instruction → ℤ → Type 0
Reaches (Jal rd imm) d = (neg_ℤ (pos (2 ^ 20)) ≤ℤ d) × (d ≤ℤ pos (2 ^ 20 - 2))
Reaches i d = (neg_ℤ (pos 4096) ≤ℤ d) × (d ≤ℤ pos 4094)

-- A jump that goes a distance: its immediate is the word of the distance.
abbrev pub with_distance : Instruction → ℤ → Instruction
with_distance (Jal rd imm) d = Jal rd (cast_unsigned w32 d)
with_distance (Beq rs1 rs2 imm) d = Beq rs1 rs2 (cast_unsigned w32 d)
with_distance (Bne rs1 rs2 imm) d = Bne rs1 rs2 (cast_unsigned w32 d)
with_distance (Blt rs1 rs2 imm) d = Blt rs1 rs2 (cast_unsigned w32 d)
with_distance (Bge rs1 rs2 imm) d = Bge rs1 rs2 (cast_unsigned w32 d)
with_distance (Bltu rs1 rs2 imm) d = Bltu rs1 rs2 (cast_unsigned w32 d)
with_distance (Bgeu rs1 rs2 imm) d = Bgeu rs1 rs2 (cast_unsigned w32 d)
with_distance i d = i
