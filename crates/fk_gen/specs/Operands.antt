-- How blocks take the values of the running call, and give it values.
use Rattle.std.specs.Prelude.{ℕ}
use Rattle.fk_isa.specs.declared.instruction.Instruction.{Instruction}
use Rattle.fk_isa.specs.declared.instruction.Instruction.TheVariants.{Lw, Sw}
use Rattle.fk_sim_block.specs.Stands.{end_register}
use Rattle.fk_gen.specs.Lines.{at_value}

-- Takes the value at a place into a register.
abbrev pub operand : (register place : ℕ) → Instruction
operand register place = Lw register end_register (at_value place)

-- Gives the value in a register to a place.
abbrev pub result : (register place : ℕ) → Instruction
result register place = Sw end_register register (at_value place)
