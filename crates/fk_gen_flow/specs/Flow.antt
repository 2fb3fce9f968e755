-- The blocks of jumps, branches, ends of calls and halts.
use Rattle.std.specs.Prelude.{ℕ, List, [], ◌∷◌, ◌++◌, map, Bool, true, false}
use Rattle.fk_isa.specs.declared.instruction.Instruction.{Instruction}
use Rattle.fk_isa.specs.declared.instruction.Instruction.TheVariants.{Jal, Jalr, Beq, Bne, Lw, Sw}
use Rattle.fk_isa.specs.declared.instruction.Instruction.TheVariants.{Addi, Add, Lui}
use Rattle.fk_asm.specs.Block.{MarkedLine}
use Rattle.fk_sim_block.specs.Stands.{zero_register, frame_register, end_register}
use Rattle.fk_sim_block.specs.Stands.{device_register, group_frame_register}
use Rattle.fk_sim_block.specs.Node.{frames_register}
use Rattle.fk_gen.specs.Registers.{t0, t1, t2}
use Rattle.fk_gen.specs.Operands.{operand}
use Rattle.fk_gen.specs.Lines.{quiet, commits, goes_to, first_commits, at_group_frame}
use Rattle.fk_gen.specs.Lines.{label_of, to_control}

abbrev pub jump_line : (target : ℕ) → MarkedLine
jump_line target = goes_to (Jal zero_register 0) (label_of target)

abbrev pub jump_block : (target : ℕ) → List MarkedLine
jump_block target = jump_line target ∷ []

-- The instruction that skips the next jump, where the value makes the branch go on: a value that is
-- not 0, or 0.
abbrev pub passes : (onward : Bool) → Instruction
passes true = Bne t0 zero_register 8
passes false = Beq t0 zero_register 8

abbrev pub branch_block : (onward : Bool) (depth target : ℕ) → List MarkedLine
branch_block onward depth target =
    commits 1 (operand t0 depth) ∷ quiet (passes onward) ∷ jump_line target ∷ []

-- Gives the words of the call's group frame back: the frames of the group end where that frame
-- begins. The register with its address has what it had before.
abbrev pub giving_back : List Instruction
giving_back =
    Lui t2 to_control ∷ Add frames_register group_frame_register t2
    ∷ Lw group_frame_register end_register at_group_frame ∷ []

-- The end of the block that ends a call. The frame of the waiting call is that of the running call
-- again. The hart returns into the block that began the call, to the address in t1, where a jump
-- leads to the index where the waiting call goes on.
abbrev pub returning : List Instruction
returning =
    Addi end_register frame_register 0 ∷ Lw frame_register frame_register 4
    ∷ Jalr zero_register t1 0 ∷ []

abbrev pub leaving : (gives : Bool) (depth : ℕ) → List Instruction
leaving true depth =
    operand t0 depth ∷ Lw t1 frame_register 0 ∷ Lw t2 frame_register 8 ∷ Sw t2 t0 0 ∷ returning
leaving false depth = Lw t1 frame_register 0 ∷ returning

abbrev pub leaving_lines : (commit : Bool) → (gives : Bool) (depth : ℕ) → List MarkedLine
leaving_lines true gives depth = first_commits 1 (leaving gives depth)
leaving_lines false gives depth = map quiet (leaving gives depth)

abbrev pub leave_block : (gives framed : Bool) (depth : ℕ) → List MarkedLine
leave_block gives true depth = first_commits 1 giving_back ++ leaving_lines false gives depth
leave_block gives false depth = leaving_lines true gives depth

abbrev pub halt_block : List MarkedLine
halt_block = commits 1 (Sw device_register zero_register 12) ∷ []
