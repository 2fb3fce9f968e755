-- The code of `shmalloc`. A control word that all harts share counts the words asked for, so one
-- addition to it is the whole request.
use Rattle.std.specs.Prelude.{ℕ, ◌+◌, ◌^◌, ◌≤◌, List, [], ◌∷◌, ◌++◌, map, length, false}
use Rattle.fk_image.specs.declared.Image.{Image}
use Rattle.fk_isa.specs.declared.instruction.Instruction.{Instruction}
use Rattle.fk_isa.specs.declared.instruction.Instruction.TheVariants.{Lui, Jal, Jalr, Lw, Sw, Addi}
use Rattle.fk_isa.specs.declared.instruction.Instruction.TheVariants.{Sltiu, Slli, Srli, Add, Sub}
use Rattle.fk_isa.specs.declared.instruction.Instruction.TheVariants.{Sltu, Mul}
use Rattle.fk_isa.specs.declared.instruction.Instruction.TheVariants.{AmoAddW}
use Rattle.fk_asm.specs.Block.{MarkedLine}
use Rattle.fk_sim_block.specs.Stands.{zero_register, local_register, shared_register}
use Rattle.fk_sim_block.specs.Stands.{device_register}
use Rattle.fk_gen.specs.Registers.{ra, t0, t1, t2, t3}
use Rattle.fk_gen.specs.Operands.{operand, result}
use Rattle.fk_gen.specs.Lines.{quiet, commits, goes_to, high_part, low_part}
use Rattle.fk_gen.specs.InPlace.{LinesAt}

-- The label of the code that all blocks of `shmalloc` share.
abbrev pub heap_label : ℕ
heap_label = 58

-- The offset, from local memory, of the word that is 1 once the hart has found the heap full.
abbrev pub full_offset : ℕ
full_offset = 8

-- A hart goes to that code with the size in t0, and comes back with the address of the block, or 0,
-- in its place.
abbrev pub hire_block : (depth : ℕ) → List MarkedLine
hire_block depth =
    quiet (operand t0 depth) ∷ goes_to (Jal ra 0) heap_label
    ∷ quiet (result t0 depth) ∷ []

-- The size in words: 0 where it is not above 0, or where the hart has found the heap full.
abbrev pub ask : List Instruction
ask =
    Lw t1 local_register full_offset ∷ Srli t2 t0 31 ∷ Add t1 t1 t2 ∷ Sltiu t1 t1 1 ∷ Mul t0 t0 t1 ∷
    Addi t0 t0 3 ∷ Srli t0 t0 2 ∷ []

-- No request counts for more words than shared data has. The commit adds to the count, and finds
-- the words asked for before.
abbrev pub add_up : List Instruction
add_up =
    Lui t1 0x100 ∷ Sltu t2 t1 t0 ∷ Sub t1 t1 t0 ∷ Mul t1 t1 t2 ∷ Add t0 t0 t1 ∷ Lui t1 0x18400 ∷
    Addi t1 t1 32 ∷ []

abbrev pub tell : Instruction
tell = AmoAddW t1 t1 t0 false false

-- The index of the block's first word in t1, and in t3 whether the block ends past shared data,
-- which the hart notes.
abbrev pub find_end : (globals : ℕ) → List Instruction
find_end globals =
    Lw t2 device_register 28 ∷ Lui t3 (high_part (2 ^ 20 + globals)) ∷
    Addi t3 t3 (low_part (2 ^ 20 + globals)) ∷ Add t2 t2 t3 ∷ Srli t2 t2 1 ∷ Add t1 t1 t2 ∷
    Add t3 t1 t0 ∷ Lui t2 0x100 ∷ Sltu t3 t2 t3 ∷ Sw local_register t3 full_offset ∷ []

-- The address of the block, or 0 where no words are asked for or the block doesn't fit.
abbrev pub give : List Instruction
give =
    Sltiu t0 t0 1 ∷ Add t0 t0 t3 ∷ Sltiu t0 t0 1 ∷ Slli t1 t1 2 ∷ Add t1 t1 shared_register ∷
    Mul t0 t0 t1 ∷ []

abbrev pub back : Instruction
back = Jalr zero_register ra 0

abbrev pub heap_lines : (globals : ℕ) → List MarkedLine
heap_lines globals =
    map quiet ask
    ++ ((map quiet add_up ++ commits 1 tell ∷ [])
    ++ (map quiet (find_end globals) ++ (map quiet give ++ quiet back ∷ [])))

-- The image has the code that all blocks of `shmalloc` share, at its label.
pub record HasHeap (image : Image) (bound : ℕ → ℕ) : Type 0 where
  pub few : length image.globals.items ≤ 2 ^ 19
  pub lines : LinesAt image bound (bound heap_label) (heap_lines (length image.globals.items))
