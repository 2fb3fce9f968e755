-- The opening of an image, where each hart begins.
use Rattle.std.specs.Prelude.{ℕ, suc, ◌*◌, ◌≤◌, ◌<◌, ◌^◌, List, [], ◌∷◌, ◌++◌, length, All}
use Rattle.fk_image.specs.declared.Image.{Image}
use Rattle.fk_isa.specs.declared.instruction.Instruction.TheVariants.{Lui, Addi, Lw, Sw}
use Rattle.fk_asm.specs.Block.{MarkedLine}
use Rattle.fk_sim_block.specs.Stands.{Places, frame_register, end_register, rank_register}
use Rattle.fk_sim_block.specs.Stands.{size_register, local_register, shared_register, heap_register}
use Rattle.fk_sim_block.specs.Stands.{shared_mask_register, device_register, heap_mask_register}
use Rattle.fk_gen.specs.Registers.{t0}
use Rattle.fk_gen.specs.Lines.{quiet, at_private, high_part, low_part}
use Rattle.fk_gen.specs.InPlace.{HasLabels, LinesAt}
use Rattle.fk_sim_block.specs.Node.{node_register, body_register}
use Rattle.fk_gen_flow.specs.Flow.{jump_block}

-- Sets the registers that are not 0 at the beginning, for `of_file` private variables of file
-- scope. Devices give the number of the hart and the number of harts. Each hart begins in the root
-- of the tree of groups, whose control words are at 0x18400000, and whose body all run.
abbrev pub register_lines : (of_file : ℕ) → List MarkedLine
register_lines of_file =
    quiet (Lui local_register 0x20000) ∷ quiet (Addi frame_register local_register (4 * of_file)) ∷
    quiet (Addi end_register local_register 256) ∷ quiet (Lui shared_register 0x10000) ∷
    quiet (Lui heap_register 0x20010) ∷
    quiet (Lui shared_mask_register 0xffc00) ∷
    quiet (Addi shared_mask_register shared_mask_register 3) ∷
    quiet (Lui heap_mask_register 0xffff0) ∷ quiet (Addi heap_mask_register heap_mask_register 3) ∷
    quiet (Lui device_register 0x30000) ∷ quiet (Lw rank_register device_register 20) ∷
    quiet (Lw size_register device_register 24) ∷
    quiet (Lui node_register 0x18400) ∷ quiet (Addi body_register size_register 0) ∷ []

-- Sets the first value of a private variable of file scope, and of those from index i on.
abbrev pub first_line : (i first : ℕ) → List MarkedLine
first_line i v =
    quiet (Lui t0 (high_part v)) ∷ quiet (Addi t0 t0 (low_part v))
    ∷ quiet (Sw local_register t0 (at_private i)) ∷ []

abbrev pub first_lines : (i : ℕ) (firsts : List ℕ) → List MarkedLine
first_lines i [] = []
first_lines i (v ∷ firsts) = first_line i v ++ first_lines (suc i) firsts

abbrev pub opening_lines : (of_file : ℕ) (firsts : List ℕ) (main : ℕ) → List MarkedLine
opening_lines of_file firsts main =
    register_lines of_file ++ first_lines 0 firsts ++ jump_block main

-- First values are words, and there are no more of them than variables.
pub record AreFirsts (of_file : ℕ) (firsts : List ℕ) : Type 0 where
  pub few : of_file ≤ 56
  pub within : length firsts ≤ of_file
  pub words : All (λ v. v < 2 ^ 32) firsts

-- The image begins with the opening.
pub record HasOpening (image : Image) (bound : ℕ → ℕ) (places : Places) (firsts : List ℕ)
    (main : ℕ) : Type 0 where
  pub labels : HasLabels bound places
  pub lines : LinesAt image bound 0 (opening_lines places.frames.of_file firsts main)
