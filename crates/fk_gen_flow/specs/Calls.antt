-- The block of a call, and the code that all calls share.
use Rattle.std.specs.Prelude.{◌≡◌, ℕ, zero, suc, ◌+◌, ◌-◌, ◌<◌, ◌==◌, nat_le, Bool, true, false}
use Rattle.std.specs.Prelude.{List, [], ◌∷◌, ◌++◌, if◌then◌else◌}
use Rattle.fk_image.specs.declared.Image.{Image}
use Rattle.fk_isa.specs.declared.instruction.Instruction.TheVariants.{Lui, Jal, Jalr, Bne, Lw, Sw}
use Rattle.fk_isa.specs.declared.instruction.Instruction.TheVariants.{Addi}
use Rattle.fk_asm.specs.Block.{MarkedLine}
use Rattle.fk_sim_block.specs.Stands.{frame_register, end_register, heap_register, device_register}
use Rattle.fk_sim_block.specs.Stands.{zero_register}
use Rattle.fk_gen.specs.Registers.{ra, t0, t1, t2}
use Rattle.fk_gen.specs.Lines.{quiet, commits, goes_to, at_value, at_private, high_part, low_part}
use Rattle.fk_gen.specs.Lines.{copy_label, clear_label}
use Rattle.fk_gen.specs.InPlace.{LinesAt}
use Rattle.fk_gen_flow.specs.Flow.{jump_line}

-- The lines up to the commit of a call. Where 255 calls wait already, the word after the frame is
-- the first of the private heap, and the site goes to the device that faults. Else the lines of
-- that fault are skipped, and t2 is the address of the first argument, where the call takes its
-- result. Both ways have equally many instructions before the commit.
abbrev pub depth_lines : (arguments depth site : ℕ) → List MarkedLine
depth_lines arguments depth site =
    quiet (Bne end_register heap_register 16) ∷ quiet (Lui t0 (high_part site)) ∷
    quiet (Addi t0 t0 (low_part site)) ∷
    commits 1 (Sw device_register t0 8) ∷ quiet (Sw end_register frame_register 4) ∷
    quiet (Addi t2 end_register (at_value (depth - arguments + 1)))
    ∷ commits 1 (Sw end_register t2 8) ∷ []

-- Copies one argument: the word k words before the first argument becomes private word k of the new
-- frame.
abbrev pub copy_lines : (k : ℕ) → List MarkedLine
copy_lines k = quiet (Lw t0 t2 (at_value k)) ∷ quiet (Sw end_register t0 (at_private k)) ∷ []

-- Copies this many arguments, the last one first.
abbrev pub own_copies : (arguments : ℕ) → List MarkedLine
own_copies zero = []
own_copies (suc k) = copy_lines k ++ own_copies k

-- The most arguments that are copied in the block of the call: one, or none if the call clears
-- words. More are copied by the code that all calls share. So a block has at most 14 words.
abbrev pub most_own : (clears_none : Bool) → ℕ
most_own clears_none = if clears_none then 1 else 0

abbrev pub copies_by : (few : Bool) (arguments : ℕ) → List MarkedLine
copies_by true arguments = own_copies arguments
copies_by false arguments = goes_to (Jal t1 0) (copy_label arguments) ∷ []

abbrev pub argument_lines : (clears arguments : ℕ) → List MarkedLine
argument_lines clears arguments =
    copies_by (nat_le arguments (most_own (clears == 0))) arguments

-- Sets up the new frame, and jumps over the line to which the call returns. That line leads to the
-- index where the caller goes on.
abbrev pub frame_lines : (back : ℕ) → List MarkedLine
frame_lines back =
    quiet (Jal ra 8) ∷ jump_line back ∷ quiet (Sw end_register ra 0) ∷
    quiet (Addi frame_register end_register 0) ∷ quiet (Addi end_register end_register 256) ∷ []

-- How many words before the end of its block a call returns.
abbrev pub past_return : ℕ
past_return = 4

-- The number of private words that a frame has room for, and so the most arguments of a call.
abbrev pub most_privates : ℕ
most_privates = 56

-- The first private words of the new frame become 0, as many as the call clears. The arguments come
-- there afterwards.
abbrev pub clears_by : (none : Bool) (clears : ℕ) → List MarkedLine
clears_by true clears = []
clears_by false clears = goes_to (Jal t1 0) (clear_label clears) ∷ []

abbrev pub word_lines : (clears arguments : ℕ) → List MarkedLine
word_lines clears arguments =
    clears_by (clears == 0) clears ++ argument_lines clears arguments

abbrev pub enter_block : (clears arguments depth site back : ℕ) → List MarkedLine
enter_block clears arguments depth site back =
    depth_lines arguments depth site ++ (word_lines clears arguments ++ frame_lines back)

-- The code that all calls share is two chains of parts, the last part first. There is a label
-- before each part, and one before the chain's end, which goes back to the call. In one chain each
-- part copies an argument. In the other each clears a private word of the new frame.
abbrev pub back_lines : List MarkedLine
back_lines = quiet (Jalr zero_register t1 0) ∷ []

unfoldable pub chain_lines : (part : ℕ → List MarkedLine) → (parts : ℕ) → List MarkedLine
chain_lines part zero = back_lines
chain_lines part (suc k) = part k ++ chain_lines part k

abbrev pub clear_lines : (k : ℕ) → List MarkedLine
clear_lines k = quiet (Sw end_register zero_register (at_private k)) ∷ []

-- The image has a chain, each of whose parts has this many words, and is at its label.
pub record HasChain (image : Image) (bound label : ℕ → ℕ) (part : ℕ → List MarkedLine)
    (width : ℕ) : Type 0 where
  pub parts : (k : ℕ) → k < most_privates → LinesAt image bound (bound (label (suc k))) (part k)
  pub next : (k : ℕ) → k < most_privates → bound (label k) ≡ bound (label (suc k)) + width
  pub back : LinesAt image bound (bound (label 0)) back_lines

-- The image has the code that all calls share.
pub record HasShared (image : Image) (bound : ℕ → ℕ) : Type 0 where
  pub copying : HasChain image bound copy_label copy_lines 2
  pub clearing : HasChain image bound clear_label clear_lines 1
