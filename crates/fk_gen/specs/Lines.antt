-- The lines of blocks, and what they are made of.
use Rattle.std.specs.Prelude.{ℕ, ◌+◌, ◌-◌, ◌*◌, ◌/◌, ◌%◌, ◌^◌, ◌==◌, List, [], ◌∷◌, Bool, true}
use Rattle.std.specs.Prelude.{false, Option, Some, None, IfSome, map}
use Rattle.fk_image.specs.declared.event.Event.{Event}
use Rattle.fk_image.specs.Events.{event_number}
use Rattle.fk_isa.specs.declared.instruction.Instruction.{Instruction}
use Rattle.fk_isa.specs.declared.instruction.Instruction.TheVariants.{Lui, Addi, Add}
use Rattle.fk_isa.specs.Bits.{extended}
use Rattle.fk_isa.specs.Fits.{Fits}
use Rattle.fk_asm.specs.Jump.{IsJump}
use Rattle.fk_asm.specs.Assembly.{straight, jump_to}
use Rattle.fk_asm.specs.Block.{MarkedLine, plain, committing}
use Rattle.fk_gen.specs.declared.block_line.BlockLine.{BlockLine}
use Rattle.fk_sim_block.specs.Stands.{zero_register}
use Rattle.fk_gen.specs.Registers.{t0}

-- The line of an instruction that does no operation.
abbrev pub quiet : Instruction → MarkedLine
quiet i = plain (straight i)

-- The line of an instruction that does so many operations: its commit has their count, and is no
-- event.
abbrev pub commits : (count : ℕ) → Instruction → MarkedLine
commits count i = committing (straight i) count

-- The number of an event in a commit table, 0 for none.
abbrev pub number_in : Option Event → ℕ
number_in None = 0
number_in (Some event) = event_number event

-- The line of an instruction that does an operation that is an event.
abbrev pub commits_as : Event → Instruction → MarkedLine
commits_as event i = committing (straight i) (1 + 256 * event_number event)

-- Straight lines of which the first does so many operations.
abbrev pub first_commits : (count : ℕ) → List Instruction → List MarkedLine
first_commits count [] = []
first_commits count (i ∷ is) = commits count i ∷ map quiet is

-- The line of a jump to a label, which does no operation.
abbrev pub goes_to : Instruction → (label : ℕ) → MarkedLine
goes_to i label = plain (jump_to i label)

-- The commit of a line, by whether the line does an operation, and which event that is.
abbrev pub commit_of : Bool → Option Event → Option ℕ
commit_of true event = Some (1 + 256 * number_in event)
commit_of false event = None

abbrev pub marked : BlockLine → MarkedLine
marked b = record { line = b.line; commit = commit_of b.commits b.event }

-- The fields of a line are in range, and it goes to a label only where its instruction is a jump.
abbrev pub FitLine : MarkedLine → Type 0
FitLine m = Fits m.line.instruction × IfSome m.line.label (λ _. IsJump m.line.instruction)

abbrev pub FitLines : List MarkedLine → Type 0
FitLines [] = Unit {0}
FitLines (m ∷ ms) = FitLine m × FitLines ms

-- ---- offsets, as words

-- The offset of the k-th value of a call, counted from 1, from the word after its frame: 4 * k
-- bytes back.
abbrev pub at_value : (k : ℕ) → ℕ
at_value k = (2 ^ 32 - 4 * k) % 2 ^ 32

-- The offset of a private word from the start of its frame, and of a private variable of file scope
-- from local memory.
abbrev pub at_private : (i : ℕ) → ℕ
at_private i = 4 * (7 + i)

-- The offset of the header's word for the address of a group frame, from the word after the frame.
abbrev pub at_group_frame : ℕ
at_group_frame = at_value 61

-- Data words have addresses that are 0x08000000 below those of control words with the same index.
-- The upper 20 bits of the two numbers that lead from one to the other.
abbrev pub to_control : ℕ
to_control = 0x08000

abbrev pub to_data : ℕ
to_data = 0xf8000

-- ---- numbers

-- A number is its upper 20 bits, shifted, plus a signed rest.
abbrev pub high_part : ℕ → ℕ
high_part n = (n + 2048) / 4096 % 1048576

abbrev pub low_part : ℕ → ℕ
low_part n = extended 12 (n % 4096)

-- Loads a number into t0, by one instruction where its upper part is 0.
abbrev pub load_by : (short : Bool) (n : ℕ) → List Instruction
load_by true n = Addi t0 zero_register (low_part n) ∷ []
load_by false n = Lui t0 (high_part n) ∷ Addi t0 t0 (low_part n) ∷ []

abbrev pub load_number : ℕ → List Instruction
load_number n = load_by (high_part n == 0) n

-- Adds a number to a register other than t0, which gets the sum.
abbrev pub add_by : (short : Bool) (n register : ℕ) → List Instruction
add_by true n register = Addi t0 register (low_part n) ∷ []
add_by false n register =
    Lui t0 (high_part n) ∷ Addi t0 t0 (low_part n) ∷ Add t0 t0 register ∷ []

abbrev pub add_number : (n register : ℕ) → List Instruction
add_number n register = add_by (high_part n == 0) n register

-- ---- labels

-- The label at which the code that all calls share copies this many arguments, 0 to 56.
abbrev pub copy_label : (arguments : ℕ) → ℕ
copy_label arguments = arguments

-- The label at which the code that all calls share clears this many of the first private words of a
-- frame, 0 to 56.
abbrev pub clear_label : (words : ℕ) → ℕ
clear_label words = 64 + words

-- The label of the block of an index of the list.
abbrev pub label_of : (index : ℕ) → ℕ
label_of index = 128 + index
