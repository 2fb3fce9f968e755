-- The blocks of splits, of the ends of parts, and of loops that shrink.
use Rattle.std.specs.Prelude.{ℕ, ◌+◌, ◌-◌, ◌*◌, ◌^◌, List, [], ◌∷◌, ◌++◌, length, map, Bool, true}
use Rattle.std.specs.Prelude.{false, ◌==◌, Option, Some, None, if◌then◌else◌}
use Rattle.fk_meaning_operation.specs.declared.operation.SplitKind.{SplitKind}
use Rattle.fk_meaning_operation.specs.declared.operation.SplitKind.TheVariants.{IfAlone, IfElse}
use Rattle.fk_meaning_operation.specs.declared.operation.SplitKind.TheVariants.{AndThen, OrElse}
use Rattle.fk_meaning_operation.specs.declared.operation.SplitKind.TheVariants.{Loop, Fork}
use Rattle.fk_image.specs.declared.Image.{Image}
use Rattle.fk_image.specs.declared.event.Event.{Event}
use Rattle.fk_image.specs.declared.event.Event.TheVariants as events
use Rattle.fk_isa.specs.declared.instruction.Instruction.{Instruction}
use Rattle.fk_isa.specs.declared.instruction.Instruction.TheVariants.{Lui, Jal, Jalr, Bne, Bgeu, Lw}
use Rattle.fk_isa.specs.declared.instruction.Instruction.TheVariants.{Sw, Addi, Sltiu, Slli, Srli}
use Rattle.fk_isa.specs.declared.instruction.Instruction.TheVariants.{Add, Sub, Sltu, Mul, Divu}
use Rattle.fk_isa.specs.declared.instruction.Instruction.TheVariants.{Andi, AmoAddW}
use Rattle.fk_asm.specs.Assembly.{straight}
use Rattle.fk_asm.specs.Block.{MarkedLine}
use Rattle.fk_sim_block.specs.Stands.{zero_register, frame_register, end_register, number_register}
use Rattle.fk_sim_block.specs.Stands.{rank_register, size_register, device_register}
use Rattle.fk_sim_block.specs.Node.{node_register, frames_register, blocks_register, barrier_word}
use Rattle.fk_sim_block.specs.Node.{closing_word}
use Rattle.fk_gen.specs.Registers.{ra, t0, t1, t2, t3, t4, t5, t6}
use Rattle.fk_gen.specs.Lines.{quiet, commits_as, goes_to, commit_of, at_private, label_of}
use Rattle.fk_gen.specs.Lines.{high_part, low_part, at_value, add_number}
use Rattle.fk_gen.specs.Operands.{operand, result}
use Rattle.fk_gen.specs.InPlace.{LinesAt}
use Rattle.fk_gen.specs.declared.placed.Levels.{Levels}

-- Numbers below 0, as words.
abbrev pub minus : (n : ℕ) → ℕ
minus n = 2 ^ 32 - n

-- The word after the header at which the level after `count` others begins.
abbrev pub level_word : Levels → (count : ℕ) → ℕ
level_word levels count = levels.behind + 4 * count

-- The line of an instruction that may do the operation, which may be an event.
abbrev pub with_commit : Bool → Option Event → Instruction → MarkedLine
with_commit commits event i = record { line = straight i; commit = commit_of commits event }

-- Without room the site goes to the device that faults. The operation is an event, or none.
abbrev pub no_room : Option Event → (site : ℕ) → List MarkedLine
no_room event site =
    quiet (Lui t1 (high_part site)) ∷ quiet (Addi t1 t1 (low_part site))
    ∷ with_commit true event (Sw device_register t1 8) ∷ []

abbrev pub no_parts : (site : ℕ) → List MarkedLine
no_parts site = no_room (Some events.Split) site

-- ---- splits

-- A split into one part has 1 in t3 for who enters it, and 0 for who waits. A split into two has
-- the number of the part. Who waits at an `||` has 1 in place of its value, and at an `&&` 0. A
-- `fork` has its three values: how many parts there are, the number of the part, and what `$` is
-- there.
abbrev pub part_lines : SplitKind → (depth : ℕ) → List Instruction
part_lines IfAlone d = operand t3 d ∷ Sltu t3 zero_register t3 ∷ []
part_lines IfElse d = operand t3 d ∷ Sltiu t3 t3 1 ∷ []
part_lines AndThen d = operand t3 d ∷ Sltu t3 zero_register t3 ∷ []
part_lines OrElse d =
    operand t3 d ∷ Sltu t0 zero_register t3 ∷
    result t0 d ∷ Sltiu t3 t3 1 ∷ []
part_lines Loop d = Addi t3 zero_register 1 ∷ []
part_lines Fork d = operand t3 (d - 2) ∷ operand t4 (d - 1) ∷ operand t5 d ∷ []

-- The labels of the code that all splits into one part share, all splits into two, and all forks.
abbrev pub one_part_label : ℕ
one_part_label = 59

abbrev pub two_parts_label : ℕ
two_parts_label = 60

abbrev pub fork_label : ℕ
fork_label = 61

abbrev pub parts_label : SplitKind → ℕ
parts_label IfElse = two_parts_label
parts_label Fork = fork_label
parts_label by = one_part_label

-- A processor goes to that code with its part in t3 and the address of the level in t2. It comes
-- back right here if it waits, or is in the second part; one word after that if there is no room;
-- and at the next block if it is in the first part.
abbrev pub parting_lines : (label word target site : ℕ) → List MarkedLine
parting_lines label word target site =
    quiet (Addi t2 frame_register (at_private word)) ∷ goes_to (Jal ra 0) label ∷
    goes_to (Jal zero_register 0) (label_of target) ∷ no_parts site

-- Who enters a part of a `fork` has in t3 the address of the first control word after the frames of
-- the group. If the `fork` leaves the first level of its call, the header keeps this address.
abbrev pub heading_by : (count : ℕ) → List MarkedLine
heading_by count = if count == 0 then quiet (Sw end_register t3 (at_value 60)) ∷ [] else []

abbrev pub heading_lines : SplitKind → Levels → List MarkedLine
heading_lines Fork levels = heading_by levels.count
heading_lines by levels = []

abbrev pub behind_part : SplitKind → Levels → (target site : ℕ) → List MarkedLine
behind_part by levels target site =
    parting_lines (parts_label by) (level_word levels levels.count) target site
    ++ heading_lines by levels

abbrev pub split_block : SplitKind → Levels → (depth target site : ℕ) → List MarkedLine
split_block by levels d target site =
    map quiet (part_lines by d) ++ behind_part by levels target site

-- ---- the code that splits share

-- 4 words of the free ones are kept back for each part, and a part needs 16. The one part begins
-- after those kept back. Who waits stays with the words of its own node.
abbrev pub one_part_place : List MarkedLine
one_part_place =
    quiet (Addi t1 frames_register 80) ∷ quiet (Bgeu blocks_register t1 8) ∷
    quiet (Jalr zero_register ra 4) ∷
    quiet (Addi t1 t1 (minus 64)) ∷ quiet (Sub t1 t1 node_register) ∷
    quiet (Mul t1 t1 t3) ∷ quiet (Add t1 t1 node_register) ∷ []

-- Two parts lie one after the other, each with half of what is left.
abbrev pub two_parts_place : List MarkedLine
two_parts_place =
    quiet (Sub t0 blocks_register frames_register) ∷ quiet (Addi t1 zero_register 160) ∷
    quiet (Bgeu t0 t1 8) ∷ quiet (Jalr zero_register ra 4) ∷
    quiet (Srli t0 t0 3) ∷ quiet (Slli t0 t0 2) ∷ quiet (Addi t4 t0 (minus 16)) ∷
    quiet (Mul t1 t3 t4) ∷ quiet (Add t1 t1 frames_register) ∷ quiet (Addi t1 t1 32) ∷
    quiet (Addi t0 zero_register 1) ∷ []

-- A `fork`. A number of parts below 0 becomes 0. Each part needs 20 free words; with 0 parts the
-- quotient is the greatest word. Then t6 has the bytes of a part, and t3 becomes 1 for who enters
-- one, and 0 for who waits.
abbrev pub fork_room : List MarkedLine
fork_room =
    quiet (Srli t0 t3 31) ∷ quiet (Sltiu t0 t0 1) ∷ quiet (Mul t3 t3 t0) ∷
    quiet (Sub t0 blocks_register frames_register) ∷ quiet (Srli t0 t0 2) ∷
    quiet (Divu t0 t0 t3) ∷ quiet (Addi t1 zero_register 20) ∷
    quiet (Bgeu t0 t1 8) ∷ quiet (Jalr zero_register ra 4) ∷ []

abbrev pub fork_place : List MarkedLine
fork_place =
    quiet (Addi t0 t0 (minus 4)) ∷ quiet (Slli t6 t0 2) ∷
    quiet (Mul t1 t4 t6) ∷ quiet (Slli t0 t3 4) ∷ quiet (Add t1 t1 t0) ∷
    quiet (Add t1 t1 frames_register) ∷ quiet (Sltu t3 t4 t3) ∷
    quiet (Sub t1 t1 node_register) ∷ quiet (Mul t1 t1 t3) ∷ quiet (Add t1 t1 node_register) ∷ []

-- All members clear the words at which those of their part will meet. Each adds to the first of
-- these what a register has, finds the sum, and clears it again.
abbrev pub counting_lines : (register : ℕ) → List MarkedLine
counting_lines register =
    quiet (Sw t1 zero_register (4 * closing_word)) ∷
    quiet (Sw t1 zero_register (4 * barrier_word)) ∷
    quiet (AmoAddW zero_register t1 register false false) ∷
    quiet (Lw t0 t1 (4 * barrier_word))
    ∷ commits_as events.Split (Sw t1 zero_register (4 * barrier_word)) ∷ []

-- A member that enters saves the level of its group, and has the node, the size and the space of
-- its part.
abbrev pub saving_lines : List MarkedLine
saving_lines =
    quiet (Sw t2 size_register 0) ∷ quiet (Sw t2 node_register 4) ∷
    quiet (Sw t2 blocks_register 8) ∷ quiet (Sw t2 frames_register 12) ∷
    quiet (Addi node_register t1 0) ∷ quiet (Addi size_register t0 0)
    ∷ quiet (Addi frames_register t1 32) ∷ []

-- The blocks of the one part begin where those of its group do. Two parts have blocks of their own.
abbrev pub waiting_lines : List MarkedLine
waiting_lines = quiet (Bne t3 zero_register 8) ∷ quiet (Jalr zero_register ra 0) ∷ []

abbrev pub into_one_part : List MarkedLine
into_one_part = quiet (Jalr zero_register ra 16) ∷ []

abbrev pub into_two_parts : List MarkedLine
into_two_parts =
    quiet (Add blocks_register t1 t4) ∷ quiet (Bne t3 zero_register 8) ∷
    quiet (Jalr zero_register ra 16) ∷ quiet (Jalr zero_register ra 0) ∷ []

abbrev pub one_part_lines : List MarkedLine
one_part_lines =
    one_part_place ++ (counting_lines t3 ++ (waiting_lines ++ (saving_lines ++ into_one_part)))

abbrev pub two_parts_lines : List MarkedLine
two_parts_lines = two_parts_place ++ (counting_lines t0 ++ (saving_lines ++ into_two_parts))

-- A member that enters a part of a `fork` saves `@` beside the size of its group, and `$`. It has
-- its own of both in the part, and in t3 where the frames of the group end.
abbrev pub fork_saving : List MarkedLine
fork_saving =
    quiet (Slli t3 number_register 11) ∷ quiet (Add t3 t3 size_register) ∷
    quiet (Sw t2 t3 0) ∷ quiet (Sw t2 node_register 4) ∷
    quiet (Sw t2 blocks_register 8) ∷ quiet (Sw t2 rank_register 12) ∷
    quiet (Addi node_register t1 0) ∷ quiet (Addi size_register t0 0) ∷
    quiet (Addi t3 frames_register 0) ∷ quiet (Addi frames_register t1 32) ∷
    quiet (Add blocks_register t1 t6) ∷ quiet (Addi number_register t4 0)
    ∷ quiet (Addi rank_register t5 0) ∷ []

abbrev pub fork_lines : List MarkedLine
fork_lines =
    fork_room ++ (fork_place ++ (counting_lines t3 ++ (waiting_lines ++ (fork_saving
    ++ into_one_part))))

-- What all splits of a kind share.
abbrev pub parts_lines : SplitKind → List MarkedLine
parts_lines IfElse = two_parts_lines
parts_lines Fork = fork_lines
parts_lines by = one_part_lines

-- The image has this code, at its labels.
pub record HasParts (image : Image) (bound : ℕ → ℕ) : Type 0 where
  pub one : LinesAt image bound (bound one_part_label) one_part_lines
  pub two : LinesAt image bound (bound two_parts_label) two_parts_lines
  pub fork : LinesAt image bound (bound fork_label) fork_lines

-- ---- the way out of a part

-- The group around a part: its size, its node and its space.
abbrev pub outward_lines : (commits : Bool) → (word target : ℕ) → List MarkedLine
outward_lines commits word target =
    with_commit commits (Some events.End) (Lw size_register frame_register (at_private word))
    ∷ quiet (Lw node_register frame_register (at_private (word + 1)))
    ∷ quiet (Lw blocks_register frame_register (at_private (word + 2)))
    ∷ quiet (Lw frames_register frame_register (at_private (word + 3)))
    ∷ goes_to (Jal zero_register 0) (label_of target) ∷ []

-- The word of the innermost level.
abbrev pub last_level : Levels → ℕ
last_level levels = level_word levels (levels.count - 1)

-- The group around a part of a `fork`: its size and `@`, its node, its blocks, `$`, and where its
-- frames end. At the first level of a call the header has that address. At any other it is the one
-- after the group's header and its frame of so many words.
abbrev pub header_frames : List MarkedLine
header_frames = quiet (Lw frames_register end_register (at_value 60)) ∷ []

abbrev pub found_line : List MarkedLine
found_line = quiet (Addi frames_register t0 0) ∷ []

abbrev pub frames_sum : (words : ℕ) → List MarkedLine
frames_sum words = map quiet (add_number (32 + 4 * words) node_register) ++ found_line

abbrev pub frames_end : (count words : ℕ) → List MarkedLine
frames_end count words = if count == 1 then header_frames else frames_sum words

abbrev pub forked_front : (word : ℕ) → List MarkedLine
forked_front word =
    commits_as events.End (Lw size_register frame_register (at_private word)) ∷
    quiet (Srli number_register size_register 11) ∷
    quiet (Andi size_register size_register 2047) ∷
    quiet (Lw node_register frame_register (at_private (word + 1))) ∷
    quiet (Lw blocks_register frame_register (at_private (word + 2)))
    ∷ quiet (Lw rank_register frame_register (at_private (word + 3))) ∷ []

abbrev pub away_line : (target : ℕ) → List MarkedLine
away_line target = goes_to (Jal zero_register 0) (label_of target) ∷ []

abbrev pub out_of_fork : (word count words target : ℕ) → List MarkedLine
out_of_fork word count words target =
    forked_front word ++ (frames_end count words ++ away_line target)

-- The end of a part, by whether a `fork` made it.
abbrev pub end_part_by : Option ℕ → Levels → (target : ℕ) → List MarkedLine
end_part_by None levels target = outward_lines true (last_level levels) target
end_part_by (Some words) levels target =
    out_of_fork (last_level levels) levels.count words target

abbrev pub end_part_block : Levels → (target : ℕ) → List MarkedLine
end_part_block levels target = end_part_by levels.fork levels target

-- ---- a loop that shrinks

-- Those whose value isn't 0 are counted at a word that is 0 in lockstep. They go past the way out,
-- and stay as so many.
abbrev pub staying_lines : (depth : ℕ) → List MarkedLine
staying_lines d =
    quiet (operand t3 d) ∷ quiet (Sltu t3 zero_register t3) ∷
    quiet (AmoAddW zero_register node_register t3 false false) ∷
    quiet (Lw t0 node_register (4 * barrier_word)) ∷
    commits_as events.Shrink (Sw node_register zero_register (4 * barrier_word))
    ∷ quiet (Bne t3 zero_register 24) ∷ []

abbrev pub size_line : List MarkedLine
size_line = quiet (Addi size_register t0 0) ∷ []

abbrev pub shrink_block : Levels → (depth target : ℕ) → List MarkedLine
shrink_block levels d target =
    staying_lines d ++ (outward_lines false (last_level levels) target ++ size_line)

-- ---- cycles

-- The cycles of a split before its commit, where there is room for its parts: those of its block,
-- and those of the code that splits share.
abbrev pub before_parts : SplitKind → ℕ
before_parts IfElse = 14
before_parts Fork = 22
before_parts by = 10

abbrev pub split_takes : SplitKind → ℕ
split_takes by = length (part_lines by 0) + 2 + before_parts by

-- Where there is no room, those before the lowest member faults.
abbrev pub before_full : SplitKind → ℕ
before_full IfElse = 4
before_full Fork = 9
before_full by = 3

abbrev pub split_faults_in : SplitKind → ℕ
split_faults_in by = length (part_lines by 0) + 2 + before_full by + 2

-- The cycles after its commit: on the first way those who enter the only part or the first of two,
-- on the other those who wait or enter the second.
abbrev pub split_goes_on : SplitKind → (levels : ℕ) → (onward : Bool) → ℕ
split_goes_on IfElse levels true = 10
split_goes_on IfElse levels false = 11
split_goes_on Fork levels true = if levels == 0 then 16 else 15
split_goes_on by levels true = 9
split_goes_on by levels false = 3

-- The cycles of the end of a part after its commit; and those of a shrink before and after it.
abbrev pub end_part_takes : Option ℕ → (levels : ℕ) → ℕ
end_part_takes None levels = 4
end_part_takes (Some words) levels = 6 + length (frames_end levels words)

abbrev pub shrink_takes : ℕ
shrink_takes = 4

abbrev pub shrink_goes_on : (onward : Bool) → ℕ
shrink_goes_on true = 2
shrink_goes_on false = 6
