-- The blocks of the steps of groups.
use Rattle.std.specs.Prelude.{◌≡◌, ℕ, ◌+◌, ◌*◌, ◌^◌, ◌==◌, ◌<◌, ◌≤◌, List, [], ◌∷◌, ◌++◌, length}
use Rattle.std.specs.Prelude.{Bool, true, false, Option, Some, None, map, if◌then◌else◌}
use Rattle.fk_meaning_operation.specs.declared.operation.Operation.{Operation}
use Rattle.fk_meaning_operation.specs.declared.operation.Operation.TheVariants.{Begin, Agree, Farm}
use Rattle.fk_meaning_operation.specs.declared.operation.Operation.TheVariants.{Seq, End, Resume}
use Rattle.fk_meaning_operation.specs.declared.operation.Operation.TheVariants.{Meet, Frame, Block}
use Rattle.fk_meaning_operation.specs.declared.operation.Operation.TheVariants.{Split, Shrink}
use Rattle.fk_meaning.specs.Group.{taken_by}
use Rattle.fk_core.specs.Numbers.{operation_of}
use Rattle.fk_image.specs.declared.Image.{Image}
use Rattle.fk_image.specs.declared.event.Event.{Event}
use Rattle.fk_image.specs.declared.event.Event.TheVariants as events
use Rattle.fk_isa.specs.declared.instruction.Instruction.{Instruction}
use Rattle.fk_isa.specs.declared.instruction.Instruction.TheVariants.{Lui, Jal, Jalr, Beq, Bltu}
use Rattle.fk_isa.specs.declared.instruction.Instruction.TheVariants.{Bgeu, Lw, Sw, Addi, Sltiu}
use Rattle.fk_isa.specs.declared.instruction.Instruction.TheVariants.{Slli, Srli, Andi, Add, Sub}
use Rattle.fk_isa.specs.declared.instruction.Instruction.TheVariants.{Sltu, And, Mul, AmoAddW}
use Rattle.fk_asm.specs.Block.{MarkedLine}
use Rattle.fk_sim_block.specs.Stands.{end_register, number_register, rank_register, size_register}
use Rattle.fk_sim_block.specs.Stands.{device_register}
use Rattle.fk_sim_block.specs.Stands.{zero_register, group_frame_register}
use Rattle.fk_gen.specs.Registers.{ra, t0, t1, t2, t3}
use Rattle.fk_gen.specs.Lines.{quiet, commits, commits_as, goes_to, first_commits, at_group_frame}
use Rattle.fk_gen.specs.Lines.{label_of, high_part, low_part, add_number, to_data}
use Rattle.fk_gen.specs.Operands.{operand, result}
use Rattle.fk_gen.specs.InPlace.{LinesAt}
use Rattle.fk_gen.specs.declared.placed.Placed.{Placed}
use Rattle.fk_sim_block.specs.Node.{node_register, body_register, frames_register, blocks_register}
use Rattle.fk_sim_block.specs.Node.{barrier_word, closing_word, agreed_word, control_address}
use Rattle.fk_gen.specs.declared.placed.Levels.{Levels}
use Rattle.fk_gen_group.specs.Meeting.{Meeting, meeting_lines}
use Rattle.fk_gen_group.specs.Splits.{no_room, split_block, end_part_block, shrink_block}

-- A meeting whose leaving is the operation, with the number of members in a register.
abbrev pub meeting_of : Event → (size : ℕ) → Meeting
meeting_of event size = record { arrivals = t2; size = size; leaving = Some event }

-- A meeting at a control word of the node.
abbrev pub meet_block : Event → (word size : ℕ) → List MarkedLine
meet_block event word size =
    quiet (Addi t2 node_register (4 * word)) ∷ meeting_lines (meeting_of event size)

-- Those who run a body meet at a `barrier`. All members of a node meet at the end of a body, and
-- where they wait for a part to end.
abbrev pub barrier_block : List MarkedLine
barrier_block = meet_block events.Meet barrier_word body_register

abbrev pub closing_block : Event → List MarkedLine
closing_block event = meet_block event closing_word size_register

-- All members store their last values in one cycle, so that the highest member's stays, and load it
-- in the next.
abbrev pub agree_block : (depth : ℕ) → List MarkedLine
agree_block depth =
    quiet (operand t0 depth) ∷ quiet (Sw node_register t0 (4 * agreed_word)) ∷
    commits_as events.Agree (Lw t0 node_register (4 * agreed_word))
    ∷ quiet (result t0 depth) ∷ []

-- All members run the body of a `farm`, each by itself.
abbrev pub farm_block : List MarkedLine
farm_block = commits 1 (Addi body_register size_register 0) ∷ []

-- The block of `seq`. All members store 0 to the node's word in one cycle, and add 1 to it in the
-- next. The lowest finds 0: it skips the next jump and runs the body alone. The others jump to the
-- end of the body.
abbrev pub seq_block : (target : ℕ) → List MarkedLine
seq_block target =
    quiet (Addi t2 node_register (4 * agreed_word)) ∷ quiet (Addi t1 zero_register 1) ∷
    quiet (Sw t2 zero_register 0) ∷
    commits 1 (AmoAddW t0 t2 t1 false false) ∷ quiet (Beq t0 zero_register 8) ∷
    goes_to (Jal zero_register 0) (label_of target)
    ∷ quiet (Addi body_register zero_register 1) ∷ []

-- The end of the group of `start`. `@` is 0 again, `$` is the number of the hart, and the size is
-- that of the root. Devices give both. The root's control words are at 0x18400000, and all run the
-- root's body.
abbrev pub end_block : (target : ℕ) → List MarkedLine
end_block target =
    commits_as events.End (Addi number_register zero_register 0) ∷ quiet (Lui t0 0x30000) ∷
    quiet (Lw rank_register t0 20) ∷
    quiet (Lw size_register t0 24) ∷ quiet (Addi body_register size_register 0) ∷
    quiet (Lui node_register 0x18400) ∷
    goes_to (Jal zero_register 0) (label_of target) ∷ []

-- ---- frames and blocks

-- The two ways of a frame have equally many lines. With room the frames of the group end where the
-- frame does. A function's own frame comes to the register of group frames, and the header gets
-- what that register had. Nothing more tells a part's frame, and two lines only take their time.
abbrev pub first_taking : (own : Bool) → Instruction
first_taking true = Sw end_register group_frame_register at_group_frame
first_taking false = Addi t1 t1 0

abbrev pub second_taking : (own : Bool) → Instruction
second_taking true = Add group_frame_register t1 frames_register
second_taking false = Addi t1 t1 0

abbrev pub taking_lines : (nesting : ℕ) → List MarkedLine
taking_lines nesting =
    quiet (first_taking (nesting == 0)) ∷ quiet (second_taking (nesting == 0))
    ∷ commits 1 (Addi frames_register t0 0) ∷ []

-- A frame is taken behind those of the group, if it ends where the group's blocks begin, or before.
abbrev pub frame_lines : (nesting site : ℕ) → List MarkedLine
frame_lines nesting site =
    quiet (Lui t1 to_data) ∷ quiet (Bgeu blocks_register t0 16)
    ∷ (no_room None site ++ taking_lines nesting)

abbrev pub frame_block : (nesting words site : ℕ) → List MarkedLine
frame_block nesting words site =
    map quiet (add_number (4 * words) frames_register) ++ frame_lines nesting site

-- The cycles of a frame before its commit, on either way.
abbrev pub frame_takes : (words : ℕ) → ℕ
frame_takes words = length (add_number (4 * words) frames_register) + 4

-- `shalloc`. The bytes of a size, rounded up to words, are taken from the end of the free words, if
-- there are more than 0 of them, and no more than are free. Else a mask makes the result and the
-- number of bytes taken 0. Sizes below 0 are more than are free.
abbrev pub shalloc_block : (depth : ℕ) → List MarkedLine
shalloc_block d =
    first_commits 1 (
    operand t0 d ∷ Addi t0 t0 3 ∷ Andi t0 t0 0xfffffffc ∷
    Sub t1 blocks_register frames_register ∷ Addi t2 t0 0xffffffff ∷ Sltu t2 t2 t1 ∷
    Sub t2 zero_register t2 ∷ And t0 t0 t2 ∷ Sub blocks_register blocks_register t0 ∷
    Lui t1 to_data ∷ Add t1 t1 blocks_register ∷ And t1 t1 t2 ∷ result t1 d ∷ []
    )

-- ---- the beginning of `start`

-- The label of the code that all beginnings of `start` share.
abbrev pub start_label : ℕ
start_label = 57

-- A processor goes to that code with its last value in t3. It comes back where it waits, or one
-- word after that, where the group goes on.
abbrev pub begin_block : (depth target : ℕ) → List MarkedLine
begin_block depth target =
    quiet (operand t3 depth) ∷ goes_to (Jal ra 0) start_label
    ∷ goes_to (Jal zero_register 0) (label_of target) ∷ []

-- All processors meet in the root, where leaving is no operation.
abbrev pub gathering : Meeting
gathering = record { arrivals = t2; size = size_register; leaving = None }

-- All processors store their values in one cycle, so that the highest one's stays, and load it in
-- the next.
abbrev pub telling_lines : List MarkedLine
telling_lines = quiet (Sw node_register t3 (4 * agreed_word))
    ∷ commits_as events.Split (Lw t3 node_register (4 * agreed_word)) ∷ []

-- The value becomes the size of the group: 0 for a negative value, and at most the number of
-- processors.
abbrev pub size_lines : List MarkedLine
size_lines =
    quiet (Srli t1 t3 31) ∷ quiet (Sltiu t1 t1 1) ∷ quiet (Mul t3 t3 t1) ∷
    quiet (Sltu t1 t3 size_register) ∷ quiet (Mul t3 t3 t1) ∷
    quiet (Sltiu t1 t1 1) ∷ quiet (Mul t1 size_register t1) ∷ quiet (Add t3 t3 t1) ∷ []

-- The address of the control word whose index is the number of globals. The group's first control
-- word lies as many words after it as there are input numbers, which a device gives.
abbrev pub group_words : (globals : ℕ) → ℕ
group_words globals = control_address globals

-- A processor whose number is not below the size goes back to wait. The others get the size of
-- their group and its control words.
abbrev pub node_lines : (globals : ℕ) → List MarkedLine
node_lines globals =
    quiet (Bltu rank_register t3 8) ∷ quiet (Jalr zero_register ra 0) ∷
    quiet (Addi size_register t3 0) ∷
    quiet (Lw t0 device_register 28) ∷ quiet (Slli t0 t0 2) ∷
    quiet (Lui t1 (high_part (group_words globals))) ∷
    quiet (Addi t1 t1 (low_part (group_words globals))) ∷ quiet (Add node_register t0 t1) ∷ []

-- All processors get the space of their group and go to its body. The frames begin after the
-- header. The blocks begin at the end of the space, which is halfway from its first word to the
-- root's control words.
abbrev pub space_lines : List MarkedLine
space_lines =
    quiet (Addi frames_register node_register 32) ∷
    quiet (Lui t0 0x18400) ∷ quiet (Add t0 t0 node_register) ∷ quiet (Srli t0 t0 3) ∷
    quiet (Slli blocks_register t0 2) ∷ quiet (Jalr zero_register ra 4) ∷ []

abbrev pub parting_lines : (globals : ℕ) → List MarkedLine
parting_lines globals = node_lines globals ++ space_lines

abbrev pub meet_lines : List MarkedLine
meet_lines = quiet (Addi t2 node_register (4 * closing_word)) ∷ meeting_lines gathering

abbrev pub start_lines : (globals : ℕ) → List MarkedLine
start_lines globals = meet_lines ++ (telling_lines ++ (size_lines ++ parting_lines globals))

-- The image has the code that all beginnings of `start` share, at its label.
pub record HasStart (image : Image) (bound : ℕ → ℕ) : Type 0 where
  pub few : length image.globals.items ≤ 2 ^ 19
  pub lines : LinesAt image bound (bound start_label) (start_lines (length image.globals.items))

-- Where the frame has no levels, the group that ends is that of `start`.
abbrev pub end_by : Levels → (target : ℕ) → List MarkedLine
end_by levels target =
    if levels.count == 0 then end_block target else end_part_block levels target

abbrev pub block_by : Option Operation → Levels → (depth target site : ℕ) → List MarkedLine
block_by (Some Begin) levels depth target site = begin_block depth target
block_by (Some Agree) levels depth target site = agree_block depth
block_by (Some Farm) levels depth target site = farm_block
block_by (Some Seq) levels depth target site = seq_block target
block_by (Some End) levels depth target site = end_by levels target
block_by (Some Resume) levels depth target site = closing_block events.Resume
block_by (Some (Meet false)) levels depth target site = barrier_block
block_by (Some (Meet true)) levels depth target site = closing_block events.Meet
block_by (Some (Frame nesting words)) levels depth target site = frame_block nesting words site
block_by (Some Block) levels depth target site = shalloc_block depth
block_by (Some (Split by)) levels depth target site =
    split_block by levels depth target site
block_by (Some Shrink) levels depth target site = shrink_block levels depth target
block_by operation levels depth target site = []

abbrev pub block_of : Placed → List MarkedLine
block_of placed =
    block_by (operation_of placed.op.kind placed.op.number) placed.levels placed.op.depth
    placed.op.target placed.op.site

abbrev pub is_group_step : Option Operation → Bool
is_group_step (Some Begin) = true
is_group_step (Some Agree) = true
is_group_step (Some Farm) = true
is_group_step (Some Seq) = true
is_group_step (Some End) = true
is_group_step (Some Resume) = true
is_group_step (Some (Meet closing)) = true
is_group_step (Some (Frame nesting words)) = true
is_group_step (Some Block) = true
is_group_step (Some (Split by)) = true
is_group_step (Some Shrink) = true
is_group_step operation = false

abbrev pub HasWords : Option Operation → Type 0
HasWords (Some (Frame nesting words)) = words < 2 ^ 21
HasWords operation = Unit {0}

-- The frame of the group that a `fork` divided has few enough words for a number of a list.
abbrev pub HasFewWords : Option ℕ → Type 0
HasFewWords None = Unit {0}
HasFewWords (Some words) = words < 2 ^ 21

-- The values that a split takes are there.
abbrev pub HasSplitValues : Option Operation → (depth : ℕ) → Type 0
HasSplitValues (Some (Split by)) depth = taken_by by ≤ depth
HasSplitValues operation depth = Unit {0}

-- The frame has room for the levels, and for one more where a split saves it. Only a part of a loop
-- shrinks.
abbrev pub HasLevelWords : Option Operation → Levels → Type 0
HasLevelWords (Some (Split by)) levels = levels.behind + 4 * (levels.count + 1) ≤ 57
HasLevelWords (Some Shrink) levels =
    (levels.behind + 4 * levels.count ≤ 57) × (0 < levels.count) × (levels.fork ≡ None)
HasLevelWords (Some End) levels =
    (levels.behind + 4 * levels.count ≤ 57) × HasFewWords levels.fork
HasLevelWords operation levels = levels.behind + 4 * levels.count ≤ 57

-- An operation of a group whose values and levels have room in a frame, and whose target has a
-- label.
pub record HasGroupStep (placed : Placed) : Type 0 where
  pub kind : is_group_step (operation_of placed.op.kind placed.op.number) ≡ true
  pub depth : placed.op.depth ≤ 56
  pub target : placed.op.target < 2 ^ 31
  pub words : HasWords (operation_of placed.op.kind placed.op.number)
  pub values : HasSplitValues (operation_of placed.op.kind placed.op.number) placed.op.depth
  pub levels : HasLevelWords (operation_of placed.op.kind placed.op.number) placed.levels
