-- The blocks of expressions.
--
-- The first instruction is the commit: a processor does a local operation at once, and its hart
-- catches up with it.
use Rattle.std.specs.Prelude.{ℕ, ◌+◌, ◌-◌, ◌*◌, ◌^◌, ◌<◌, ◌≤◌, ◌==◌, List, [], ◌∷◌, ◌++◌, Bool}
use Rattle.std.specs.Prelude.{true, false, IsSomeAnd, if◌then◌else◌}
use Rattle.std.specs.Option.{option_map_or}
use Rattle.fk_num.specs.declared.operator.Op.{Op}
use Rattle.fk_meaning_operation.specs.declared.operation.OwnValue.{OwnValue}
use Rattle.fk_meaning_operation.specs.declared.operation.OwnValue.TheVariants.{Value, Rank}
use Rattle.fk_meaning_operation.specs.declared.operation.OwnValue.TheVariants.{GroupNumber}
use Rattle.fk_meaning_operation.specs.declared.operation.OwnValue.TheVariants.{ProcessorNumber}
use Rattle.fk_meaning_operation.specs.declared.operation.OwnValue.TheVariants.{Processors}
use Rattle.fk_meaning_operation.specs.declared.operation.OwnValue.TheVariants.{GroupSize}
use Rattle.fk_meaning_operation.specs.declared.operation.OwnValue.TheVariants.{InputLength}
use Rattle.fk_meaning_operation.specs.declared.operation.OwnValue.TheVariants.{FrameAddress}
use Rattle.fk_meaning_operation.specs.declared.operation.OwnValue.TheVariants.{InputAddress}
use Rattle.fk_meaning_operation.specs.declared.operation.Operation.{Operation}
use Rattle.fk_meaning_operation.specs.declared.operation.Operation.TheVariants.{Push, Get, Set}
use Rattle.fk_meaning_operation.specs.declared.operation.Operation.TheVariants.{DropLast, CopyLast}
use Rattle.fk_meaning_operation.specs.declared.operation.Operation.TheVariants.{Apply, Binary}
use Rattle.fk_meaning_operation.specs.declared.operation.Operation.TheVariants.{Index}
use Rattle.fk_meaning_operation.specs.declared.operation.Variable.{Variable}
use Rattle.fk_meaning_operation.specs.declared.operation.Variable.TheVariants.{Private, OfFile}
use Rattle.fk_meaning_store.specs.Store.{address_of}
use Rattle.fk_core.specs.Numbers.{operation_of}
use Rattle.fk_isa.specs.declared.instruction.Instruction.{Instruction}
use Rattle.fk_isa.specs.declared.instruction.Instruction.TheVariants.{Lui, Addi, Slli, Add, Mul, Lw}
use Rattle.fk_isa.specs.declared.instruction.Instruction.TheVariants.{Sw}
use Rattle.fk_asm.specs.Block.{MarkedLine}
use Rattle.fk_sim_block.specs.Stands.{frame_register, number_register, rank_register}
use Rattle.fk_sim_block.specs.Stands.{size_register, local_register, device_register}
use Rattle.fk_gen.specs.declared.placed.Levels.{Levels}
use Rattle.fk_gen.specs.declared.placed.Placed.{Placed}
use Rattle.fk_gen.specs.Parts.{outward, node_word}
use Rattle.fk_sim_block.specs.Node.{node_register}
use Rattle.fk_sim_block.specs.Stands.{zero_register, group_frame_register}
use Rattle.fk_gen.specs.Registers.{t0, t1, t2}
use Rattle.fk_gen.specs.Operands.{operand, result}
use Rattle.fk_gen.specs.Lines.{at_private, high_part, low_part, to_data}
use Rattle.fk_gen.specs.Lines.{load_number, add_number, first_commits}
use Rattle.fk_gen_expr.specs.Operators.{operator_code, sign_instruction}

-- ---- instructions

-- The register that has the address of a variable's frame or of local memory, and the variable's
-- place from there.
abbrev pub base_of : Variable → ℕ
base_of (Private i) = frame_register
base_of (OfFile i) = local_register

abbrev pub place_of : Variable → ℕ
place_of (Private i) = i
place_of (OfFile i) = i

abbrev pub load_variable : Variable → Instruction
load_variable variable = Lw t0 (base_of variable) (at_private (place_of variable))

abbrev pub store_variable : Variable → Instruction
store_variable variable = Sw (base_of variable) t0 (at_private (place_of variable))

-- ---- the code of each operation, where the call has `depth` values

-- Pushes the word of a device, given its offset from the first device.
abbrev pub push_device : (depth offset : ℕ) → List Instruction
push_device d offset = Lw t0 device_register offset ∷ result t0 (d + 1) ∷ []

abbrev pub push_number : (depth n : ℕ) → List Instruction
push_number d n = load_number n ++ result t0 (d + 1) ∷ []

-- Pushes the address of a word of the function's own group frame. A register has that of the first
-- word.
abbrev pub own_address : (depth word : ℕ) → List Instruction
own_address d word = add_number (4 * word) group_frame_register ++ result t0 (d + 1) ∷ []

-- The node of the group so many levels outward, in t1.
abbrev pub load_node : (is_own : Bool) → Levels → (out : ℕ) → Instruction
load_node true levels out = Addi t1 node_register 0
load_node false levels out = Lw t1 frame_register (at_private (node_word levels out))

-- What leads from the address of a node to that of a word of the frame after the header, whose 8
-- words have the same indices as control words.
abbrev pub past_header : (word : ℕ) → ℕ
past_header word = to_data * 4096 + 32 + 4 * word

-- Pushes that of a word of a part's, which begins after the header of its group.
abbrev pub part_address : Levels → (depth nesting word : ℕ) → List Instruction
part_address levels d nesting word =
    load_node (outward levels nesting == 0) levels (outward levels nesting)
    ∷ (add_number (past_header word) t1 ++ result t0 (d + 1) ∷ [])

abbrev pub frame_address : Levels → (depth nesting word : ℕ) → List Instruction
frame_address levels d nesting word =
    if nesting == 0 then own_address d word else part_address levels d nesting word

abbrev pub get_code : (globals : ℕ) → Levels → (depth : ℕ) → OwnValue → List Instruction
get_code globals levels d (Value variable) = load_variable variable ∷ result t0 (d + 1) ∷ []
get_code globals levels d Rank = result rank_register (d + 1) ∷ []
get_code globals levels d GroupNumber = result number_register (d + 1) ∷ []
get_code globals levels d GroupSize = result size_register (d + 1) ∷ []
get_code globals levels d ProcessorNumber = push_device d 20
get_code globals levels d Processors = push_device d 24
get_code globals levels d InputLength = push_device d 28
get_code globals levels d InputAddress = push_number d (address_of globals)
get_code globals levels d (FrameAddress nesting word) = frame_address levels d nesting word

-- An operator on the last two values, which come to these registers.
abbrev pub join_code : (depth : ℕ) → Op → (first second : ℕ) → List Instruction
join_code d sign first second =
    operand first (d - 1) ∷ operand second d
    ∷ (operator_code sign ++ result t0 (d - 1) ∷ [])

-- Adds an index times the size of an element to an address. For elements of one word the product is
-- a shift.
abbrev pub times_size : (is_word : Bool) (size : ℕ) → List Instruction
times_size true size = Slli t1 t1 2 ∷ []
times_size false size = Lui t2 (high_part size) ∷ Addi t2 t2 (low_part size) ∷ Mul t1 t1 t2 ∷ []

abbrev pub index_code : (depth size : ℕ) → List Instruction
index_code d size =
    operand t0 (d - 1) ∷ operand t1 d
    ∷ (times_size (size == 4) size ++ Add t0 t0 t1 ∷ result t0 (d - 1) ∷ [])

abbrev pub expression_code : (globals : ℕ) → Levels → (depth : ℕ) → Operation → List Instruction
expression_code globals levels d (Push n) = push_number d n
expression_code globals levels d (Get known) = get_code globals levels d known
expression_code globals levels d (Set variable) = operand t0 d ∷ store_variable variable ∷ []
expression_code globals levels d DropLast = Addi zero_register zero_register 0 ∷ []
expression_code globals levels d CopyLast = operand t0 d ∷ result t0 (d + 1) ∷ []
expression_code globals levels d (Apply sign) =
    operand t0 d ∷ sign_instruction sign ∷ result t0 d ∷ []
expression_code globals levels d (Binary sign false) = join_code d sign t0 t1
expression_code globals levels d (Binary sign true) = join_code d sign t1 t0
expression_code globals levels d (Index size) = index_code d size
expression_code globals levels d operation = []

-- ---- blocks

abbrev pub expression_block : (globals : ℕ) → Levels → (depth : ℕ) → Operation
    → List MarkedLine
expression_block globals levels d operation =
    first_commits 1 (expression_code globals levels d operation)

-- Variables that instructions reach: they are words of a frame.
abbrev pub IsReached : Variable → Type 0
IsReached variable = place_of variable < 64

abbrev pub IsKnown : OwnValue → (globals : ℕ) → Levels → Type 0
IsKnown (Value variable) globals levels = IsReached variable
IsKnown (FrameAddress nesting word) globals levels = (word < 2 ^ 21)
    × (levels.behind + 4 * levels.count ≤ 57)
IsKnown InputAddress globals levels = globals ≤ 2 ^ 20
IsKnown known globals levels = Unit {0}

-- The operations of expressions, with the values that they take.
abbrev pub IsExpression : (globals : ℕ) → Levels → (depth : ℕ) → Operation → Type 0
IsExpression globals levels d (Push n) = d < 64
IsExpression globals levels d (Get known) = (d < 64) × IsKnown known globals levels
IsExpression globals levels d (Set variable) = (1 ≤ d) × (d ≤ 64) × IsReached variable
IsExpression globals levels d DropLast = Unit {0}
IsExpression globals levels d CopyLast = (1 ≤ d) × (d < 64)
IsExpression globals levels d (Apply sign) = (1 ≤ d) × (d ≤ 64)
IsExpression globals levels d (Binary sign turned) = (2 ≤ d) × (d ≤ 64)
IsExpression globals levels d (Index size) = (2 ≤ d) × (d ≤ 64) × (size < 2 ^ 32)
IsExpression globals levels d operation = ⊥

-- The operation at an index of an image is one of expressions.
abbrev pub HasExpression : Placed → Type 0
HasExpression placed =
    IsSomeAnd (operation_of placed.op.kind placed.op.number)
    (IsExpression placed.globals placed.levels placed.op.depth)

abbrev pub block_of : Placed → List MarkedLine
block_of placed =
    option_map_or (expression_block placed.globals placed.levels placed.op.depth)
    (operation_of placed.op.kind placed.op.number) []
