-- The blocks of accesses: `malloc`, checks of addresses, reads, writes, multiprefixes and prints.
use Rattle.std.specs.Prelude.{◌≡◌, ℕ, ◌-◌, ◌≤◌, ◌+◌, List, [], ◌∷◌, ◌++◌, map, length, Bool, true}
use Rattle.std.specs.Prelude.{false, Option, Some}
use Rattle.fk_meaning_operation.specs.declared.operation.Multiprefix.{Multiprefix}
use Rattle.fk_meaning_operation.specs.declared.operation.Multiprefix.TheVariants.{MpAdd, MpMax}
use Rattle.fk_meaning_operation.specs.declared.operation.Multiprefix.TheVariants.{MpAnd, MpOr}
use Rattle.fk_meaning_operation.specs.declared.operation.Operation.{Operation}
use Rattle.fk_meaning_operation.specs.declared.operation.Operation.TheVariants.{Take, Check, Read}
use Rattle.fk_meaning_operation.specs.declared.operation.Operation.TheVariants.{Write, Combine}
use Rattle.fk_meaning_operation.specs.declared.operation.Operation.TheVariants.{PrintNumber}
use Rattle.fk_meaning_operation.specs.declared.operation.Operation.TheVariants.{PrintByte, Heap}
use Rattle.fk_isa.specs.declared.instruction.Instruction.{Instruction}
use Rattle.fk_isa.specs.declared.instruction.Instruction.TheVariants.{Lui, Addi, Slli, Srli, Add}
use Rattle.fk_isa.specs.declared.instruction.Instruction.TheVariants.{Sub, Sltu, And, Beq, Lw, Sw}
use Rattle.fk_isa.specs.declared.instruction.Instruction.TheVariants.{AmoAddW, AmoAndW, AmoOrW}
use Rattle.fk_isa.specs.declared.instruction.Instruction.TheVariants.{AmoMaxW}
use Rattle.fk_asm.specs.Block.{MarkedLine}
use Rattle.fk_sim_block.specs.Stands.{zero_register, top_register, shared_register, heap_register}
use Rattle.fk_sim_block.specs.Stands.{shared_mask_register, device_register, heap_mask_register}
use Rattle.fk_core.specs.Numbers.{operation_of}
use Rattle.fk_gen.specs.declared.placed.Placed.{Placed}
use Rattle.fk_gen.specs.Registers.{t0, t1, t2, t3}
use Rattle.fk_gen.specs.Operands.{operand, result}
use Rattle.fk_gen.specs.Lines.{quiet, commits, load_number}
use Rattle.fk_gen_access.specs.Heap.{hire_block}

-- A block without branches: the instructions before its commit, the commit, and those after it.
pub record Straight : Type 0 where
  pub before : List Instruction
  pub commit : Instruction
  pub behind : List Instruction

abbrev pub lines : Straight → List MarkedLine
lines b = map quiet b.before ++ (commits 1 b.commit ∷ map quiet b.behind)

-- The offsets, from the first device, of those that print a number, print a byte, and end a run at
-- a site.
abbrev pub number_device : ℕ
number_device = 0

abbrev pub byte_device : ℕ
byte_device = 4

abbrev pub fault_device : ℕ
fault_device = 8

-- Take the value before the last of `depth` values into a register; and give its place a register.
abbrev pub earlier_operand : (register depth : ℕ) → Instruction
earlier_operand r d = operand r (d - 1)

abbrev pub earlier_result : (register depth : ℕ) → Instruction
earlier_result r d = result r (d - 1)

-- Prints the last value as a number, or its lowest byte.
abbrev pub print_block : (device depth : ℕ) → Straight
print_block device d = record {
  before = operand t0 d ∷ [];
  commit = Sw device_register t0 device;
  behind = [];
}

-- Puts the word at an address in place of the address.
abbrev pub read_block : (depth : ℕ) → Straight
read_block d = record {
  before = operand t0 d ∷ [];
  commit = Lw t0 t0 0;
  behind = result t0 d ∷ [];
}

-- Writes a value to the word at the address before it. The value stays.
abbrev pub write_block : (depth : ℕ) → Straight
write_block d = record {
  before = earlier_operand t0 d ∷ operand t1 d ∷ [];
  commit = Sw t0 t1 0;
  behind = earlier_result t1 d ∷ [];
}

-- Combines a value with the word at the address before it. The former word stays in place of both.
abbrev pub combining : Multiprefix → Instruction
combining MpAdd = AmoAddW t0 t0 t1 false false
combining MpMax = AmoMaxW t0 t0 t1 false false
combining MpAnd = AmoAndW t0 t0 t1 false false
combining MpOr = AmoOrW t0 t0 t1 false false

abbrev pub combine_block : Multiprefix → (depth : ℕ) → Straight
combine_block by d = record {
  before = earlier_operand t0 d ∷ operand t1 d ∷ [];
  commit = combining by;
  behind = earlier_result t0 d ∷ [];
}

-- Checks an address by masks: that of shared data, and that of the private heap. An address that
-- may be used leads past the store to the device that ends the run at the site, to an instruction
-- that does nothing. Either of the two is the commit, and equally many instructions precede it on
-- both ways.
abbrev pub idle : Instruction
idle = Addi zero_register zero_register 0

abbrev pub refuse : Instruction
refuse = Sw device_register t0 fault_device

abbrev pub shared_test : (depth : ℕ) → List MarkedLine
shared_test d =
    quiet (operand t1 d) ∷ quiet (And t1 t1 shared_mask_register) ∷
    quiet (Beq t1 shared_register 8) ∷ commits 1 refuse ∷
    commits 1 idle ∷ []

abbrev pub any_test : (depth : ℕ) → List MarkedLine
any_test d =
    quiet (operand t1 d) ∷ quiet (And t2 t1 shared_mask_register) ∷
    quiet (And t1 t1 heap_mask_register) ∷
    quiet (Beq t2 shared_register 12) ∷ quiet (Beq t1 heap_register 12) ∷ commits 1 refuse
    ∷ quiet idle ∷ commits 1 idle ∷ []

abbrev pub test_lines : (shared_alone : Bool) → (depth : ℕ) → List MarkedLine
test_lines true d = shared_test d
test_lines false d = any_test d

abbrev pub check_block : (shared_alone : Bool) → (depth site : ℕ) → List MarkedLine
check_block alone d site = map quiet (load_number site) ++ test_lines alone d

-- The number of words of the private heap, and its address, each by its upper 20 bits.
abbrev pub heap_words : ℕ
heap_words = 4

abbrev pub private_heap : ℕ
private_heap = 0x20010

-- `malloc`. The words of a size are taken if there are more than 0 of them, and no more than are
-- left. Else a mask makes the result and the number of words taken 0.
abbrev pub take_block : (depth : ℕ) → Straight
take_block d = record {
  before = [];
  commit = operand t0 d;
  behind =
      Addi t0 t0 3 ∷ Srli t0 t0 2 ∷ Lui t1 heap_words ∷ Sub t1 t1 top_register ∷
      Addi t2 t0 0xffffffff ∷ Sltu t2 t2 t1 ∷ Sub t2 zero_register t2 ∷
      Slli t1 top_register 2 ∷ Lui t3 private_heap ∷ Add t1 t1 t3 ∷ And t1 t1 t2 ∷ result t1 d
      ∷ And t0 t0 t2 ∷ Add top_register top_register t0 ∷ [];
}

-- The operations that are accesses.
abbrev pub is_access : Option Operation → Bool
is_access (Some Take) = true
is_access (Some (Check shared_alone)) = true
is_access (Some Read) = true
is_access (Some Write) = true
is_access (Some (Combine by)) = true
is_access (Some PrintNumber) = true
is_access (Some PrintByte) = true
is_access (Some Heap) = true
is_access operation = false

-- The block of an access that finds `depth` values, at a site.
abbrev pub block_of : Option Operation → (depth site : ℕ) → List MarkedLine
block_of (Some Take) d site = lines (take_block d)
block_of (Some (Check shared_alone)) d site = check_block shared_alone d site
block_of (Some Read) d site = lines (read_block d)
block_of (Some Write) d site = lines (write_block d)
block_of (Some (Combine by)) d site = lines (combine_block by d)
block_of (Some PrintNumber) d site = lines (print_block number_device d)
block_of (Some PrintByte) d site = lines (print_block byte_device d)
block_of (Some Heap) d site = hire_block d
block_of operation d site = []

-- The number of instructions before the commit of the block of an access, and after it.
abbrev pub test_steps : (shared_alone : Bool) → ℕ
test_steps true = 3
test_steps false = 5

abbrev pub before_commit : Operation → (site : ℕ) → ℕ
before_commit (Check shared_alone) site = length (load_number site) + test_steps shared_alone
before_commit Read site = 1
before_commit Write site = 2
before_commit (Combine by) site = 2
before_commit PrintNumber site = 1
before_commit PrintByte site = 1
before_commit Heap site = 16
before_commit operation site = 0

abbrev pub behind_commit : Operation → ℕ
behind_commit Take = 14
behind_commit Read = 1
behind_commit Write = 1
behind_commit (Combine by) = 1
behind_commit Heap = 18
behind_commit operation = 0

-- A block is made for an access that finds at most 56 values.
pub record HasAccess (placed : Placed) : Type 0 where
  pub access : is_access (operation_of placed.op.kind placed.op.number) ≡ true
  pub depth : placed.op.depth ≤ 56
