-- The blocks of control flow.
use Rattle.std.specs.Prelude.{◌≡◌, ℕ, ◌^◌, ◌<◌, ◌≤◌, List, [], Bool, true, false, Option, Some}
use Rattle.std.specs.Prelude.{None, if◌then◌else◌, ◌⊎◌}
use Rattle.fk_meaning_operation.specs.declared.operation.Operation.{Operation}
use Rattle.fk_meaning_operation.specs.declared.operation.Operation.TheVariants.{Branch, Leave}
use Rattle.fk_meaning_operation.specs.declared.operation.Operation.TheVariants.{Enter, Halt}
use Rattle.fk_core.specs.declared.op.CoreOp.{CoreOp}
use Rattle.fk_core.specs.Next.{is_jump}
use Rattle.fk_core.specs.Numbers.{operation_of}
use Rattle.fk_asm.specs.Block.{MarkedLine}
use Rattle.fk_gen.specs.declared.placed.Placed.{Placed}
use Rattle.fk_gen_flow.specs.Flow.{jump_block, branch_block, leave_block, halt_block}
use Rattle.fk_gen_flow.specs.Calls.{enter_block, most_privates}

-- The operations of control flow.
abbrev pub is_flow : Operation → Bool
is_flow (Branch onward) = true
is_flow (Leave gives framed) = true
is_flow (Enter arguments) = true
is_flow Halt = true
is_flow operation = false

abbrev pub block_by : (clears back : ℕ) → CoreOp → Option Operation → List MarkedLine
block_by clears back op (Some (Branch onward)) = branch_block onward op.depth op.target
block_by clears back op (Some (Leave gives framed)) = leave_block gives framed op.depth
block_by clears back op (Some (Enter arguments)) =
    enter_block clears arguments op.depth op.site back
block_by clears back op (Some Halt) = halt_block
block_by clears back op operation = []

-- The block of a jump or of an operation. A call clears this many private words before its
-- arguments come there, and its caller goes on at the index `back`.
abbrev pub flow_block : (clears back : ℕ) → CoreOp → List MarkedLine
flow_block clears back op = if is_jump op then jump_block op.target
    else block_by clears back op (operation_of op.kind op.number)

-- The target of a branch has a label, and so has the index where the caller of a call goes on. A
-- call has its arguments.
abbrev pub HasOperands : (depth target back : ℕ) → Option Operation → Type 0
HasOperands depth target back (Some (Branch onward)) = target < 2 ^ 31
HasOperands depth target back (Some (Enter arguments)) = (arguments ≤ depth) × (back < 2 ^ 31)
HasOperands depth target back operation = Unit {0}

abbrev pub is_some_flow : Option Operation → Bool
is_some_flow (Some operation) = is_flow operation
is_some_flow None = false

-- A jump whose target has a label, or an operation of control flow. Its values have room in a
-- frame, and so have the words that it clears.
pub record HasFlow (placed : Placed) : Type 0 where
  pub kind : (is_jump placed.op ≡ true)
      ⊎ (is_some_flow (operation_of placed.op.kind placed.op.number) ≡ true)
  pub depth : is_jump placed.op ≡ false → placed.op.depth ≤ 56
  pub jump : is_jump placed.op ≡ true → placed.op.target < 2 ^ 31
  pub operands : HasOperands placed.op.depth placed.op.target placed.back
      (operation_of placed.op.kind placed.op.number)
  pub clears : placed.clears ≤ most_privates
