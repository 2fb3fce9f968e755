-- The block of each operation, by its kind.
use Rattle.std.specs.Prelude.{List, Bool, true, false, ◌||◌}
use Rattle.fk_core.specs.declared.op.CoreOp.{CoreOp}
use Rattle.fk_core.specs.Next.{is_jump}
use Rattle.fk_core.specs.Numbers.{operation_of}
use Rattle.fk_asm.specs.Block.{MarkedLine}
use Rattle.fk_gen.specs.declared.placed.Placed.{Placed}
use Rattle.fk_gen_expr.specs.Expressions as expressions
use Rattle.fk_gen_access.specs.Blocks as accesses
use Rattle.fk_gen_flow.specs.Blocks as flow
use Rattle.fk_gen_group.specs.Blocks as group
use Rattle.fk_gen_list.specs.declared.kind.Kind.{Kind}
use Rattle.fk_gen_list.specs.declared.kind.Kind.TheVariants.{Flow, Access, Group, Expression}

abbrev pub kind_by : (flow access step : Bool) → Kind
kind_by true access step = Flow
kind_by false true step = Access
kind_by false false true = Group
kind_by false false false = Expression

abbrev pub kind_of : CoreOp → Kind
kind_of op =
    let operation = operation_of op.kind op.number in
    kind_by (is_jump op || flow.is_some_flow operation) (accesses.is_access operation)
    (group.is_group_step operation)

abbrev pub block_in : Kind → Placed → List MarkedLine
block_in Flow placed = flow.flow_block placed.clears placed.back placed.op
block_in Access placed =
    accesses.block_of (operation_of placed.op.kind placed.op.number) placed.op.depth placed.op.site
block_in Group placed = group.block_of placed
block_in Expression placed = expressions.block_of placed

abbrev pub block_of : Placed → List MarkedLine
block_of placed = block_in (kind_of placed.op) placed

-- An operation has a block, as the blocks of its kind require.
abbrev pub HasBlockIn : Kind → Placed → Type 0
HasBlockIn Flow placed = flow.HasFlow placed
HasBlockIn Access placed = accesses.HasAccess placed
HasBlockIn Group placed = group.HasGroupStep placed
HasBlockIn Expression placed = expressions.HasExpression placed

abbrev pub HasBlockOf : Placed → Type 0
HasBlockOf placed = HasBlockIn (kind_of placed.op) placed
