-- How many cycles the block of each operation takes.
use Rattle.std.specs.Prelude.{ℕ, ◌==◌, List, Bool, false, Option, Some, None, slice_get}
use Rattle.std.specs.Prelude.{if◌then◌else◌}
use Rattle.std.specs.Option.{option_map_or}
use Rattle.fk_meaning_operation.specs.declared.operation.Operation.{Operation}
use Rattle.fk_meaning_operation.specs.declared.operation.Operation.TheVariants.{Begin, Agree, Seq}
use Rattle.fk_meaning_operation.specs.declared.operation.Operation.TheVariants.{End, Frame, Block}
use Rattle.fk_meaning_operation.specs.declared.operation.Operation.TheVariants.{Split, Shrink}
use Rattle.fk_core.specs.declared.op.CoreOp.{CoreOp}
use Rattle.fk_core.specs.Numbers.{operation_of}
use Rattle.fk_core_liveness.specs.declared.set.Set.{Set}
use Rattle.fk_gen.specs.declared.placed.Levels.{Levels}
use Rattle.fk_gen.specs.declared.placed.Placed.{Placed}
use Rattle.fk_gen.specs.Keeps.{past_first}
use Rattle.fk_gen_expr.specs.Expressions.{expression_block}
use Rattle.fk_gen_access.specs.Blocks as accesses
use Rattle.fk_gen_flow.specs.Blocks.{is_flow}
use Rattle.fk_gen_flow.specs.Keeps as flow
use Rattle.fk_gen_group.specs.Blocks.{frame_takes}
use Rattle.fk_gen_group.specs.Splits.{split_takes, split_goes_on, end_part_takes, shrink_takes}
use Rattle.fk_gen_group.specs.Splits.{shrink_goes_on}
use Rattle.fk_gen_list.specs.declared.kind.Kind.{Kind}
use Rattle.fk_gen_list.specs.declared.kind.Kind.TheVariants.{Flow, Access, Group, Expression}
use Rattle.fk_gen_list.specs.Kinds.{kind_by}
use Rattle.fk_gen_list.specs.Layout.{placed}
use Rattle.fk_sim_block.specs.Law.{Cycles}

-- The kind of the block of an operation that a processor does alone.
abbrev pub lone_kind : Operation → Kind
lone_kind operation = kind_by (is_flow operation) (accesses.is_access (Some operation)) false

-- The cycles before the commit of an operation that a processor does alone, and those after it.
abbrev pub before_in : Kind → CoreOp → Operation → ℕ
before_in Flow op operation = flow.before_commit operation
before_in Access op operation = accesses.before_commit operation op.site
before_in kind op operation = 0

abbrev pub behind_in : Kind → Placed → Operation → (onward : Bool) → ℕ
behind_in Flow here operation onward = flow.behind_commit here.clears operation onward
behind_in Access here operation onward = accesses.behind_commit operation
behind_in Group here operation onward = 0
behind_in Expression here operation onward =
    past_first (expression_block here.globals here.levels here.op.depth operation)

-- The cycles before the commit of an operation, steps of groups in lockstep included, and those
-- after it.
abbrev pub before_of : CoreOp → Operation → ℕ
before_of op Begin = 1
before_of op Agree = 2
before_of op Seq = 3
before_of op (Frame nesting words) = frame_takes words
before_of op (Split by) = split_takes by
before_of op Shrink = shrink_takes
before_of op operation = before_in (lone_kind operation) op operation

-- The group of `start` ends where the frame has no levels.
abbrev pub end_takes : Levels → ℕ
end_takes levels =
    if levels.count == 0 then 6 else end_part_takes levels.fork levels.count

abbrev pub behind_of : Placed → Operation → (onward : Bool) → ℕ
behind_of here Begin onward = if onward then 21 else 11
behind_of here Agree onward = 1
behind_of here Seq onward = 2
behind_of here End onward = end_takes here.levels
behind_of here Block onward = 12
behind_of here (Split by) onward = split_goes_on by here.levels.count onward
behind_of here Shrink onward = shrink_goes_on onward
behind_of here operation onward = behind_in (lone_kind operation) here operation onward

-- The cycles at an index of a list: none where there is no operation.
abbrev pub before_at : Option CoreOp → ℕ
before_at None = 0
before_at (Some op) = option_map_or (before_of op) (operation_of op.kind op.number) 0

abbrev pub behind_at : List CoreOp → (globals : ℕ) → List Set → List Levels → (index : ℕ)
    → Option CoreOp → (onward : Bool) → ℕ
behind_at core globals kept saved index None onward = 0
behind_at core globals kept saved index (Some op) onward =
    option_map_or
    (λ operation. behind_of (placed core globals kept saved index op) operation onward)
    (operation_of op.kind op.number) 0

-- The cycles in an image with this many words of globals, where calls keep these words.
abbrev pub cycles_of : (core : List CoreOp) (globals : ℕ) (kept : List Set) (saved : List Levels)
    → Cycles
cycles_of core globals kept saved = record {
  before = λ i. before_at (slice_get core i);
  behind = λ i onward. behind_at core globals kept saved i (slice_get core i) onward;
}
