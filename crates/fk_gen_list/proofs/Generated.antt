-- The code that is made of a list.
use Rattle.std.proofs.Common.{◌≡◌, ℕ, List, length, true, false, Some, ap, subst, ◌∙◌, refl}
use Rattle.std.specs.Prelude.{◌||◌, slice_get}
use Rattle.fk_meaning_operation.specs.declared.operation.Operation.{Operation}
use Rattle.fk_meaning_operation.specs.declared.operation.Operation.TheVariants.{Halt}
use Rattle.fk_core.specs.declared.op.CoreOp.{CoreOp}
use Rattle.fk_core.specs.Next.{is_jump}
use Rattle.fk_core.specs.Numbers.{operation_of}
use Rattle.fk_image.specs.declared.Image.{Image}
use Rattle.fk_sim_block.specs.Stands.{Places}
use Rattle.fk_sim_block.specs.Next.{OpAt}
use Rattle.fk_core_liveness.specs.declared.set.Set.{Set}
use Rattle.fk_gen.specs.declared.placed.Levels.{Levels}
use Rattle.fk_gen.specs.InPlace.{HasBlock}
use Rattle.fk_gen_access.specs.Blocks.{is_access}
use Rattle.fk_gen_flow.specs.Flow.{jump_block}
use Rattle.fk_gen_flow.specs.Blocks.{is_flow, is_some_flow}
use Rattle.fk_gen_flow.proofs.Law.{block_of_jump}
use Rattle.fk_gen_group.specs.Blocks.{block_by, is_group_step}
use Rattle.fk_gen_list.specs.Kinds.{kind_of, kind_by, block_in, block_of}
use Rattle.fk_gen.specs.Levels.{levels_in}
use Rattle.fk_gen_list.specs.Layout.{placed}
use Rattle.fk_gen_list.proofs.Suited.{alone_is_no_step, step_kind, kind_here}
use Rattle.fk_gen_list.proofs.Returns.{calls_return}
use Rattle.fk_gen_list.specs.Laws.{is_lone}
use Rattle.fk_gen_list.specs.Whole.{GeneratedCodeIsWhole}

jump_kind : (op : CoreOp) → is_jump op ≡ true → kind_of op ≡ kind_by true (is_access (operation_of op.kind op.number)) (is_group_step (operation_of op.kind op.number))
jump_kind op jump =
    ap (λ b. kind_by (b || is_some_flow (operation_of op.kind op.number)) (is_access (operation_of op.kind op.number)) (is_group_step (operation_of op.kind op.number))) jump

lone_is_no_step : (operation : Operation) → is_lone operation ≡ true → is_group_step (Some operation) ≡ false
lone_is_no_step Halt lone = refl
lone_is_no_step operation lone = alone_is_no_step operation lone

module _ (core : List CoreOp) (kept : List Set) (saved : List Levels) (image : Image) (bound : ℕ → ℕ) (places : Places)
    (blocks : (i : ℕ) (op : CoreOp) → slice_get core i ≡ Some op → HasBlock image bound places i (block_of (placed core (length image.globals.items) kept saved i op))) where
  abbrev globals : ℕ
  globals = length image.globals.items

  lone : (i : ℕ) (op : CoreOp) (operation : Operation) → OpAt core i op operation → is_lone operation ≡ true
      → HasBlock image bound places i (block_in (kind_by (is_flow operation) (is_access (Some operation)) false) (placed core globals kept saved i op))
  lone i op operation stands is =
      subst (λ k. HasBlock image bound places i (block_in k (placed core globals kept saved i op)))
      (kind_here core i op operation stands ∙ ap (kind_by (is_flow operation) (is_access (Some operation))) (lone_is_no_step operation is)) (blocks i op stands.stands)

  step : (i : ℕ) (op : CoreOp) (operation : Operation) → OpAt core i op operation → is_group_step (Some operation) ≡ true
      → HasBlock image bound places i (block_by (Some operation) (levels_in saved i) op.depth op.target op.site)
  step i op operation stands is =
      subst (λ o. HasBlock image bound places i (block_by o (levels_in saved i) op.depth op.target op.site)) stands.is_read
      (subst (λ k. HasBlock image bound places i (block_in k (placed core globals kept saved i op))) (kind_here core i op operation stands ∙ step_kind operation is) (blocks i op stands.stands))

  jump : (i : ℕ) (op : CoreOp) → slice_get core i ≡ Some op → is_jump op ≡ true → HasBlock image bound places i (jump_block op.target)
  jump i op at is =
      subst (HasBlock image bound places i) (block_of_jump (placed core globals kept saved i op).clears (placed core globals kept saved i op).back op is)
      (subst (λ k. HasBlock image bound places i (block_in k (placed core globals kept saved i op))) (jump_kind op is) (blocks i op at))

pub generated_code_is_whole : GeneratedCodeIsWhole
generated_code_is_whole core kept saved image bound places firsts main whole = record {
  opening = whole.opening;
  alone = record {
    blocks = lone core kept saved image bound places whole.blocks;
    jumps = jump core kept saved image bound places whole.blocks;
    calls = calls_return core image bound places kept saved whole.blocks whole.returns;
    shared = whole.shared;
    heap = whole.heap;
  };
  steps = record { blocks = step core kept saved image bound places whole.blocks; start = whole.start; parts = whole.parts };
}
