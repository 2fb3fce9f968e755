-- The law of blocks, of an image in which a code stands.
use Rattle.std.proofs.Common.{◌≡◌, ℕ, suc, ◌^◌, ◌<◌, ◌≤◌, List, [], length, All, Option, Bool, true, false, Some, ap, subst, ◌∙◌, arith, refl}
use Rattle.std.specs.Prelude.{◌||◌, slice_get}
use Rattle.std.specs.Option.{option_map_or}
use Rattle.fk_meaning_operation.specs.declared.operation.Operation.{Operation}
use Rattle.fk_meaning_operation.specs.declared.operation.Operation.TheVariants.{Halt, Get}
use Rattle.fk_meaning_operation.specs.declared.operation.OwnValue.TheVariants.{FrameAddress}
use Rattle.fk_core.specs.declared.op.CoreOp.{CoreOp}
use Rattle.fk_core.specs.Next.{is_jump}
use Rattle.fk_core.specs.Numbers.{operation_of}
use Rattle.fk_image.specs.declared.Image.{Image}
use Rattle.fk_asm.specs.Block.{MarkedLine}
use Rattle.fk_sim_block.specs.Stands.{Places}
use Rattle.fk_sim_block.specs.Next.{OpAt}
use Rattle.fk_sim_block.specs.Ready.{is_alone}
use Rattle.fk_sim_block.specs.Suits.{Suits}
use Rattle.fk_sim_block.specs.Block.{BlockDoes, BlockLaw}
use Rattle.fk_sim_block.specs.Owner.{Owner}
use Rattle.fk_machine.specs.Hart.{Hart}
use Rattle.fk_gen.specs.Levels.{levels_in}
use Rattle.fk_gen.specs.Parts.{FindsPart}
use Rattle.fk_core_liveness.specs.declared.set.Set.{Set}
use Rattle.fk_gen.specs.declared.placed.Levels.{Levels}
use Rattle.fk_gen.specs.declared.placed.Placed.{Placed}
use Rattle.fk_gen.specs.InPlace.{HasBlock}
use Rattle.fk_gen_expr.specs.Expressions as expressions
use Rattle.fk_gen_expr.proofs.Expressions.{expressions_do}
use Rattle.fk_gen_access.specs.Blocks as accesses
use Rattle.fk_gen_access.specs.Heap.{HasHeap}
use Rattle.fk_gen_access.proofs.Law.{access_blocks_do}
use Rattle.fk_gen_flow.specs.Blocks.{is_flow, is_some_flow}
use Rattle.fk_gen_flow.specs.Calls.{HasShared}
use Rattle.fk_gen_flow.specs.Opening.{HasOpening}
use Rattle.fk_gen_flow.specs.Laws.{HasJumps}
use Rattle.fk_gen_group.specs.Blocks.{is_group_step, HasLevelWords}
use Rattle.fk_gen_flow.proofs.Law.{block_of_jump, jumps_go, flow_blocks_do, halts_end, harts_begin}
use Rattle.fk_gen_list.specs.Kinds.{kind_of, kind_by, block_in, block_of}
use Rattle.fk_gen_list.specs.Generable.{AreKept, HasNoPartFrames, return_at}
use Rattle.fk_gen_list.specs.Layout.{placed}
use Rattle.fk_gen_list.proofs.Clears.{clears_enough}
use Rattle.fk_gen_list.proofs.Suited.{alone_is_no_step, kind_here, has_expression, node_words}
use Rattle.fk_gen_list.proofs.Returns.{calls_return}

-- the constants of operations, their sites and the globals are in range
pub record AreInRange (core : List CoreOp) (globals : ℕ) : Type 0 where
  pub sites : (i : ℕ) (op : CoreOp) → slice_get core i ≡ Some op → op.site < 2 ^ 32
  pub numbers : (i : ℕ) (op : CoreOp) → slice_get core i ≡ Some op → op.number < 2 ^ 32
  pub globals_few : globals ≤ 2 ^ 20

module _ (core : List CoreOp) (image : Image) (places : Places) (bound : ℕ → ℕ) (kept : List Set) (saved : List Levels) where
  abbrev here : (i : ℕ) → CoreOp → Placed
  here i op = placed core (length image.globals.items) kept saved i op

  -- the block of each index is in its place, and so is the code that all calls share, and that of `shmalloc`
  pub record AreInPlace : Type 0 where
    pub blocks : (i : ℕ) (op : CoreOp) → slice_get core i ≡ Some op → HasBlock image bound places i (block_of (here i op))
    pub returns : (i : ℕ) → places.returns i ≡ return_at core places.block i (slice_get core i)
    pub shared : HasShared image bound
    pub heap : HasHeap image bound

  abbrev block_or : Levels → Option Operation → CoreOp → List MarkedLine
  block_or levels o op = option_map_or (expressions.expression_block (length image.globals.items) levels op.depth) o []

  jump_kind : (op : CoreOp) → is_jump op ≡ true → kind_of op ≡ kind_by true (accesses.is_access (operation_of op.kind op.number)) (is_group_step (operation_of op.kind op.number))
  jump_kind op jump =
      ap (λ b. kind_by (b || is_some_flow (operation_of op.kind op.number)) (accesses.is_access (operation_of op.kind op.number)) (is_group_step (operation_of op.kind op.number))) jump

  has_jumps : AreInPlace → HasJumps core image bound places
  has_jumps in_place i op at jump =
      subst (HasBlock image bound places i) (block_of_jump (here i op).clears (here i op).back op jump)
      (subst (λ k. HasBlock image bound places i (block_in k (here i op))) (jump_kind op jump) (in_place.blocks i op at))

  -- the block of an operation that is no step of a group, by its kind
  block_here : AreInPlace → (i : ℕ) (op : CoreOp) (operation : Operation) → OpAt core i op operation → is_group_step (Some operation) ≡ false
      → HasBlock image bound places i (block_in (kind_by (is_flow operation) (accesses.is_access (Some operation)) false) (here i op))
  block_here in_place i op operation stands no_step =
      subst (λ k. HasBlock image bound places i (block_in k (here i op)))
      (kind_here core i op operation stands ∙ ap (kind_by (is_flow operation) (accesses.is_access (Some operation))) no_step)
      (in_place.blocks i op stands.stands)

  -- no operation gets a word of the frame of a part
  finds_none : HasNoPartFrames core → (i : ℕ) (op : CoreOp) (operation : Operation) → OpAt core i op operation → (levels : Levels) (p : Owner) (h : Hart) → FindsPart places levels operation p h
  finds_none none i op (Get (FrameAddress (suc part) word)) stands levels p h = absurd (none i op part word stands)
  finds_none none i op operation stands levels p h = tt

  -- the levels have room
  abbrev AreShort : Type 0
  AreShort = (i : ℕ) (op : CoreOp) (operation : Operation) → OpAt core i op operation → HasLevelWords (Some operation) (levels_in saved i)

  does_by : (main : ℕ) → Suits core places.frames main → AreKept places.frames kept → HasNoPartFrames core → AreShort → AreInRange core (length image.globals.items) → AreInPlace
      → (i : ℕ) (op : CoreOp) (operation : Operation)
      → OpAt core i op operation → is_alone operation ≡ true → (flow access : Bool) → is_flow operation ≡ flow → accesses.is_access (Some operation) ≡ access
      → HasBlock image bound places i (block_in (kind_by flow access false) (here i op))
      → BlockDoes core image places 1 i op operation
  does_by main suits are none room ranges in_place i op operation stands alone true access f a has =
      flow_blocks_do core image places bound i op operation (here i op).clears (here i op).back stands alone f (ranges.sites i op stands.stands) has in_place.shared
      (calls_return core image bound places kept saved in_place.blocks in_place.returns) suits.few
      (suits.fits i op operation stands) (clears_enough places.frames kept i (operation_of op.kind op.number) operation are stands.is_read)
  does_by main suits are none room ranges in_place i op operation stands alone false true f a has =
      access_blocks_do core image bound places i op operation stands a (ranges.sites i op stands.stands)
      (subst (λ o. HasBlock image bound places i (accesses.block_of o op.depth op.site)) stands.is_read has) (λ hires. in_place.heap) (suits.fits i op operation stands)
  does_by main suits are none room ranges in_place i op operation stands alone false false f a has =
      let fits = suits.fits i op operation stands in
      let does =
      expressions_do core image places bound i op (levels_in saved i) operation stands
      (has_expression core places.frames i (length image.globals.items) (levels_in saved i) op operation stands.is_read fits suits.few (ranges.numbers i op stands.stands) ranges.globals_few
      (node_words operation (levels_in saved i) (room i op operation stands)) alone f a)
      (subst (λ o. HasBlock image bound places i (block_or (levels_in saved i) o op)) stands.is_read has) suits.few fits in
      λ setting t p h en. does setting t p h en (finds_none none i op operation stands (levels_in saved i) p h)

  -- the law of blocks
  pub law_of_blocks : (firsts : List ℕ) (main : ℕ) → Suits core places.frames main → AreKept places.frames kept → HasNoPartFrames core → AreShort → AreInRange core (length image.globals.items) → AreInPlace
      → HasOpening image bound places firsts main → length firsts ≡ places.frames.of_file → All (λ v. v < 2 ^ 32) firsts
      → BlockLaw core image places firsts main
  law_of_blocks firsts main suits are none room ranges in_place opening count words = record {
    alone = λ i op operation stands alone.
        does_by main suits are none room ranges in_place i op operation stands alone (is_flow operation) (accesses.is_access (Some operation)) refl refl
        (block_here in_place i op operation stands (alone_is_no_step operation alone));
    halts = λ i op stands. halts_end core image places bound i op (here i op).clears (here i op).back stands (block_here in_place i op Halt stands refl);
    jumps = λ i op at jump. jumps_go core image places bound i op jump (has_jumps in_place i op at jump) (suits.jumps i op at jump);
    begins = λ setting t number running lt.
        harts_begin core image places bound firsts main opening (record { few = suits.few; within = omega arith; words = words }) suits.begins suits.none setting t number running;
  }
