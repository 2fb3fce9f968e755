-- The law of a list.
use Rattle.std.proofs.Common.{◌≡◌, ℕ, List, [], length, arith, Option, Bool, true, false, Some, sym, subst, refl}
use Rattle.std.specs.Prelude.{slice_get}
use Rattle.std.specs.Option.{option_map_or}
use Rattle.fk_meaning_operation.specs.declared.operation.Operation.{Operation}
use Rattle.fk_meaning_operation.specs.declared.operation.Operation.TheVariants.{Get, Leave, Enter, Halt, Begin, Agree, Seq, End, Frame, Block, Split, Shrink}
use Rattle.fk_core.specs.declared.op.CoreOp.{CoreOp}
use Rattle.fk_core.specs.Numbers.{operation_of}
use Rattle.fk_image.specs.declared.Image.{Image}
use Rattle.fk_asm.specs.Block.{MarkedLine}
use Rattle.fk_sim_block.specs.Stands.{Places}
use Rattle.fk_sim_block.specs.Next.{OpAt}
use Rattle.fk_sim_block.specs.Ready.{is_alone}
use Rattle.fk_sim_block.specs.Suits.{Suits, writes}
use Rattle.fk_sim_block.specs.Owner.{Owner}
use Rattle.fk_sim_block.specs.Block.{Enters}
use Rattle.fk_sim_block.specs.Node.{Nestings}
use Rattle.fk_meaning.specs.Processor.{Setting}
use Rattle.fk_meaning.specs.Local.{is_onward}
use Rattle.fk_machine.specs.Hart.{Hart, Setting as MachineSetting}
use Rattle.fk_gen_group.specs.Laws.{levels_at}
use Rattle.fk_gen_group.specs.InNode.{LevelsFit, BlockKeepsIn}
use Rattle.fk_core_liveness.specs.declared.set.Set.{Set}
use Rattle.fk_gen.specs.declared.placed.Levels.{Levels}
use Rattle.fk_gen.specs.declared.placed.Placed.{Placed}
use Rattle.fk_gen.specs.InPlace.{HasBlock}
use Rattle.fk_gen.specs.Levels.{levels_in}
use Rattle.fk_gen.specs.Parts.{FindsPart}
use Rattle.fk_gen.specs.Keeps.{BlockDoesBy, DoesAnd, Keeps, peak}
use Rattle.fk_gen_expr.specs.Expressions as expressions
use Rattle.fk_gen_expr.proofs.Expressions.{expressions_keep}
use Rattle.fk_gen_access.specs.Blocks as accesses
use Rattle.fk_gen_access.proofs.Law.{access_blocks_keep}
use Rattle.fk_gen_flow.specs.Blocks.{is_flow}
use Rattle.fk_gen_flow.specs.Keeps.{BlockKeeps}
use Rattle.fk_gen_flow.proofs.Law.{flow_blocks_keep, halts_end}
use Rattle.fk_gen_list.specs.Kinds.{kind_by, block_in}
use Rattle.fk_gen_list.specs.Layout.{placed}
use Rattle.fk_gen_list.specs.Generable.{AreKept}
use Rattle.fk_gen_list.proofs.Clears.{clears_enough}
use Rattle.fk_gen_list.proofs.Suited.{has_expression, HasNodeWords}
use Rattle.fk_gen_group.proofs.Alone.{lone_blocks_stay_in_node}
use Rattle.fk_gen_group.proofs.InNode.{jumps_stay_in_node}
use Rattle.fk_gen_list.specs.Cycles.{lone_kind, before_in, behind_in, before_of, behind_of, before_at, behind_at, cycles_of}
use Rattle.fk_gen_list.specs.Laws.{HasLoneCode, HaveLevels, AreInRange, ListsDoAlone, is_lone}
use Rattle.fk_gen_list.proofs.Few.{few_before_at, few_behind_at}

never : {A : Type 0} → false ≡ true → A
never e = absurd (cc)

is_lone_of : (operation : Operation) → is_alone operation ≡ true → is_lone operation ≡ true
is_lone_of Halt alone = refl
is_lone_of operation alone = alone

-- a block that makes no call and ends none keeps what is to be kept
keeps_of : (core : List CoreOp) (image : Image) (places : Places) (before : ℕ) (behind : Bool → ℕ) (i : ℕ) (op : CoreOp) (operation : Operation) → is_flow operation ≡ false → is_alone operation ≡ true
    → BlockDoesBy core image places 1 before behind i op operation → BlockKeeps core image places 1 before behind i op operation
keeps_of core image places before behind i op (Enter n) flow alone does = never (sym flow)
keeps_of core image places before behind i op (Leave gives framed) flow alone does = never (sym flow)
keeps_of core image places before behind i op operation flow alone does = does

module _ (core : List CoreOp) (image : Image) (places : Places) (bound : ℕ → ℕ) (kept : List Set) (saved : List Levels) (main : ℕ) (suits : Suits core places.frames main) (are : AreKept places.frames kept)
    (ranges : AreInRange core image) (code : HasLoneCode core kept saved image bound places) (nestings : Nestings) (levels : HaveLevels core places nestings)
    (told : (i : ℕ) → levels_in saved i ≡ levels_at nestings i) where
  abbrev globals : ℕ
  globals = length image.globals.items

  abbrev here : (i : ℕ) → CoreOp → Placed
  here i op = placed core globals kept saved i op

  -- what an operation keeps that finds the frame of which it gets a word
  abbrev KeepsIn : (i : ℕ) → CoreOp → Operation → (before : ℕ) → (behind : Bool → ℕ) → Type 0
  KeepsIn i op operation before behind = BlockKeepsIn core image places (levels_in saved i) before behind i op operation

  -- a block that makes no call and ends none keeps what is to be kept
  keeps_in : (i : ℕ) (op : CoreOp) (operation : Operation) (before : ℕ) (behind : Bool → ℕ) → is_flow operation ≡ false → is_alone operation ≡ true
      → ((setting : Setting) (t : MachineSetting) (p : Owner) (h : Hart) → Enters core image places setting t i op operation p h → FindsPart places (levels_in saved i) operation p h
      → DoesAnd core image places setting t 1 p h before (behind (is_onward operation p.runner.has)) (Keeps places (length p.runner.has.callers) (peak operation op.depth) (writes operation) h))
      → KeepsIn i op operation before behind
  keeps_in i op (Enter n) before behind flow alone does = never (sym flow)
  keeps_in i op (Leave gives framed) before behind flow alone does = never (sym flow)
  keeps_in i op operation before behind flow alone does = does

  -- the words of levels at an index are those of a frame
  words_by : (i : ℕ) (op : CoreOp) (operation : Operation) → LevelsFit core places nestings i op operation → HasNodeWords operation (levels_at nestings i)
  words_by i op (Get known) fit = let room = fit.room.room in omega arith
  words_by i op operation fit = tt

  words_at : (i : ℕ) (op : CoreOp) (operation : Operation) → OpAt core i op operation → is_alone operation ≡ true → HasNodeWords operation (levels_in saved i)
  words_at i op operation stands alone = subst (HasNodeWords operation) (sym (told i)) (words_by i op operation (levels.operations i op operation stands alone))

  abbrev block_or : Levels → Option Operation → CoreOp → List MarkedLine
  block_or levels o op = option_map_or (expressions.expression_block globals levels op.depth) o []

  keeps_by : (i : ℕ) (op : CoreOp) (operation : Operation) → OpAt core i op operation → is_alone operation ≡ true → (flow access : Bool) → is_flow operation ≡ flow
      → accesses.is_access (Some operation) ≡ access → HasBlock image bound places i (block_in (kind_by flow access false) (here i op))
      → KeepsIn i op operation (before_in (kind_by flow access false) op operation) (behind_in (kind_by flow access false) (here i op) operation)
  keeps_by i op operation stands alone true access f a has setting t p h en finds =
      flow_blocks_keep core image places bound i op operation (here i op).clears (here i op).back stands alone f (ranges.words i op stands.stands).0 has code.shared code.calls suits.few
      (suits.fits i op operation stands) (clears_enough places.frames kept i (operation_of op.kind op.number) operation are stands.is_read)
      setting t p h en
  keeps_by i op operation stands alone false true f a has setting t p h en finds =
      keeps_of core image places (accesses.before_commit operation op.site) (λ onward. accesses.behind_commit operation) i op operation f alone
      (access_blocks_keep core image bound places i op operation stands a (ranges.words i op stands.stands).0
      (subst (λ o. HasBlock image bound places i (accesses.block_of o op.depth op.site)) stands.is_read has) (λ hires. code.heap) (suits.fits i op operation stands))
      setting t p h en
  keeps_by i op operation stands alone false false f a has setting t p h en finds =
      let fits = suits.fits i op operation stands in
      keeps_in i op operation 0 (behind_in (kind_by false false false) (here i op) operation) f alone
      (expressions_keep core image places bound i op (levels_in saved i) operation stands
      (has_expression core places.frames i globals (levels_in saved i) op operation stands.is_read fits suits.few (ranges.words i op stands.stands).1 ranges.globals (words_at i op operation stands alone) alone f a)
      (subst (λ o. HasBlock image bound places i (block_or (levels_in saved i) o op)) stands.is_read has) suits.few fits)
      setting t p h en finds

  -- the cycles of operations that processors do alone are those of their kinds
  by_kind : (i : ℕ) (op : CoreOp) (operation : Operation) → is_alone operation ≡ true
      → KeepsIn i op operation (before_in (lone_kind operation) op operation) (behind_in (lone_kind operation) (here i op) operation)
      → KeepsIn i op operation (before_of op operation) (behind_of (here i op) operation)
  by_kind i op Begin alone keeps = never alone
  by_kind i op Agree alone keeps = never alone
  by_kind i op Seq alone keeps = never alone
  by_kind i op End alone keeps = never alone
  by_kind i op (Frame nesting words) alone keeps = never alone
  by_kind i op Block alone keeps = never alone
  by_kind i op (Split by) alone keeps = never alone
  by_kind i op Shrink alone keeps = never alone
  by_kind i op operation alone keeps = keeps

  -- and those at its index
  keeps : (i : ℕ) (op : CoreOp) (operation : Operation) → OpAt core i op operation → is_alone operation ≡ true
      → KeepsIn i op operation (before_at (slice_get core i)) (behind_at core globals kept saved i (slice_get core i))
  keeps i op operation stands alone =
      subst (λ o. KeepsIn i op operation (before_at o) (behind_at core globals kept saved i o)) (sym stands.stands)
      (subst (λ o. KeepsIn i op operation (option_map_or (before_of op) o 0) (λ onward. option_map_or (λ x. behind_of (here i op) x onward) o 0)) (sym stands.is_read)
      (by_kind i op operation alone
      (keeps_by i op operation stands alone (is_flow operation) (accesses.is_access (Some operation)) refl refl
      (code.blocks i op operation stands (is_lone_of operation alone)))))

pub lists_do_alone : ListsDoAlone
lists_do_alone core kept saved image bound places nestings main suits are ranges code levels told =
    let globals = length image.globals.items in
    record {
      few_before = λ i. few_before_at (slice_get core i);
      few_behind = λ i onward. few_behind_at core places.frames main suits globals ranges.globals kept saved (λ j op at. (ranges.words j op at).1) i onward (slice_get core i) refl;
      alone = λ i op operation stands alone.
          lone_blocks_stay_in_node core image places nestings (cycles_of core globals kept saved) i op operation stands alone (levels.operations i op operation stands alone)
          (subst (λ (l : Levels). BlockKeepsIn core image places l (before_at (slice_get core i)) (behind_at core globals kept saved i (slice_get core i)) i op operation) (told i)
          (keeps core image places bound kept saved main suits are ranges code nestings levels told i op operation stands alone));
      jumps = λ i op at jump.
          jumps_stay_in_node core image bound places nestings i op (code.jumps i op at jump) (suits.jumps i op at jump) suits.few (levels.jumps i op at jump);
      halts = λ i op stands. halts_end core image places bound i op (placed core globals kept saved i op).clears (placed core globals kept saved i op).back stands (code.blocks i op Halt stands refl);
    }
