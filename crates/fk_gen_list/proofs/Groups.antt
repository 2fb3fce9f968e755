-- Steps of groups of a list, and the whole law.
use Rattle.std.proofs.Common.{◌≡◌, ℕ, ◌<◌, List, [], ◌∷◌, length, Bool, true, false, Some, None, sym, ap, subst, ◌∙◌, arith, refl, eq-eqb}
use Rattle.std.specs.Prelude.{◌==◌, slice_get, if◌then◌else◌}
use Rattle.std.proofs.lemmas.Bool.{eqb-true}
use Rattle.std.specs.Option.{option_map_or}
use Rattle.fk_meaning_operation.specs.declared.operation.Operation.{Operation}
use Rattle.fk_meaning_operation.specs.declared.operation.Operation.TheVariants.{Begin, Agree, Farm, Seq, End, Resume, Meet, Frame, Block, Split, Shrink}
use Rattle.fk_meaning_operation.specs.declared.operation.SplitKind.{SplitKind}
use Rattle.fk_core.specs.declared.op.CoreOp.{CoreOp}
use Rattle.fk_image.specs.declared.Image.{Image}
use Rattle.fk_sim_block.specs.Stands.{Places}
use Rattle.fk_sim_block.specs.Next.{OpAt}
use Rattle.fk_sim_block.specs.Suits.{Suits}
use Rattle.fk_core_liveness.specs.declared.set.Set.{Set}
use Rattle.fk_gen.specs.InPlace.{HasBlock}
use Rattle.fk_gen.specs.declared.placed.Levels.{Levels}
use Rattle.fk_sim_block.specs.Node.{Nestings}
use Rattle.fk_sim_block.specs.Lockstep.{StepTogether, PartTogether, EndTogether}
use Rattle.fk_sim_block.specs.Joint.{most_to_meet, is_meeting, BlockMeets}
use Rattle.fk_sim_block.specs.Start.{most_united, most_to_start, BlockStarts}
use Rattle.fk_sim_block.specs.Law.{IsAskedOf, sets_apart, stays_in_step, runs_behind}
use Rattle.fk_sim_block.specs.Parts.{DividesTogether, FaultsTogether, ShrinksTogether, EndsPart}
use Rattle.fk_gen_group.specs.Blocks.{is_group_step, block_by, frame_takes}
use Rattle.fk_gen_group.specs.Splits.{split_takes, shrink_takes, end_part_takes, split_goes_on}
use Rattle.fk_gen_group.specs.Start.{gathered_at, who_comes, gathering_of}
use Rattle.fk_gen_group.specs.Laws.{IsInPlace, IsSplitInPlace, levels_at, last_fork}
use Rattle.fk_gen_group.proofs.Agree.{groups_agree}
use Rattle.fk_gen_group.proofs.Frames.{groups_take_frames}
use Rattle.fk_gen_group.proofs.Shallocs.{groups_take_blocks}
use Rattle.fk_gen_group.proofs.Farms.{groups_set_free}
use Rattle.fk_gen_group.proofs.Seqs.{groups_send_one}
use Rattle.fk_gen_group.proofs.Ends.{groups_end}
use Rattle.fk_gen_group.proofs.PartEnds.{parts_end}
use Rattle.fk_gen_group.proofs.Shrinks.{parts_shrink}
use Rattle.fk_gen_group.proofs.Divides.{groups_divide}
use Rattle.fk_gen_group.proofs.Lacks.{groups_lack_room}
use Rattle.fk_gen_group.proofs.Phases.{blocks_meet}
use Rattle.fk_gen_group.proofs.Starts.{groups_start}
use Rattle.fk_gen_list.specs.Cycles.{before_at, behind_at, end_takes}
use Rattle.fk_gen.specs.Levels.{levels_in}
use Rattle.fk_gen_list.specs.Laws.{AreInRange, HasGroupCode, StepsHaveValues, HaveStepLevels, ListsHaveTheLaw}
use Rattle.fk_gen_list.proofs.Law.{lists_do_alone}
use Rattle.fk_gen_list.proofs.At.{before_is, behind_is}

meeting_is_step : (operation : Operation) → is_meeting operation ≡ true → is_group_step (Some operation) ≡ true
meeting_is_step (Meet closing) e = refl
meeting_is_step Resume e = refl
meeting_is_step operation e = absurd (cc)

module _ (core : List CoreOp) (image : Image) (bound : ℕ → ℕ) (places : Places) (nestings : Nestings) (kept : List Set) (saved : List Levels) (main : ℕ) (suits : Suits core places.frames main)
    (code : HasGroupCode core saved image bound places) (looks : StepsHaveValues core) (levels : HaveStepLevels core places nestings)
    (told : (i : ℕ) → levels_in saved i ≡ levels_at nestings i) (ranges : AreInRange core image) where
  in_place : (i : ℕ) (op : CoreOp) (operation : Operation) → OpAt core i op operation → is_group_step (Some operation) ≡ true → IsInPlace core image bound places nestings i op operation
  in_place i op operation stands step = record {
    stands = stands;
    block = subst (λ l. HasBlock image bound places i (block_by (Some operation) l op.depth op.target op.site)) (told i) (code.blocks i op operation stands step);
    fits = suits.fits i op operation stands;
    few = suits.few;
    values = looks i op operation stands step;
    levels = levels.room i op operation stands step;
    stay = levels.stay i op operation stands step;
  }

  abbrev globals : ℕ
  globals = length image.globals.items

  abbrev before : (i : ℕ) → ℕ
  before i = before_at (slice_get core i)

  abbrev behind : (i : ℕ) → Bool → ℕ
  behind i onward = behind_at core globals kept saved i (slice_get core i) onward

  -- in the cycles that are told
  step_in : (i : ℕ) (op : CoreOp) (operation : Operation) (c d lowest size : ℕ) → OpAt core i op operation → c ≡ before i → d ≡ behind i true
      → StepTogether core image places nestings i op operation 1 (IsAskedOf operation lowest size) c d None (λ p. None) lowest size
      → StepTogether core image places nestings i op operation 1 (IsAskedOf operation lowest size) (before i) (behind i true) None (λ p. None) lowest size
  step_in i op operation c d lowest size stands e f step =
      subst (λ x. StepTogether core image places nestings i op operation 1 (IsAskedOf operation lowest size) x (behind i true) None (λ p. None) lowest size) e
      (subst (λ x. StepTogether core image places nestings i op operation 1 (IsAskedOf operation lowest size) c x None (λ p. None) lowest size) f step)

  steps : (i : ℕ) (op : CoreOp) (operation : Operation) (lowest size : ℕ) → OpAt core i op operation → stays_in_step operation ≡ true
      → StepTogether core image places nestings i op operation 1 (IsAskedOf operation lowest size) (before i) (behind i true) None (λ p. None) lowest size
  steps i op Agree lowest size stands e =
      step_in i op Agree 2 1 lowest size stands (sym (before_is core globals kept saved i op Agree stands))
      (sym (ap (λ (f : Bool → ℕ). f true) (behind_is core globals kept saved i op Agree stands)))
      (λ setting t mine first ms ps own owns enter asked.
      groups_agree core image bound places nestings i op lowest size (in_place i op Agree stands refl) setting t mine first ms ps own owns enter asked)
  steps i op (Frame nesting words) lowest size stands e =
      let step = Frame nesting words in
      step_in i op step (frame_takes words) 0 lowest size stands (sym (before_is core globals kept saved i op step stands))
      (sym (ap (λ (f : Bool → ℕ). f true) (behind_is core globals kept saved i op step stands)))
      (λ setting t mine first ms ps own owns enter asked.
      groups_take_frames core image bound places nestings i op nesting words lowest size (in_place i op step stands refl) (ranges.words i op stands.stands).0 setting t mine first ms ps own owns enter asked)
  steps i op Block lowest size stands e =
      step_in i op Block 0 12 lowest size stands (sym (before_is core globals kept saved i op Block stands))
      (sym (ap (λ (f : Bool → ℕ). f true) (behind_is core globals kept saved i op Block stands)))
      (λ setting t mine first ms ps own owns enter asked.
      groups_take_blocks core image bound places nestings i op lowest size (in_place i op Block stands refl) setting t mine first ms ps own owns enter asked)
  steps i op operation lowest size stands e = absurd (cc)

  -- by what the law of its block tells
  parts_in : (i : ℕ) (op : CoreOp) (operation : Operation) (c d lowest size : ℕ) → OpAt core i op operation → c ≡ before i → d ≡ behind i true
      → PartTogether core image places nestings i op operation 1 (IsAskedOf operation lowest size) c d None (runs_behind operation lowest size) lowest size
      → PartTogether core image places nestings i op operation 1 (IsAskedOf operation lowest size) (before i) (behind i true) None (runs_behind operation lowest size) lowest size
  parts_in i op operation c d lowest size stands e f part =
      subst (λ x. PartTogether core image places nestings i op operation 1 (IsAskedOf operation lowest size) x (behind i true) None (runs_behind operation lowest size) lowest size) e
      (subst (λ x. PartTogether core image places nestings i op operation 1 (IsAskedOf operation lowest size) c x None (runs_behind operation lowest size) lowest size) f part)

  at_once : (i : ℕ) (op : CoreOp) (lowest size : ℕ) → OpAt core i op Farm
      → PartTogether core image places nestings i op Farm 1 (IsAskedOf Farm lowest size) 0 0 None (runs_behind Farm lowest size) lowest size
  at_once i op lowest size stands setting t mine first ms ps own owns enter asked =
      groups_set_free core image bound places nestings i op lowest size asked.0 (in_place i op Farm stands refl) setting t mine first ms ps own owns enter asked.1

  parts : (i : ℕ) (op : CoreOp) (operation : Operation) (lowest size : ℕ) → OpAt core i op operation → sets_apart operation ≡ true
      → PartTogether core image places nestings i op operation 1 (IsAskedOf operation lowest size) (before i) (behind i true) None (runs_behind operation lowest size) lowest size
  parts i op Farm lowest size stands e =
      parts_in i op Farm 0 0 lowest size stands (sym (before_is core globals kept saved i op Farm stands))
      (sym (ap (λ (f : Bool → ℕ). f true) (behind_is core globals kept saved i op Farm stands))) (at_once i op lowest size stands)
  parts i op Seq lowest size stands e =
      parts_in i op Seq 3 2 lowest size stands (sym (before_is core globals kept saved i op Seq stands))
      (sym (ap (λ (f : Bool → ℕ). f true) (behind_is core globals kept saved i op Seq stands)))
      (groups_send_one core image bound places nestings i op lowest size (in_place i op Seq stands refl) (levels.leads i op Seq stands refl))
  parts i op operation lowest size stands e = absurd (cc)

  -- the cycles of an end
  behind_end : (i : ℕ) (op : CoreOp) → OpAt core i op End → behind i ≡ (λ onward. if nestings.levels i == 0 then 6 else end_part_takes (last_fork nestings i) (nestings.levels i))
  behind_end i op stands = behind_is core globals kept saved i op End stands ∙ ap (λ l. λ (onward : Bool). end_takes l) (told i)

  no_level : {A : Type 0} (i j : ℕ) → (nestings.levels i == 0) ≡ false → nestings.levels j ≡ 0 → j ≡ i → A
  no_level i j some none e = absurd (true_false (sym (eq-eqb (nestings.levels i) 0 (sym (ap nestings.levels e) ∙ none)) ∙ some))
    where
      true_false : true ≡ false → ⊥
      true_false e = absurd (cc)

  a_level : {A : Type 0} (i j : ℕ) → (nestings.levels i == 0) ≡ true → 0 < nestings.levels j → j ≡ i → A
  a_level i j none some e =
      let nought = eqb-true (nestings.levels i) 0 none in
      let same = ap nestings.levels e in
      absurd (omega arith)

  end_by : (i : ℕ) (op : CoreOp) (lowest size : ℕ) → OpAt core i op End → (start : Bool) → (nestings.levels i == 0) ≡ start
      → EndTogether core image places nestings i op 1 (if start then 6 else end_part_takes (last_fork nestings i) (nestings.levels i)) lowest size
  end_by i op lowest size stands true e setting t mine first ms ps own owns all inside =
      groups_end core image bound places nestings i op lowest size (in_place i op End stands refl) (levels.ends i op stands).start setting t mine first ms ps own owns all inside
  end_by i op lowest size stands false e setting t mine first [] [] own owns all inside = record { counted = tt; chain = (refl, (tt, refl)) }
  end_by i op lowest size stands false e setting t mine first (m ∷ ms) (p ∷ ps) own owns all inside = no_level i p.runner.left.at e inside.0.none.0 all.0.index
  end_by i op lowest size stands false e setting t mine first ms ps own owns all inside = absurd (assumption all)

  ends : (i : ℕ) (op : CoreOp) (lowest size : ℕ) → OpAt core i op End → EndTogether core image places nestings i op 1 (behind i true) lowest size
  ends i op lowest size stands =
      subst (λ (f : Bool → ℕ). EndTogether core image places nestings i op 1 (f true) lowest size) (sym (behind_end i op stands))
      (end_by i op lowest size stands (nestings.levels i == 0) refl)

  part_by : (i : ℕ) (op : CoreOp) → OpAt core i op End → (start : Bool) → (nestings.levels i == 0) ≡ start
      → EndsPart core image places nestings i op (λ onward. if start then 6 else end_part_takes (last_fork nestings i) (nestings.levels i))
  part_by i op stands false e setting t mine first ms ps own owns all inside =
      parts_end core image bound places nestings i op (in_place i op End stands refl) (levels.ends i op stands).part setting t mine first ms ps own owns all inside
  part_by i op stands true e setting t mine first [] [] own owns all inside = record { counted = tt; chain = (refl, tt, refl) }
  part_by i op stands true e setting t mine first (m ∷ ms) (p ∷ ps) own owns all inside = a_level i p.runner.left.at e inside.0.saved all.0.index
  part_by i op stands true e setting t mine first ms ps own owns all inside = absurd (assumption all)

  ends_part : (i : ℕ) (op : CoreOp) → OpAt core i op End → EndsPart core image places nestings i op (behind i)
  ends_part i op stands = subst (λ f. EndsPart core image places nestings i op f) (sym (behind_end i op stands)) (part_by i op stands (nestings.levels i == 0) refl)

  shrinks : (i : ℕ) (op : CoreOp) → OpAt core i op Shrink → ShrinksTogether core image places nestings i op (before i) (behind i)
  shrinks i op stands =
      subst (λ c. ShrinksTogether core image places nestings i op c (behind i)) (sym (before_is core globals kept saved i op Shrink stands))
      (subst (λ f. ShrinksTogether core image places nestings i op shrink_takes f) (sym (behind_is core globals kept saved i op Shrink stands))
      (parts_shrink core image bound places nestings i op (in_place i op Shrink stands refl) (levels.shrinks i op stands).0 (levels.shrinks i op stands).1))

  split_in_place : (i : ℕ) (op : CoreOp) (by : SplitKind) → OpAt core i op (Split by) → IsSplitInPlace core image bound places nestings i op by
  split_in_place i op by stands =
      let opens = levels.opens i op by stands in
      record { place = in_place i op (Split by) stands refl; parts = code.parts; room = opens.room; aside = opens.aside }

  -- the cycles of a split
  behind_split : (i : ℕ) (op : CoreOp) (by : SplitKind) → OpAt core i op (Split by) → behind i ≡ split_goes_on by (nestings.levels i)
  behind_split i op by stands = behind_is core globals kept saved i op (Split by) stands ∙ ap (λ (l : Levels). split_goes_on by l.count) (told i)

  divides : (i : ℕ) (op : CoreOp) (by : SplitKind) → OpAt core i op (Split by) → DividesTogether core image places nestings i op by (before i) (behind i)
  divides i op by stands =
      subst (λ c. DividesTogether core image places nestings i op by c (behind i)) (sym (before_is core globals kept saved i op (Split by) stands))
      (subst (λ f. DividesTogether core image places nestings i op by (split_takes by) f) (sym (behind_split i op by stands))
      (groups_divide core image bound places nestings i op by (split_in_place i op by stands)))

  lacks : (i : ℕ) (op : CoreOp) (by : SplitKind) → OpAt core i op (Split by) → FaultsTogether core image places nestings i op by
  lacks i op by stands = groups_lack_room core image bound places nestings i op by (split_in_place i op by stands) (ranges.words i op stands.stands).0

  meets : (i : ℕ) (op : CoreOp) (operation : Operation) → OpAt core i op operation → is_meeting operation ≡ true → BlockMeets core image places nestings i op operation most_to_meet
  meets i op operation stands meeting setting t mine runs first n m p owns en member many =
      let met = blocks_meet core image bound places nestings i op operation meeting (in_place i op operation stands (meeting_is_step operation meeting)) setting t mine runs first n m p owns en member many in
      (met.0, omega (arith, met.1), met.2)

  few_to_begin : (i : ℕ) (op : CoreOp) → OpAt core i op Begin → before i < most_united
  few_to_begin i op stands = let e : before i ≡ 1 = before_is core globals kept saved i op Begin stands in omega (arith, e)

  starts : nestings.start ≡ gathering_of core bound → (i : ℕ) (op : CoreOp) → OpAt core i op Begin
      → BlockStarts core image places nestings i op (nestings.start.there i) (nestings.start.coming i) most_to_start (before i) (behind i)
  starts gathers i op stands =
      let there = gathered_at bound in
      let coming = who_comes bound op.depth in
      let block = groups_start core image bound places nestings i op code.start (in_place i op Begin stands refl) (levels.leads i op Begin stands refl) in
      let begun : BlockStarts core image places nestings i op there coming most_to_start 1 (λ onward. if onward then 21 else 11) = record {
        meets = λ setting t mine m p owns en member root.
            let met = block.meets setting t mine m p owns en member root in
            (met.0, omega (arith, met.1), met.2);
        starts = block.starts;
      } in
      let here : BlockStarts core image places nestings i op there coming most_to_start (before i) (behind i)
      = subst (λ c. BlockStarts core image places nestings i op there coming most_to_start c (behind i)) (sym (before_is core globals kept saved i op Begin stands))
      (subst (λ f. BlockStarts core image places nestings i op there coming most_to_start 1 f) (sym (behind_is core globals kept saved i op Begin stands)) begun) in
      let depth : option_map_or (λ o. o.depth) (slice_get core i) 0 ≡ op.depth = ap (λ o. option_map_or (λ x. x.depth) o 0) stands.stands in
      subst (λ g. BlockStarts core image places nestings i op (g.there i) (g.coming i) most_to_start (before i) (behind i)) (sym gathers)
      (subst (λ d. BlockStarts core image places nestings i op there (who_comes bound d) most_to_start (before i) (behind i)) (sym depth) here)

pub lists_have_the_law : ListsHaveTheLaw
lists_have_the_law core kept saved image bound places nestings firsts main suits are ranges lone levels code looks room told gathers begins =
    let alone = lists_do_alone core kept saved image bound places nestings main suits are ranges lone levels told in
    record {
      few_before = alone.few_before;
      few_behind = alone.few_behind;
      alone = alone.alone;
      jumps = alone.jumps;
      halts = alone.halts;
      begins = begins;
      steps = steps core image bound places nestings kept saved main suits code looks room told ranges;
      parts = parts core image bound places nestings kept saved main suits code looks room told ranges;
      ends = ends core image bound places nestings kept saved main suits code looks room told ranges;
      divides = divides core image bound places nestings kept saved main suits code looks room told ranges;
      lacks = lacks core image bound places nestings kept saved main suits code looks room told ranges;
      shrinks = shrinks core image bound places nestings kept saved main suits code looks room told ranges;
      ends_part = ends_part core image bound places nestings kept saved main suits code looks room told ranges;
      meets = meets core image bound places nestings kept saved main suits code looks room told ranges;
      few_to_begin = few_to_begin core image bound places nestings kept saved main suits code looks room told ranges;
      starts = starts core image bound places nestings kept saved main suits code looks room told ranges gathers;
    }
