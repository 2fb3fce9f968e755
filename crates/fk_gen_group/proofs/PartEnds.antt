-- The end of a part.
use Rattle.std.proofs.Common.{◌≡◌, ℕ, suc, ◌*◌, ◌<◌, List, [], ◌∷◌, map, true, Option, Some, None, sym, subst, arith, refl}
use Rattle.std.specs.Prelude.{if◌then◌else◌}
use Rattle.std.proofs.lemmas.Bool.{ne_eqb}
use Rattle.fk_num.specs.Word.{Memory}
use Rattle.fk_meaning_operation.specs.declared.operation.Operation.TheVariants.{End}
use Rattle.fk_meaning.specs.Processor.{Level, Setting, values}
use Rattle.fk_meaning.specs.Group.{has_room}
use Rattle.fk_core.specs.declared.op.CoreOp.{CoreOp}
use Rattle.fk_image.specs.declared.Image.{Image}
use Rattle.fk_isa.specs.declared.instruction.Instruction.TheVariants.{Lw}
use Rattle.fk_machine.specs.Hart.{Hart, Shared, Setting as MachineSetting}
use Rattle.fk_machine.specs.Step.{perform}
use Rattle.fk_sim_nodes.specs.Node.{Member, Words}
use Rattle.fk_sim_nodes.specs.Alone.{Holds, GoesAlone, RunsPrivately, later}
use Rattle.fk_sim_nodes.specs.Together.{Together}
use Rattle.fk_sim_nodes.specs.OnePlace.{on_each}
use Rattle.fk_sim_nodes.proofs.Runs.{cycle_map}
use Rattle.fk_sim_nodes.proofs.Members.{cycle_commits, together_map}
use Rattle.fk_sim_nodes.proofs.OnePlace.{private_of_all}
use Rattle.fk_sim_block.specs.Owner.{Owner, core_source}
use Rattle.fk_sim_block.specs.Stands.{Places, frame_register, size_register}
use Rattle.fk_sim_block.specs.Block.{Enters}
use Rattle.fk_sim_block.specs.Node.{Nestings, OwnsHeader, first_word}
use Rattle.fk_sim_block.specs.Lockstep.{IsMember, AllEnter, AllComeByWay, LevelOpens, highest_value, is_due}
use Rattle.fk_sim_block.specs.Parts.{IsInPart, AreInPart, AllMove, EndsPart, size_behind}
use Rattle.fk_gen.specs.declared.placed.Levels.{Levels}
use Rattle.fk_gen.specs.Lines.{at_private}
use Rattle.fk_gen.specs.InPlace.{HasBlock}
use Rattle.fk_gen.proofs.Walk.{LocalAt, told_of, can_run_goes}
use Rattle.fk_gen.proofs.Standing.{SameRegisters}
use Rattle.fk_gen_group.specs.Splits.{end_part_block, end_part_by, end_part_takes}
use Rattle.fk_gen_group.specs.Blocks.{end_block, end_by}
use Rattle.fk_gen_group.specs.Laws.{IsInPlace, PartsEnd, levels_at, last_fork}
use Rattle.fk_gen_group.proofs.ForkEnds.{fork_part_ends}
use Rattle.fk_gen_group.proofs.Members.{Both, all_stand, at_block, each_standing, all_alone, all_due}
use Rattle.fk_gen_group.proofs.Slots.{slot_of, first_slot, out_word, sized, out_hart, out_runs, out_member, left_to}

-- the block of the end of a part
part_block : (image : Image) (bound : ℕ → ℕ) (places : Places) (levels : Levels) (i target : ℕ) → 0 < levels.count → HasBlock image bound places i (end_by levels target)
    → HasBlock image bound places i (end_part_block levels target)
part_block image bound places levels i target some block =
    subst (λ b. HasBlock image bound places i (if b then end_block target else end_part_block levels target)) (ne_eqb levels.count 0 (λ e. omega arith)) block

module _ (core : List CoreOp) (image : Image) (bound : ℕ → ℕ) (places : Places) (nestings : Nestings) (i : ℕ) (op : CoreOp) (place : IsInPlace core image bound places nestings i op End)
    (opens : LevelOpens nestings op.target i) (plain : last_fork nestings i ≡ None) (block : HasBlock image bound places i (end_part_by None (levels_at nestings i) op.target))
    (setting : Setting) (cycle0 : MachineSetting) (mine : Words) (first : ℕ) (owns : OwnsHeader mine first) where
  record Came (m : Member) (p : Owner) : Type 0 where
    pub enters : Enters core image places setting cycle0 i op End p m.hart
    pub member : IsMember places nestings setting None first m p
    pub part : IsInPart nestings p

  abbrev word : ℕ
  word = out_word core image bound places nestings i op End place (place.fits.goes_on true) opens plain

  abbrev committed : Hart → Hart
  committed h = sized core image bound places nestings i op End place (place.fits.goes_on true) opens plain h

  abbrev gone : (t : MachineSetting) (number : ℕ) → Hart → Hart
  gone t number h = out_hart core image bound places nestings i op End place (place.fits.goes_on true) opens plain (told_of t number) h

  -- a member that has committed
  record Ended (m : Member) (p : Owner) : Type 0 where
    pub hart : Hart
    pub came : Came (record m { hart = hart }) p
    pub is : m.hart ≡ committed hart
    pub at : (committed hart).pc ≡ 4 * suc (places.block i)

  ended : (m : Member) (p : Owner) → m.hart.pc ≡ 4 * places.block i → Came m p → Ended (record m { hart = committed m.hart }) p
  ended m p pc came =
      let within = block.lines.0.within in
      record { hart = m.hart; came = came; is = refl; at = omega arith }

  same_hart : (h : Hart) → SameRegisters h h
  same_hart h = (refl, refl, refl, refl, refl, refl, refl, refl, refl, refl, refl, refl, refl)

  runs : (m : Member) (p : Owner) → Holds image cycle0 → (e : Ended m p) → RunsPrivately image (later cycle0) m.number 4 m.hart (gone (later cycle0) m.number e.hart)
  runs m p holds e =
      let en = e.came.enters in
      subst (λ h. RunsPrivately image (later cycle0) m.number 4 h (gone (later cycle0) m.number e.hart)) (sym e.is)
      (out_runs core image bound places nestings i op End place (place.fits.goes_on true) opens plain setting cycle0 first (record m { hart = e.hart }) p en e.came.member e.came.part e.hart
      (same_hart e.hart) refl refl en.at.live (later cycle0) (suc (places.block i)) holds block.labels block.lines.1 e.at)

  -- a processor in the group around its part
  abbrev Back : List Level → Member → Hart → Owner → Type 0
  Back outer m h p =
      let q = left_to core image bound places nestings i op End place (place.fits.goes_on true) opens plain outer (values p.runner.has) p in
      IsMember places nestings setting None (first_word q.runner.has.level q.runner.has.outer) (record m { hart = h }) q

  back : (m : Member) (p : Owner) → (e : Ended m p) → Back p.runner.has.outer m (gone (later cycle0) m.number e.hart) p
  back m p e =
      let en = e.came.enters in
      subst (λ o. Back o m (gone (later cycle0) m.number e.hart) p) (sym e.came.part.outer)
      (out_member core image bound places nestings i op End place (place.fits.goes_on true) opens plain setting cycle0 first (record m { hart = e.hart }) p en e.came.member e.came.part e.hart
      (same_hart e.hart) refl refl en.at.live (told_of (later cycle0) m.number) (values p.runner.has) block.labels en.at.stands.running.values)

  -- ---- all of them

  abbrev Gone : (highest : ℕ) → (Owner → ℕ) → List Member → List Owner → Type 0
  Gone highest size ms ps = AllComeByWay core image places nestings i op End setting (later cycle0) (λ onward. 4) (λ p. None) highest 0 size ms ps

  all_gone : (highest : ℕ) (size : Owner → ℕ) (ms : List Member) (ps : List Owner) → Holds image cycle0 → Both Ended ms ps → Gone highest size ms ps
  all_gone highest size [] [] holds all = tt
  all_gone highest size (m ∷ ms) (p ∷ ps) holds all =
      (record { hart = gone (later cycle0) m.number all.0.hart; runs = runs m p holds all.0; member = back m p all.0 }, all_gone highest size ms ps holds all.1)
  all_gone highest size ms ps holds all = absurd (assumption all)

  came_all : (ms : List Member) (ps : List Owner) → AllEnter core image places nestings i op End setting cycle0 None first ms ps → AreInPart nestings ps → Both Came ms ps
  came_all [] [] all part = tt
  came_all (m ∷ ms) (p ∷ ps) all part = (record { enters = all.0; member = all.1; part = part.0 }, came_all ms ps all.2 part.1)
  came_all ms ps all part = absurd (assumption all)

  due_here : (m : Member) (p : Owner) → Came m p → (has_room End p.runner.has ≡ true) × (p.runner.left.at ≡ i)
  due_here m p came = (refl, came.enters.index)

  -- the first line loads from the frame
  loads : (m : Member) (p : Owner) → Came m p → (s : Shared) → GoesAlone (perform cycle0 m.number (Lw size_register frame_register (at_private word)) m.hart s) (committed m.hart) s
  loads m p came s =
      let en = came.enters in
      let slot = first_slot core image bound places nestings i op End place (place.fits.goes_on true) opens plain setting cycle0 first m p en came.member came.part m.hart (same_hart m.hart) refl refl en.at.live in
      can_run_goes (Lw size_register frame_register (at_private word)) (LocalAt (slot_of word m.hart)) m.hart (slot.within, slot.address) cycle0 m.number s

  together : (highest : ℕ) (size : Owner → ℕ) (ms : List Member) (ps : List Owner) (own : Memory) → Holds image cycle0 → Both Came ms ps
      → Together (core_source core setting) image mine cycle0 1 0 ms ps own
      (λ ms' ds own'. (ds ≡ map (is_due core i op End) ps) × (Gone highest size ms' ps × (own' ≡ own)))
  together highest size ms ps own holds all =
      let f : Member → Hart = λ m. committed m.hart in
      let stand = all_stand (places.block i) Came ms ps (λ m p came. at_block core image places nestings i op End setting cycle0 first m p came.enters) all in
      cycle_commits (core_source core setting) image mine cycle0 1 ms ps (map (is_due core i op End) ps) own (λ ms' own'. Gone highest size ms' ps × (own' ≡ own))
      owns.apart
      (all_due core setting i op End Came ms ps place.stands refl due_here all)
      (cycle_map image mine cycle0 1 ms own (λ ms' own'. (ms' ≡ on_each f ms) × (own' ≡ own)) (λ ms' own'. Gone highest size ms' ps × (own' ≡ own))
      (λ ms' own' x.
      (all_gone highest size ms' ps holds (subst (λ l. Both Ended l ps) (sym x.0) (each_standing (places.block i) Came Ended f ms ps ended stand all)), x.1))
      (private_of_all image mine cycle0 (places.block i) 1 (Lw size_register frame_register (at_private word)) f ms own holds block.lines.0 stand
      (all_alone Came cycle0 (Lw size_register frame_register (at_private word)) f ms ps loads all)))

-- no `fork` made the part
plain_part_ends : (core : List CoreOp) (image : Image) (bound : ℕ → ℕ) (places : Places) (nestings : Nestings) (i : ℕ) (op : CoreOp) → IsInPlace core image bound places nestings i op End
    → (0 < nestings.levels i → LevelOpens nestings op.target i) → last_fork nestings i ≡ None → EndsPart core image places nestings i op (λ onward. 4)
plain_part_ends core image bound places nestings i op place leads plain setting t mine first [] [] own owns all part = record { counted = tt; chain = (refl, tt, refl) }
plain_part_ends core image bound places nestings i op place leads plain setting t mine first (m ∷ ms) (p ∷ ps) own owns all part =
    let some : 0 < nestings.levels i = subst (λ a. 0 < nestings.levels a) all.0.index part.0.saved in
    let block = subst (λ f. HasBlock image bound places i (end_part_by f (levels_at nestings i) op.target)) plain (part_block image bound places (levels_at nestings i) i op.target some place.block) in
    let came = came_all core image bound places nestings i op place (leads some) plain block setting t mine first owns (m ∷ ms) (p ∷ ps) all part in
    let gone : List Member → Type 0 = λ ms'. AllMove core image places nestings i op End setting (later t) (λ onward. 4) (λ q. None) 0 ms' (p ∷ ps) in
    together_map (core_source core setting) image mine t 1 0 (m ∷ ms) (p ∷ ps) own
    (λ ms' ds own'. (ds ≡ map (is_due core i op End) (p ∷ ps)) × (gone ms' × (own' ≡ own)))
    (λ ms' ds own'. (ds ≡ map (is_due core i op End) (p ∷ ps)) × gone ms' × (own' ≡ own))
    (λ ms' ds own' x. (x.0, x.1.0, x.1.1))
    (together core image bound places nestings i op place (leads some) plain block setting t mine first owns (highest_value (p ∷ ps)) (size_behind End (p ∷ ps)) (m ∷ ms) (p ∷ ps) own
    all.0.running.code came)
plain_part_ends core image bound places nestings i op place leads plain setting t mine first ms ps own owns all part = absurd (assumption all)

pub parts_end : PartsEnd
parts_end core image bound places nestings i op place leads = by_fork (last_fork nestings i) refl
  where
    by_fork : (fork : Option ℕ) → last_fork nestings i ≡ fork → EndsPart core image places nestings i op (λ onward. end_part_takes (last_fork nestings i) (nestings.levels i))
    by_fork None e = subst (λ f. EndsPart core image places nestings i op (λ onward. end_part_takes f (nestings.levels i))) (sym e) (plain_part_ends core image bound places nestings i op place leads e)
    by_fork (Some words) e = subst (λ f. EndsPart core image places nestings i op (λ onward. end_part_takes f (nestings.levels i))) (sym e) (fork_part_ends core image bound places nestings i op place leads words e)
