-- The end of the group of `start`.
use Rattle.std.proofs.Common.{◌≡◌, ℕ, suc, ◌+◌, ◌*◌, List, [], ◌∷◌, length, map, true, Some, None, sym, ap, subst, ◌∙◌, arith, refl, eq-eqb}
use Rattle.std.specs.Prelude.{if◌then◌else◌}
use Rattle.fk_num.specs.Word.{Memory, word_sum}
use Rattle.fk_meaning_operation.specs.declared.operation.Operation.TheVariants.{End}
use Rattle.fk_meaning.specs.Processor.{Level, Setting, to_outer}
use Rattle.fk_meaning.specs.Group.{has_room}
use Rattle.fk_core.specs.declared.op.CoreOp.{CoreOp}
use Rattle.fk_core.specs.Next.{position}
use Rattle.fk_image.specs.declared.Image.{Image}
use Rattle.fk_isa.specs.declared.instruction.Instruction.TheVariants.{Lui, Lw, Addi}
use Rattle.fk_machine.specs.Hart.{Hart, Setting as MachineSetting}
use Rattle.fk_machine.proofs.Performs.{writes, addi}
use Rattle.fk_sim_nodes.specs.Node.{Member, Words}
use Rattle.fk_sim_nodes.specs.Alone.{Holds, RunsPrivately, later}
use Rattle.fk_sim_nodes.specs.Together.{Together}
use Rattle.fk_sim_nodes.specs.OnePlace.{on_each}
use Rattle.fk_sim_nodes.proofs.Runs.{cycle_map}
use Rattle.fk_sim_nodes.proofs.Members.{cycle_commits}
use Rattle.fk_sim_nodes.proofs.OnePlace.{private_of_all}
use Rattle.fk_sim_block.specs.Owner.{Owner, number_of, core_source}
use Rattle.fk_sim_block.specs.Stands.{Places, zero_register, number_register, rank_register, size_register}
use Rattle.fk_sim_block.specs.Block.{Enters}
use Rattle.fk_gen.specs.declared.placed.Levels.{Levels}
use Rattle.fk_gen.specs.Lines.{label_of, goes_to}
use Rattle.fk_gen.specs.InPlace.{HasBlock}
use Rattle.fk_isa.specs.declared.instruction.Instruction.TheVariants as isa
use Rattle.fk_gen.proofs.Walk.{Quiets, Plain, TellsNumber, TellsHarts, quiet_lines, walk, told_of, walked, lines_split, runs_join}
use Rattle.fk_gen.proofs.Jumps.{jumps, goes_to_pc, jal_private}
use Rattle.fk_sim_block.specs.Node.{Nestings, OwnsHeader, IsRoot, HasOuter, HasSaved, past_levels, saved_at, root_words, node_register, body_register, frames_word}
use Rattle.fk_sim_block.specs.Lockstep.{IsMember, AllComeAlone, AllEnter, LevelsStay, IsInStart, AreInStart, NoneSaved, is_due}
use Rattle.fk_gen.specs.Registers.{t0}
use Rattle.fk_gen_group.specs.Splits.{end_part_block}
use Rattle.fk_gen_group.specs.Blocks.{end_block, end_by}
use Rattle.fk_gen_group.specs.Laws.{IsInPlace, GroupsEnd, levels_at}
use Rattle.fk_gen_group.proofs.Members.{Both, all_stand, at_block, each_standing, all_alone, all_due}
use Rattle.fk_gen_group.proofs.Behind.{goes_behind}

module _ (places : Places) (nestings : Nestings) (processors number : ℕ) where
  -- the level of the root, where it alone is round a processor
  root_of : (m : Memory) (indices : List ℕ) (l : Level) → NoneSaved nestings indices → HasOuter places nestings processors number m indices (l ∷ []) → IsRoot processors number l
  root_of m [] l none held = held
  root_of m (i ∷ indices) l none held =
      root_of m indices l none.1 (subst (λ c. HasOuter places nestings processors number m indices (past_levels c (l ∷ []))) none.0 held.2)

  at_root : (m : Memory) (indices : List ℕ) (l : Level) → NoneSaved nestings indices → HasOuter places nestings processors number m indices (l ∷ []) → HasOuter places nestings processors number m indices []
  at_root m [] l none held = tt
  at_root m (i ∷ indices) l none held = (
    held.0,
    subst (λ c. HasSaved m (nestings.forks i) (frames_word (length indices)) (saved_at places nestings (length indices) i) c []) (sym none.0) tt,
    subst (λ c. HasOuter places nestings processors number m indices (past_levels c [])) (sym none.0)
        (at_root m indices l none.1 (subst (λ c. HasOuter places nestings processors number m indices (past_levels c (l ∷ []))) none.0 held.2)),
  )

module _ (core : List CoreOp) (image : Image) (bound : ℕ → ℕ) (places : Places) (nestings : Nestings) (i : ℕ) (op : CoreOp) (place : IsInPlace core image bound places nestings i op End)
    (block : HasBlock image bound places i (end_block op.target)) (leads : LevelsStay nestings i op.target) (setting : Setting) (cycle0 : MachineSetting) (mine : Words) (first : ℕ) (owns : OwnsHeader mine first) (highest lowest size : ℕ) where
  record Came (m : Member) (p : Owner) : Type 0 where
    pub enters : Enters core image places setting cycle0 i op End p m.hart
    pub member : IsMember places nestings setting None first m p
    pub start : IsInStart nestings p

  abbrev committed : Member → Hart
  committed m = writes m.hart 18 (word_sum (m.hart.registers zero_register) 0)

  -- a member that has committed
  record Ended (m : Member) (p : Owner) : Type 0 where
    pub hart : Hart
    pub came : Came (record m { hart = hart }) p
    pub is : m.hart ≡ committed (record m { hart = hart })
    pub at : m.hart.pc ≡ 4 * suc (places.block i)

  ended : (m : Member) (p : Owner) → m.hart.pc ≡ 4 * places.block i → Came m p → Ended (record m { hart = committed m }) p
  ended m p pc came =
      let within = block.lines.0.within in
      record { hart = m.hart; came = came; is = refl; at = omega arith }

  abbrev rest : Quiets
  rest = (Lui t0 0x30000, Plain) ∷ (Lw rank_register t0 20, TellsNumber) ∷ (Lw size_register t0 24, TellsHarts) ∷ (Addi body_register size_register 0, Plain) ∷ (Lui node_register 0x18400, Plain) ∷ []

  abbrev behind : MachineSetting → Member → Hart
  behind t m = jumps (walk (told_of t m.number) rest m.hart) 0 (4 * bound (label_of op.target))

  runs : (t : MachineSetting) (m : Member) (p : Owner) → Holds image t → Ended m p → RunsPrivately image t m.number 6 m.hart (behind t m)
  runs t m p holds e =
      let k = suc (places.block i) in
      let lines = lines_split image bound k (quiet_lines rest) (goes_to (isa.Jal zero_register 0) (label_of op.target) ∷ []) block.lines.1 in
      let live = ap (λ h. h.ended) e.is ∙ e.came.enters.at.live in
      let w = walked image bound t m.number holds rest k m.hart lines.0 e.at live (tt, (refl, (refl, (tt, (tt, tt))))) in
      runs_join image t m.number 5 1 m.hart (walk (told_of t m.number) rest m.hart) (behind t m) w.runs (
        behind t m,
        jal_private image bound _ m.number (k + 5) 0 (label_of op.target) (walk (told_of t m.number) rest m.hart) holds lines.1.0 (block.labels.within (label_of op.target)) w.pc w.live,
        refl,
      )

  -- a processor that is back in the root
  abbrev left_to : List Level → Owner → Owner
  left_to outer p = record { runner = record { left = position op.target p.runner.left.callers; has = to_outer p.runner.has outer }; heap = p.heap }

  abbrev Back : List Level → MachineSetting → Member → Hart → Owner → Type 0
  Back outer t m h p = IsMember places nestings setting (Some setting.processors) root_words (record m { hart = h }) (left_to outer p)

  back : (m : Member) (p : Owner) → Ended m p → Back p.runner.has.outer (later cycle0) m (behind (later cycle0) m) p
  back m p e =
      let t = later cycle0 in
      let first_hart = e.hart in
      let en = e.came.enters in
      let member = e.came.member in
      let start = e.came.start in
      let l = start.root in
      let callers = p.runner.left.callers in
      let hx = goes_to_pc first_hart (4 * places.block op.target) in
      let next = goes_behind core image bound places nestings i op End place op.target (place.fits.goes_on true) leads setting cycle0 None first (record m { hart = first_hart }) p hx en member en.at.live refl
      (refl, refl, refl, refl, refl, refl, refl, refl, refl, refl, refl, refl, refl) refl refl in
      let s = next.0.stands in
      let held = subst (λ o. HasOuter places nestings setting.processors (number_of p) first_hart.local (op.target ∷ callers) o) start.outer next.1.0 in
      let none : NoneSaved nestings (op.target ∷ callers) = (leads.levels ∙ ap nestings.levels (sym en.index) ∙ start.none.0, start.none.1) in
      let root = root_of places nestings setting.processors (number_of p) first_hart.local (op.target ∷ callers) l none held in
      let c = committed (record m { hart = first_hart }) in
      let h = jumps (walk (told_of t m.number) rest c) 0 (4 * bound (label_of op.target)) in
      let same : behind t m ≡ h = ap (λ x. jumps (walk (told_of t m.number) rest x) 0 (4 * bound (label_of op.target))) e.is in
      let zero_is = s.nought in
      let zero_root = root.number in
      let harts = en.running.processors in
      let few = en.running.few in
      let there : Back (l ∷ []) t m h p = record {
        number = member.number;
        at = record {
          live = en.at.live;
          at = ap (λ k. 4 * k) (block.labels.blocks op.target);
          stands = record {
            nought = s.nought;
            frame = s.frame;
            behind = s.behind;
            number = omega arith;
            rank = member.number ∙ sym root.rank;
            size = harts ∙ sym root.size;
            top = s.top;
            local = s.local;
            shared_data = s.shared_data;
            private_heap = s.private_heap;
            shared_mask = s.shared_mask;
            devices = s.devices;
            heap_mask = s.heap_mask;
            running = s.running;
            waiting = s.waiting;
            groups = s.groups;
            own = s.own;
            heap = s.heap;
            full = s.full;
          };
        };
        node = record {
          node = refl;
          body = omega arith;
          space = tt;
          outer = (at_root places nestings setting.processors (number_of p) first_hart.local (op.target ∷ callers) l none held, next.1.1);
        };
        words = refl;
      } in
      subst (λ o. Back o t m (behind t m) p) (sym start.outer) (subst (λ x. Back (l ∷ []) t m x p) (sym same) there)

  -- ---- all of them

  abbrev Gone : List Member → List Owner → Type 0
  Gone ms ps = AllComeAlone places nestings setting image (later cycle0) 6 (λ p. Some setting.processors) root_words ms (map (λ p. left_to p.runner.has.outer p) ps)

  all_gone : (ms : List Member) (ps : List Owner) → Holds image cycle0 → Both Ended ms ps → Gone ms ps
  all_gone [] [] holds all = tt
  all_gone (m ∷ ms) (p ∷ ps) holds all =
      (record { hart = behind (later cycle0) m; private = runs (later cycle0) m p holds all.0; member = back m p all.0 }, all_gone ms ps holds all.1)
  all_gone ms ps holds all = absurd (assumption all)

  came_all : (ms : List Member) (ps : List Owner) → AllEnter core image places nestings i op End setting cycle0 None first ms ps → AreInStart nestings ps → Both Came ms ps
  came_all [] [] all start = tt
  came_all (m ∷ ms) (p ∷ ps) all start = (record { enters = all.0; member = all.1; start = start.0 }, came_all ms ps all.2 start.1)
  came_all ms ps all start = absurd (assumption all)

  due_here : (m : Member) (p : Owner) → Came m p → (has_room End p.runner.has ≡ true) × (p.runner.left.at ≡ i)
  due_here m p came = (refl, came.enters.index)

  together : (ms : List Member) (ps : List Owner) (own : Memory) → Holds image cycle0 → Both Came ms ps
      → Together (core_source core setting) image mine cycle0 1 0 ms ps own
      (λ ms' ds own'. (ds ≡ map (is_due core i op End) ps) × (Gone ms' ps × (own' ≡ own)))
  together ms ps own holds all =
      let stand = all_stand (places.block i) Came ms ps (λ m p came. at_block core image places nestings i op End setting cycle0 first m p came.enters) all in
      cycle_commits (core_source core setting) image mine cycle0 1 ms ps (map (is_due core i op End) ps) own (λ ms' own'. Gone ms' ps × (own' ≡ own))
      owns.apart
      (all_due core setting i op End Came ms ps place.stands refl due_here all)
      (cycle_map image mine cycle0 1 ms own (λ ms' own'. (ms' ≡ on_each committed ms) × (own' ≡ own)) (λ ms' own'. Gone ms' ps × (own' ≡ own))
      (λ ms' own' x.
      (all_gone ms' ps holds (subst (λ l. Both Ended l ps) (sym x.0) (each_standing (places.block i) Came Ended committed ms ps ended stand all)), x.1))
      (private_of_all image mine cycle0 (places.block i) 1 (Addi number_register zero_register 0) committed ms own holds block.lines.0 stand
      (all_alone Came cycle0 (Addi number_register zero_register 0) committed ms ps (λ m p came s. (s.reserved, addi cycle0 m.number 18 0 0 m.hart s)) all)))

-- the block of the end of a group that has no level in the frame
start_block : (image : Image) (bound : ℕ → ℕ) (places : Places) (levels : Levels) (i target : ℕ) → levels.count ≡ 0 → HasBlock image bound places i (end_by levels target)
    → HasBlock image bound places i (end_block target)
start_block image bound places levels i target none block =
    subst (λ b. HasBlock image bound places i (if b then end_block target else end_part_block levels target)) (eq-eqb levels.count 0 none) block

pub groups_end : GroupsEnd
groups_end core image bound places nestings i op lowest size place leads setting t mine first [] [] own owns all start = record { counted = tt; chain = (refl, (tt, refl)) }
groups_end core image bound places nestings i op lowest size place leads setting t mine first (m ∷ ms) (p ∷ ps) own owns all start =
    let none : nestings.levels i ≡ 0 = ap nestings.levels (sym all.0.index) ∙ start.0.none.0 in
    let block = start_block image bound places (levels_at nestings i) i op.target none place.block in
    let came = came_all core image bound places nestings i op place block (leads none) setting t mine first owns 0 lowest size (m ∷ ms) (p ∷ ps) all start in
    together core image bound places nestings i op place block (leads none) setting t mine first owns 0 lowest size (m ∷ ms) (p ∷ ps) own all.0.running.code came
groups_end core image bound places nestings i op lowest size place leads setting t mine first ms ps own owns all start = absurd (assumption all)
