-- All members agree on the last value of the highest.
use Rattle.std.proofs.Common.{◌≡◌, ◌≢◌, ℕ, suc, ◌+◌, ◌*◌, ◌<◌, List, [], ◌∷◌, length, map, true, false, None, sym, ap, subst, ◌∙◌, arith, refl}
use Rattle.std.proofs.lemmas.Bool.{ne_eqb}
use Rattle.fk_num.specs.Word.{Memory, put, word_sum}
use Rattle.fk_meaning_operation.specs.declared.operation.Operation.TheVariants.{Agree}
use Rattle.fk_meaning.specs.Processor.{Setting, values, last, before}
use Rattle.fk_meaning.specs.Group.{has_room}
use Rattle.fk_core.specs.declared.op.CoreOp.{CoreOp}
use Rattle.fk_image.specs.declared.Image.{Image}
use Rattle.fk_machine.specs.Hart.{Hart, Shared, Setting as MachineSetting}
use Rattle.fk_machine.specs.Step.{perform}
use Rattle.fk_machine.proofs.Performs.{writes, moves}
use Rattle.fk_sim_nodes.specs.Node.{Member, Words}
use Rattle.fk_sim_nodes.specs.Alone.{Holds, GoesAlone, NodeCycle, NodeRun, later, in_cycles}
use Rattle.fk_sim_nodes.specs.Together.{Commits, Together}
use Rattle.fk_sim_nodes.specs.OnePlace.{AllAreAt, on_each, onward, onward_with, IsOwnWord, values_for, last_or}
use Rattle.fk_sim_nodes.proofs.Runs.{cycle_map}
use Rattle.fk_sim_nodes.proofs.Members.{cycle_commits}
use Rattle.fk_sim_nodes.proofs.OnePlace.{private_of_all, loads_of_all, stores_of_all}
use Rattle.fk_sim_block.specs.Owner.{Owner, Doing, number_of, core_source}
use Rattle.fk_sim_block.specs.Stands.{Places, end_register, zero_register, frame_register, number_register, rank_register, size_register, top_register, local_register, shared_register, heap_register, shared_mask_register, device_register, heap_mask_register, group_frame_register}
use Rattle.fk_sim_block.specs.Suits.{Flows, nothing}
use Rattle.fk_sim_block.specs.Block.{Enters}
use Rattle.fk_gen.proofs.Values.{values_put, other_word}
use Rattle.fk_gen.proofs.Standing.{InMemory, in_memory, stands_with, value_written}
use Rattle.fk_gen.proofs.Walk.{can_run_goes, LocalAt}
use Rattle.fk_sim_block.specs.Node.{Nestings, HasOuter, OwnsHeader, control_address, agreed_word, node_register, frames_register, blocks_register}
use Rattle.fk_sim_block.proofs.Spaces.{space_kept}
use Rattle.fk_sim_block.specs.Lockstep.{IsMember, AreMembers, AllEnter, HaveStepped, highest_value, stepped, is_due}
use Rattle.fk_gen.specs.Registers.{t0}
use Rattle.fk_gen_group.specs.Laws.{IsInPlace, GroupsAgree}
use Rattle.fk_gen_group.proofs.Members.{Both, all_stand, entered, at_block, each_on, each_standing, stand_on, all_alone, all_at_own, own_word, values_of, no_values, told_highest, all_due}
use Rattle.fk_gen_group.proofs.Last.{value_word, IsValue, is_value, is_last}
use Rattle.fk_gen_group.proofs.Levels.{below_values, lies_below, outer_on, many_callers}
use Rattle.fk_gen.proofs.ValueLines.{place_word}
use Rattle.fk_gen.specs.Operands.{operand, result}

module _ (core : List CoreOp) (image : Image) (bound : ℕ → ℕ) (places : Places) (nestings : Nestings) (i : ℕ) (op : CoreOp) (place : IsInPlace core image bound places nestings i op Agree)
    (setting : Setting) (cycle0 : MachineSetting) (mine : Words) (first : ℕ) (owns : OwnsHeader mine first) (lowest size : ℕ) where
  -- a member as it came; and with a value in t0
  abbrev Came : Member → Owner → Type 0
  Came m p = Enters core image places setting cycle0 i op Agree p m.hart × IsMember places nestings setting None first m p

  record Near (m : Member) (p : Owner) : Type 0 where
    pub hart : Hart
    pub came : Came (record m { hart = hart }) p
    pub local : m.hart.local ≡ hart.local
    pub live : m.hart.ended ≡ false
    pub others : (r : ℕ) → r ≢ 5 → m.hart.registers r ≡ hart.registers r

  record Has (v : ℕ) (m : Member) (p : Owner) : Type 0 where
    pub near : Near m p
    pub value : m.hart.registers t0 ≡ v

  record Loaded (m : Member) (p : Owner) : Type 0 where
    pub near : Near m p
    pub value : m.hart.registers t0 ≡ last (values p.runner.has)

  some : 0 < op.depth
  some = let filled = place.values in omega arith

  value_of : (m : Member) (p : Owner) (first : Hart) → Enters core image places setting cycle0 i op Agree p first → m.hart.registers end_register ≡ first.registers end_register
      → IsValue core image bound places nestings i op Agree place setting cycle0 p m.hart
  value_of m p first en same = is_value core image bound places nestings i op Agree place setting cycle0 p first m.hart some en same

  -- ---- the last value is loaded

  abbrev load_hart : Member → Hart
  load_hart m = writes m.hart 5 (m.hart.local (value_word op.depth m.hart))

  load_alone : (t : MachineSetting) (m : Member) (p : Owner) → Came m p → (s : Shared) → GoesAlone (perform t m.number (operand t0 op.depth) m.hart s) (load_hart m) s
  load_alone t m p came s =
      let v = value_of m p m.hart came.0 refl in
      can_run_goes (operand t0 op.depth) (LocalAt (value_word op.depth m.hart)) m.hart (v.within, v.address) t m.number s

  loads : (m : Member) (p : Owner) → Came m p → Loaded (record m { hart = load_hart m }) p
  loads m p came =
      record {
        near = record { hart = m.hart; came = came; local = refl; live = came.0.at.live; others = λ r ne. rw (ne_eqb r 5 ne) };
        value = is_last core image bound places nestings i op Agree place setting cycle0 p m.hart some came.0;
      }

  load_cycle : (t : MachineSetting) (ms : List Member) (ps : List Owner) (own : Memory) → Holds image t → AllAreAt (places.block i) ms → Both Came ms ps
      → NodeCycle image mine t 0 ms own (λ ms' own'. AllAreAt (suc (places.block i)) ms' × Both Loaded ms' ps × (own' ≡ own))
  load_cycle t ms ps own holds stand all =
      let at = place.block.lines.0 in
      cycle_map image mine t 0 ms own (λ ms' own'. (ms' ≡ on_each load_hart ms) × (own' ≡ own)) (λ ms' own'. AllAreAt (suc (places.block i)) ms' × Both Loaded ms' ps × (own' ≡ own))
      (λ ms' own' x. (
        subst (AllAreAt (suc (places.block i))) (sym x.0) (stand_on (places.block i) load_hart ms at.within (λ m. (refl, refl)) stand),
        subst (λ l. Both Loaded l ps) (sym x.0) (each_on Came Loaded load_hart ms ps loads all),
        x.1,
      ))
      (private_of_all image mine t (places.block i) 0 (operand t0 op.depth) load_hart ms own holds at stand
      (all_alone Came t (operand t0 op.depth) load_hart ms ps (load_alone t) all))

  -- ---- it is stored to the node's word

  at_agreed : (m : Member) (p : Owner) → Near m p → IsOwnWord mine (word_sum (m.hart.registers node_register) 8) (first + agreed_word)
  at_agreed m p near =
      own_word mine first agreed_word (m.hart.registers node_register) owns (omega arith)
      (near.others node_register (λ e. omega arith) ∙ near.came.1.node.node ∙ ap control_address near.came.1.words)

  abbrev stored_value : ℕ → List Owner → ℕ
  stored_value v ps = last_or v (map (λ p. last (values p.runner.has)) ps)

  moved_near : (m : Member) (p : Owner) (h : Hart) → h.local ≡ m.hart.local → h.ended ≡ m.hart.ended → ((r : ℕ) → r ≢ 5 → h.registers r ≡ m.hart.registers r) → Near m p
      → Near (record m { hart = h }) p
  moved_near m p h local ended others near = record {
    hart = near.hart;
    came = near.came;
    local = local ∙ near.local;
    live = ended ∙ near.live;
    others = λ r ne. others r ne ∙ near.others r ne;
  }

  stores : (m : Member) (p : Owner) → Loaded m p → Loaded (record m { hart = onward m.hart }) p
  stores m p l = record { near = moved_near m p (onward m.hart) refl refl (λ r ne. refl) l.near; value = l.value }

  store_cycle : (t : MachineSetting) (ms : List Member) (ps : List Owner) (own : Memory) → Holds image t → AllAreAt (suc (places.block i)) ms → Both Loaded ms ps
      → NodeCycle image mine t 0 ms own
      (λ ms' own'. AllAreAt (suc (suc (places.block i))) ms' × Both Loaded ms' ps
      × (own' (first + agreed_word) ≡ stored_value (own (first + agreed_word)) ps) × ((j : ℕ) → j ≢ first + agreed_word → own' j ≡ own j))
  store_cycle t ms ps own holds stand all =
      let at = place.block.lines.1.0 in
      let k = suc (places.block i) in
      let w = first + agreed_word in
      cycle_map image mine t 0 ms own
      (λ ms' own'. (ms' ≡ on_each (λ m. onward m.hart) ms) × ((j : ℕ) → own' j ≡ last_or (own j) (values_for (λ m. w) 5 j ms)) × AllAreAt (suc k) ms')
      (λ ms' own'. AllAreAt (suc k) ms' × Both Loaded ms' ps × (own' w ≡ stored_value (own w) ps) × ((j : ℕ) → j ≢ w → own' j ≡ own j))
      (λ ms' own' x. (
        x.2,
        subst (λ l. Both Loaded l ps) (sym x.0) (each_on Loaded Loaded (λ m. onward m.hart) ms ps stores all),
        x.1 w ∙ ap (last_or (own w)) (values_of Loaded 5 w (λ p. last (values p.runner.has)) ms ps (λ m p l. l.value) all),
        λ j ne. x.1 j ∙ ap (last_or (own j)) (no_values 5 w j ms ne),
      ))
      (stores_of_all image mine t k 0 10 5 8 (λ m. w) ms own holds at stand (all_at_own Loaded mine (λ h. word_sum (h.registers node_register) 8) w ms ps (λ m p l. at_agreed m p l.near) all))

  -- ---- all load it, which is the commit

  tells : (v x : ℕ) → x ≡ v → (m : Member) (p : Owner) → Loaded m p → Has v (record m { hart = onward_with 5 x m.hart }) p
  tells v x e m p l = record { near = moved_near m p (onward_with 5 x m.hart) refl refl (λ r ne. rw (ne_eqb r 5 ne)) l.near; value = e }

  commit_cycle : (t : MachineSetting) (v : ℕ) (ms : List Member) (ps : List Owner) (own : Memory) → Holds image t → own (first + agreed_word) ≡ v → AllAreAt (suc (suc (places.block i))) ms → Both Loaded ms ps
      → NodeCycle image mine t 1 ms own (λ ms' own'. AllAreAt (suc (suc (suc (places.block i)))) ms' × Both (Has v) ms' ps × (own' ≡ own))
  commit_cycle t v ms ps own holds e stand all =
      let at = place.block.lines.1.1.0 in
      let k = suc (suc (places.block i)) in
      let w = first + agreed_word in
      let h : Member → Hart = λ m. onward_with 5 (own w) m.hart in
      cycle_map image mine t 1 ms own (λ ms' own'. (ms' ≡ on_each h ms) × (own' ≡ own) × AllAreAt (suc k) ms') (λ ms' own'. AllAreAt (suc k) ms' × Both (Has v) ms' ps × (own' ≡ own))
      (λ ms' own' x. (x.2, subst (λ l. Both (Has v) l ps) (sym x.0) (each_on Loaded (Has v) h ms ps (tells v (own w) e) all), x.1))
      (loads_of_all image mine t k 1 5 10 8 (λ m. w) ms own holds at stand (all_at_own Loaded mine (λ h. word_sum (h.registers node_register) 8) w ms ps (λ m p l. at_agreed m p l.near) all))

  -- ---- and puts it in the place of the last value

  abbrev last_hart : Member → Hart
  last_hart m = record (moves m.hart) { local = put m.hart.local (value_word op.depth m.hart) (m.hart.registers t0) }

  last_alone : (t : MachineSetting) (v : ℕ) (m : Member) (p : Owner) → Has v m p → (s : Shared) → GoesAlone (perform t m.number (result t0 op.depth) m.hart s) (last_hart m) s
  last_alone t v m p has s =
      let at = value_of m p has.near.hart has.near.came.0 (has.near.others end_register (λ e. omega arith)) in
      can_run_goes (result t0 op.depth) (LocalAt (value_word op.depth m.hart)) m.hart (at.within, at.address) t m.number s

  -- a member that has come to the next block
  record IsNext (v : ℕ) (m : Member) (p : Owner) : Type 0 where
    pub is : IsMember places nestings setting None first m (stepped core i op Agree v lowest size p)

  agreed : (v : ℕ) (m : Member) (p : Owner) → m.hart.pc ≡ 4 * suc (suc (suc (places.block i))) → Has v m p → IsNext v (record m { hart = last_hart m }) p
  agreed v m p pc has =
      let first_hart = has.near.hart in
      let en = has.near.came.0 in
      let member = has.near.came.1 in
      let stands = en.at.stands in
      let at = value_of m p first_hart en (has.near.others end_register (λ e. omega arith)) in
      let n = length p.runner.has.callers in
      let depth = en.ready.depth in
      let filled = place.values in
      let header = place.fits.room.header in
      let calls = en.ready.in_range.waiting in
      let vs = values p.runner.has in
      let within = place.block.lines.1.1.1.0.within in
      let next = place.block.next in
      let flows : Flows core places.frames nothing i (suc i) = place.fits.goes_on true in
      let here = en.index in
      let local : put m.hart.local (value_word op.depth m.hart) (m.hart.registers t0) ≡ put first_hart.local (place_word n op.depth) v =
      ap (λ l. put l (value_word op.depth m.hart) (m.hart.registers t0)) has.near.local ∙ ap (λ j. put first_hart.local j (m.hart.registers t0)) at.index
      ∙ ap (put first_hart.local (place_word n op.depth)) has.value in
      let memory = value_written core places first_hart.local (first_hart.registers group_frame_register) p i (suc i) op.depth v (v ∷ before 1 vs) place.few calls here place.fits.room (omega arith) flows (in_memory places p first_hart stands)
      (values_put 1 op.depth first_hart.local n v vs (omega arith) (omega arith) (omega arith) stands.running.values) in
      let many = many_callers places nestings first_hart.local p.runner.left.callers p.runner.has.callers stands.waiting in
      let home = ap places.frames.is_main (sym here) ∙ stands.running.home in
      let below = lies_below places nestings n i op.depth home place.levels in
      let callers = p.runner.left.callers in
      let outer =
      outer_on places nestings setting.processors (number_of p) first_hart.local (put first_hart.local (place_word n op.depth) v) i (suc i) op.depth callers p.runner.has.outer place.few place.stay
      (subst (λ k. below_values places nestings k i op.depth) (sym many) below)
      (λ x lt. other_word first_hart.local (place_word n op.depth) v x (λ e. omega arith))
      (omega arith)
      (subst (λ a. HasOuter places nestings setting.processors (number_of p) first_hart.local (a ∷ callers) p.runner.has.outer) here member.node.outer.0) in
      let keeps : (r : ℕ) → r ≢ 5 → m.hart.registers r ≡ first_hart.registers r = has.near.others in
      record {
        is = record {
          number = member.number;
          at = record {
            live = has.near.live;
            at = omega arith;
            stands =
                stands_with places p (stepped core i op Agree v lowest size p) first_hart (last_hart m) stands (
                  keeps zero_register (λ e. omega arith),
                  keeps frame_register (λ e. omega arith),
                  keeps end_register (λ e. omega arith),
                  keeps number_register (λ e. omega arith),
                  keeps rank_register (λ e. omega arith),
                  keeps size_register (λ e. omega arith),
                  keeps local_register (λ e. omega arith),
                  keeps shared_register (λ e. omega arith),
                  keeps heap_register (λ e. omega arith),
                  keeps shared_mask_register (λ e. omega arith),
                  keeps device_register (λ e. omega arith),
                  keeps heap_mask_register (λ e. omega arith),
                  keeps group_frame_register (λ e. omega arith),
                )
                refl refl (keeps top_register (λ e. omega arith) ∙ stands.top) (subst (λ l. InMemory places l (first_hart.registers group_frame_register) (stepped core i op Agree v lowest size p)) (sym local) memory);
          };
          node = record {
            node = keeps node_register (λ e. omega arith) ∙ member.node.node;
            body = tt;
            space = space_kept p.runner.has.level p.runner.has.outer first_hart (last_hart m) (keeps frames_register (λ e. omega arith)) (keeps blocks_register (λ e. omega arith)) member.node.space;
            outer = (subst (λ l. HasOuter places nestings setting.processors (number_of p) l (suc i ∷ callers) p.runner.has.outer) (sym local) outer, member.node.outer.1);
          };
          words = member.words;
        };
      }

  last_cycle : (t : MachineSetting) (v : ℕ) (ms : List Member) (ps : List Owner) (own : Memory) → Holds image t → AllAreAt (suc (suc (suc (places.block i)))) ms → Both (Has v) ms ps
      → NodeCycle image mine t 0 ms own (λ ms' own'. Both (IsNext v) ms' ps × (own' ≡ own))
  last_cycle t v ms ps own holds stand all =
      let at = place.block.lines.1.1.1.0 in
      let k = suc (suc (suc (places.block i))) in
      cycle_map image mine t 0 ms own (λ ms' own'. (ms' ≡ on_each last_hart ms) × (own' ≡ own)) (λ ms' own'. Both (IsNext v) ms' ps × (own' ≡ own))
      (λ ms' own' x. (subst (λ l. Both (IsNext v) l ps) (sym x.0) (each_standing k (Has v) (IsNext v) last_hart ms ps (λ m p pc has. agreed v m p pc has) stand all), x.1))
      (private_of_all image mine t k 0 (result t0 op.depth) last_hart ms own holds at stand (all_alone (Has v) t (result t0 op.depth) last_hart ms ps (last_alone t v) all))

  -- ---- together

  -- one machine runs all of them
  holds_for : (m : Member) (ms : List Member) (ps : List Owner) → Both Came (m ∷ ms) ps → Holds image cycle0
  holds_for m ms (p ∷ ps) all = all.0.0.running.code
  holds_for m ms [] all = absurd all

  due_here : (v : ℕ) (m : Member) (p : Owner) → Loaded m p → (has_room Agree p.runner.has ≡ true) × (p.runner.left.at ≡ i)
  due_here v m p l = (refl, l.near.came.0.index)

  are_members : (v : ℕ) (ms : List Member) (ps : List Owner) → Both (IsNext v) ms ps → AreMembers places nestings setting (λ p. None) first ms (map (stepped core i op Agree v lowest size) ps)
  are_members v [] [] all = tt
  are_members v (m ∷ ms) (p ∷ ps) all = (all.0.is, are_members v ms ps all.1)
  are_members v ms ps all = absurd (assumption all)

  abbrev Ready : (ps : List Owner) → (before : Memory) → List Member → Memory → Type 0
  Ready ps before ms own = HaveStepped core image places nestings i op Agree setting (λ p. None) first lowest size ps before ms own

  abbrev Goal : (t : MachineSetting) → List Owner → Memory → List Member → List Doing → Memory → Type 0
  Goal t ps own ms' ds own' =
      (ds ≡ map (is_due core i op Agree) ps) × NodeRun image mine (later (in_cycles 2 t)) 1 ms' own' (λ ms'' own''. Ready ps own ms'' own'')

  together : (ms : List Member) (ps : List Owner) (own : Memory) → Holds image cycle0 → Both Came ms ps
      → Together (core_source core setting) image mine cycle0 1 2 ms ps own (Goal cycle0 ps own)
  together ms ps own holds all =
      let w = first + agreed_word in
      let cycle1 = later cycle0 in
      let cycle2 = later cycle1 in
      let cycle3 = later cycle2 in
      let source = core_source core setting in
      let k = places.block i in
      cycle_map image mine cycle0 0 ms own (λ ms1 own1. AllAreAt (suc k) ms1 × Both Loaded ms1 ps × (own1 ≡ own))
      (λ ms1 own1. NodeCycle image mine cycle1 0 ms1 own1 (λ ms2 own2. Commits source image mine cycle2 1 ms2 ps own2 (Goal cycle0 ps own)))
      (λ ms1 own1 x.
      cycle_map image mine cycle1 0 ms1 own1
      (λ ms2 own2. AllAreAt (suc (suc k)) ms2 × Both Loaded ms2 ps × (own2 w ≡ stored_value (own1 w) ps) × ((j : ℕ) → j ≢ w → own2 j ≡ own1 j))
      (λ ms2 own2. Commits source image mine cycle2 1 ms2 ps own2 (Goal cycle0 ps own))
      (λ ms2 own2 y.
      cycle_commits source image mine cycle2 1 ms2 ps (map (is_due core i op Agree) ps) own2 (λ ms3 own3. NodeRun image mine cycle3 1 ms3 own3 (λ ms4 own4. Ready ps own ms4 own4))
      owns.apart
      (all_due core setting i op Agree Loaded ms2 ps place.stands refl (due_here 0) y.1)
      (cycle_map image mine cycle2 1 ms2 own2 (λ ms3 own3. AllAreAt (suc (suc (suc k))) ms3 × Both (Has (stored_value (own1 w) ps)) ms3 ps × (own3 ≡ own2))
      (λ ms3 own3. NodeRun image mine cycle3 1 ms3 own3 (λ ms4 own4. Ready ps own ms4 own4))
      (λ ms3 own3 z.
      cycle_map image mine cycle3 0 ms3 own3 (λ ms4 own4. Both (IsNext (stored_value (own1 w) ps)) ms4 ps × (own4 ≡ own3)) (λ ms4 own4. Ready ps own ms4 own4)
      (λ ms4 own4 u. record {
        members = are_members (highest_value ps) ms4 ps (told_highest IsNext (own1 w) ms4 ps u.0);
        others = λ j ne. ap (λ o. o j) u.1 ∙ ap (λ o. o j) z.2 ∙ y.3 j ne ∙ ap (λ o. o j) x.2;
      })
      (last_cycle cycle3 (stored_value (own1 w) ps) ms3 ps own3 holds z.0 z.1))
      (commit_cycle cycle2 (stored_value (own1 w) ps) ms2 ps own2 holds y.2 y.0 y.1)))
      (store_cycle cycle1 ms1 ps own1 holds x.0 x.1))
      (load_cycle cycle0 ms ps own holds (all_stand k Came ms ps (λ m p came. at_block core image places nestings i op Agree setting cycle0 first m p came.0) all) all)

  -- who is nobody does nothing
  none : (own : Memory) → Together (core_source core setting) image mine cycle0 1 2 [] [] own (Goal cycle0 [] own)
  none own = record { counted = tt; chain = (refl, record { members = tt; others = λ j ne. refl }) }

  agree : (ms : List Member) (ps : List Owner) (own : Memory) → AllEnter core image places nestings i op Agree setting cycle0 None first ms ps
      → Together (core_source core setting) image mine cycle0 1 2 ms ps own (Goal cycle0 ps own)
  agree [] [] own all = none own
  agree (m ∷ ms) (p ∷ ps) own all =
      let came = entered core image places nestings i op Agree setting cycle0 first (m ∷ ms) (p ∷ ps) all in
      together (m ∷ ms) (p ∷ ps) own (holds_for m ms (p ∷ ps) came) came
  agree ms ps own all = absurd (assumption all)

pub groups_agree : GroupsAgree
groups_agree core image bound places nestings i op lowest size place setting t mine first ms ps own owns all asked =
    agree core image bound places nestings i op place setting t mine first owns lowest size ms ps own all
