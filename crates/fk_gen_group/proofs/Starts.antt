-- The beginning of `start`.
use Rattle.std.proofs.Common.{◌≡◌, ℕ, suc, ◌+◌, ◌-◌, ◌*◌, ◌/◌, ◌%◌, ◌^◌, ◌<◌, ◌≤◌, List, [], ◌∷◌, ◌++◌, length, map, Bool, true, false, Some, None, sym, ap, subst, ◌∙◌, arith, refl}
use Rattle.std.specs.Prelude.{◌==◌, ◌||◌, nat_lt, if◌then◌else◌}
use Rattle.std.proofs.Math.Nat.{min-le_right}
use Rattle.fk_num.specs.Word.{Memory, word_sum}
use Rattle.fk_meaning_operation.specs.declared.operation.Operation.TheVariants.{Begin}
use Rattle.fk_meaning.specs.Processor.{Level, Setting, values, last, before, drop_last, enter_level}
use Rattle.fk_meaning.specs.Group.{not_negative, is_taken, start_level, has_room}
use Rattle.fk_core.specs.declared.op.CoreOp.{CoreOp}
use Rattle.fk_core.specs.Next.{position, follows}
use Rattle.fk_image.specs.declared.Image.{Image}
use Rattle.fk_asm.specs.Block.{MarkedLine}
use Rattle.fk_isa.specs.declared.instruction.Instruction.TheVariants.{Lui, Jalr, Bltu, Lw, Addi, Sltiu, Slli, Srli, Add, Sltu, Mul}
use Rattle.fk_machine.specs.Hart.{Hart, Setting as MachineSetting}
use Rattle.fk_machine.proofs.Performs.{writes, moves, addi}
use Rattle.fk_sim_nodes.specs.Node.{Member, Words}
use Rattle.fk_sim_nodes.specs.Alone.{RunsPrivately, NodeCycle, later, in_cycles}
use Rattle.fk_sim_nodes.specs.Together.{Commits, Together}
use Rattle.fk_sim_nodes.specs.OnePlace.{AllAreAt, on_each, onward, onward_with, IsOwnWord, values_for, last_or}
use Rattle.fk_sim_nodes.proofs.Runs.{cycle_map}
use Rattle.fk_sim_nodes.proofs.Members.{cycle_commits}
use Rattle.fk_sim_nodes.proofs.OnePlace.{loads_of_all, stores_of_all}
use Rattle.fk_sim_nodes.specs.Phase.{Coming}
use Rattle.fk_sim_block.specs.Owner.{Owner, number_of, core_source}
use Rattle.fk_sim_block.specs.Stands.{Places, StandsAt, StandsFor, zero_register, end_register, rank_register, size_register, device_register, value_in, frame_register, number_register, top_register, local_register, shared_register, heap_register, shared_mask_register, heap_mask_register, group_frame_register}
use Rattle.fk_sim_block.specs.Suits.{Flows, nothing}
use Rattle.fk_sim_block.specs.Block.{IsRunning, Enters}
use Rattle.fk_gen.specs.Lines.{quiet, label_of, high_part, low_part}
use Rattle.fk_gen.specs.InPlace.{LinesAt}
use Rattle.fk_gen.proofs.Values.{values_before, number_of_parts}
use Rattle.fk_gen.proofs.Standing.{SameRegisters, in_memory, stands_with, with_list}
use Rattle.fk_gen.proofs.Walk.{Quiets, Plain, LocalAt, TellsInputs, quiet_lines, walk, told_of, walked, lines_split, runs_join, private, can_run_goes}
use Rattle.fk_gen.proofs.Jumps.{jumps, goes_to_pc, jal_private, jalr_goes}
use Rattle.fk_sim_block.specs.Node.{Polling, Nestings, IsRoot, HasOuter, HasNestings, HasSaved, OwnsHeader, past_levels, saved_at, first_word, root_words, closing_word, agreed_word, control_address, node_register, frames_register, blocks_register, body_register, frames_word}
use Rattle.fk_sim_block.specs.Lockstep.{IsMember, LevelsStay, NoneSaved, highest_value, is_due, ComesByWay, AllComeByWay}
use Rattle.fk_sim_block.specs.Joint.{Polls}
use Rattle.fk_sim_block.specs.Start.{IsInRoot, MeetsUntil, HasMet, AllHaveMet, HaveStarted, size_of_start, runs_behind_start}
use Rattle.fk_gen_group.specs.Meeting.{IsMeeting, HasMeeting, IsReadyToMeet, HasLeft}
use Rattle.fk_gen_group.specs.Blocks.{HasStart, start_label, gathering, meet_lines, telling_lines, size_lines, parting_lines, group_words}
use Rattle.fk_gen_group.specs.Laws.{IsInPlace, GroupsStart}
use Rattle.fk_gen_group.proofs.Performs.{bltu-taken, bltu-passed}
use Rattle.fk_gen_group.proofs.Steps.{harts_arrive}
use Rattle.fk_gen_group.proofs.Phases.{kept_at, keeps_polling, on_its_way}
use Rattle.fk_gen_group.proofs.Members.{Both, all_stand, each_on, all_at_own, own_word, values_of, no_values, told_highest, all_due}
use Rattle.fk_gen_group.proofs.Last.{value_word, is_value, is_last}
use Rattle.fk_gen_group.proofs.Behind.{goes_behind_with}
use Rattle.fk_gen_group.proofs.Sizes.{sized, sized_is, below_lesser, halfway, halfway_is}
use Rattle.fk_sim_block.proofs.Spaces.{space_kept}
use Rattle.fk_gen.specs.Registers.{ra, t0, t1, t2, t3}
use Rattle.fk_gen.specs.Operands.{operand}
use Rattle.fk_gen_group.specs.Start.{value_found}

-- the root is round a processor that enters the group
under_root : (places : Places) (nestings : Nestings) (processors number : ℕ) (m : Memory) (indices : List ℕ) (l : Level) → IsRoot processors number l → NoneSaved nestings indices
    → HasOuter places nestings processors number m indices [] → HasOuter places nestings processors number m indices (l ∷ [])
under_root places nestings processors number m [] l is none held = is
under_root places nestings processors number m (i ∷ indices) l is none held = (
  held.0,
  subst (λ c. HasSaved m (nestings.forks i) (frames_word (length indices)) (saved_at places nestings (length indices) i) c (l ∷ [])) (sym none.0) tt,
  subst (λ c. HasOuter places nestings processors number m indices (past_levels c (l ∷ []))) (sym none.0)
      (under_root places nestings processors number m indices l is none.1 (subst (λ c. HasOuter places nestings processors number m indices (past_levels c [])) none.0 held.2)),
)

-- a hart stands for its processor wherever it goes
stands_anywhere : (places : Places) (p : Owner) (h : Hart) (pc : ℕ) → StandsFor places p h → StandsFor places p (goes_to_pc h pc)
stands_anywhere places p h pc s = stands_with places p p h (goes_to_pc h pc) s (refl, refl, refl, refl, refl, refl, refl, refl, refl, refl, refl, refl, refl) refl refl s.top (in_memory places p h s)

module _ (core : List CoreOp) (image : Image) (bound : ℕ → ℕ) (places : Places) (nestings : Nestings) (i : ℕ) (op : CoreOp) (shared : HasStart image bound)
    (place : IsInPlace core image bound places nestings i op Begin) (leads : LevelsStay nestings i op.target) where
  -- the word where the shared code begins, and that behind the meeting
  abbrev base : ℕ
  base = bound start_label

  abbrev globals : ℕ
  globals = length image.globals.items

  abbrev rest_lines : List MarkedLine
  rest_lines = telling_lines ++ (size_lines ++ parting_lines globals)

  lines_of_meeting : LinesAt image bound base meet_lines
  lines_of_meeting = (lines_split image bound base meet_lines rest_lines shared.lines).0

  abbrev size_code : Quiets
  size_code =
      (Srli t1 t3 31, Plain) ∷ (Sltiu t1 t1 1, Plain) ∷ (Mul t3 t3 t1, Plain) ∷ (Sltu t1 t3 size_register, Plain) ∷ (Mul t3 t3 t1, Plain) ∷
      (Sltiu t1 t1 1, Plain) ∷ (Mul t1 size_register t1, Plain) ∷ (Add t3 t3 t1, Plain) ∷ []

  abbrev group_code : Quiets
  group_code =
      (Addi size_register t3 0, Plain) ∷ (Lw t0 device_register 28, TellsInputs) ∷ (Slli t0 t0 2, Plain) ∷ (Lui t1 (high_part (group_words globals)), Plain) ∷
      (Addi t1 t1 (low_part (group_words globals)), Plain) ∷ (Add node_register t0 t1, Plain) ∷ (Addi frames_register node_register 32, Plain) ∷
      (Lui t0 0x18400, Plain) ∷ (Add t0 t0 node_register, Plain) ∷ (Srli t0 t0 3, Plain) ∷ (Slli blocks_register t0 2, Plain) ∷ []

  lines_behind : LinesAt image bound (base + 11) telling_lines × LinesAt image bound (base + 13) size_lines × LinesAt image bound (base + 21) (parting_lines globals)
  lines_behind =
      let behind : LinesAt image bound (base + 11) rest_lines = (lines_split image bound base meet_lines rest_lines shared.lines).1 in
      let telling = lines_split image bound (base + 11) telling_lines (size_lines ++ parting_lines globals) behind in
      let e : base + 11 + 2 ≡ base + 13 = omega arith in
      let rest = lines_split image bound (base + 13) size_lines (parting_lines globals) (subst (λ k. LinesAt image bound k (size_lines ++ parting_lines globals)) e telling.1) in
      let f : base + 13 + 8 ≡ base + 21 = omega arith in
      (telling.0, rest.0, subst (λ k. LinesAt image bound k (parting_lines globals)) f rest.1)

  -- ---- what the lines of the block make of a hart

  some : 0 < op.depth
  some = let filled = place.values in omega arith

  abbrev loaded : Hart → Hart
  loaded h = writes h t3 (value_found op.depth h)

  abbrev linked : Hart → Hart
  linked h = jumps (loaded h) 1 (4 * base)

  abbrev coming : Hart → Hart
  coming h = writes (linked h) 7 (word_sum ((linked h).registers node_register) (4 * closing_word))

  abbrev there : Polling
  there = record { at = base + 11; changes = λ r. (r == 5) || (r == 6) }

  gathering_is : IsMeeting gathering
  gathering_is = record { arrivals_t0 = λ e. omega arith; arrivals_t1 = λ e. omega arith; size_t0 = λ e. omega arith; size_t1 = λ e. omega arith }

  module _ (setting : Setting) (t : MachineSetting) (mine : Words) (m : Member) (p : Owner) (owns : OwnsHeader mine root_words) (en : Enters core image places setting t i op Begin p m.hart)
      (member : IsMember places nestings setting (Some setting.processors) root_words m p) (root : IsInRoot nestings setting p) where
    abbrev first : Hart
    first = coming m.hart

    ready : IsReadyToMeet gathering (root_words + closing_word) setting.processors first
    ready =
        let e = member.node.node ∙ ap control_address member.words in
        record {
          live = en.at.live;
          nought = en.at.stands.nought;
          within = omega arith;
          arrivals = omega arith;
          size = en.at.stands.size ∙ root.level.size;
        }

    abbrev Left : Hart → Type 0
    Left h = Polls there first h

    left : (h : Hart) → HasLeft gathering image (suc base) setting.processors first h → Left h
    left h has =
        let at = has.at in
        kept_at gathering first h (base + 11) en.at.live has.keeps (omega arith)

    comes : (d : ℕ) × (d ≤ 9) × MeetsUntil image (root_words + closing_word) setting.processors 0 Left t (Coming d) m
    comes =
        let k = places.block i in
        let number = m.number in
        let h = m.hart in
        let block = place.block.lines in
        let near = block.1.0.within in
        let within = lines_of_meeting.0.within in
        let pc : h.pc ≡ 4 * k = en.at.at ∙ ap (λ j. 4 * places.block j) en.index in
        let v = is_value core image bound places nestings i op Begin place setting t p h h some en refl in
        let load : (s : _) → _ = can_run_goes (operand t3 op.depth) (LocalAt (value_word op.depth h)) h (v.within, v.address) t number in
        let cycle1 = later t in
        let cycle2 = later cycle1 in
        let cycle3 = later cycle2 in
        let has : HasMeeting gathering image bound (suc base) = record { fits = gathering_is; lines = lines_of_meeting.1 } in
        let arrives = harts_arrive gathering image bound (suc base) (root_words + closing_word) setting.processors number cycle3 first has en.running.code ready (omega arith) in
        let d = arrives.0 in
        let most = arrives.2 in
        let even = arrives.3.0 in (
          suc (suc (suc d)),
          omega arith,
          record {
            polling = record { at = suc base + 7; changes = λ r. (r == 5) || (r == 6) };
            first = first;
            code = en.running.code;
            polls = keeps_polling gathering image bound (suc base) (root_words + closing_word) setting.processors number first has ready Left left;
            stands =
                on_its_way gathering image bound (suc base) (root_words + closing_word) setting.processors number first has ready Left left t (suc (suc (suc d))) h en.running.code (
                  omega arith,
                  (
                    arrives.3.1.0,
                    (
                      loaded h,
                      private image t number k (operand t3 op.depth) h (loaded h) en.running.code block.0 pc en.at.live load,
                      (
                        linked h,
                        jal_private image bound cycle1 number (suc k) 1 start_label (loaded h) en.running.code block.1.0 (place.block.labels.within start_label) (omega arith) en.at.live,
                        (
                          first,
                          private image cycle2 number base (Addi t2 node_register (4 * closing_word)) (linked h) first en.running.code lines_of_meeting.0 refl en.at.live (λ s. (s.reserved, addi cycle2 number 7 10 (4 * closing_word) (linked h) s)),
                          arrives.3.1.1,
                        ),
                      ),
                    ),
                    arrives.3.1.2,
                  ),
                );
          },
        )

  -- ---- members that have met

  module _ (setting : Setting) (cycle0 : MachineSetting) (mine : Words) (lowest : ℕ) (owns : OwnsHeader mine root_words) (running : IsRunning image setting cycle0) where
    abbrev Met : Member → Owner → Type 0
    Met m p = HasMet core image places nestings i op there coming setting m p

    value_is : (m : Member) (p : Owner) → Met m p → m.hart.registers t3 ≡ last (values p.runner.has)
    value_is m p met =
        met.met.others 28 refl ∙ is_last core image bound places nestings i op Begin place setting met.cycle p met.first some met.enters

    at_agreed : (m : Member) (p : Owner) → Met m p → IsOwnWord mine (word_sum (m.hart.registers node_register) 8) (root_words + agreed_word)
    at_agreed m p met =
        own_word mine root_words agreed_word (m.hart.registers node_register) owns (omega arith)
        (met.met.others node_register refl ∙ met.member.node.node ∙ ap control_address met.member.words)

    -- one that has stored its value, and one that knows what is agreed
    record Stored (m : Member) (p : Owner) : Type 0 where
      pub hart : Hart
      pub met : Met (record m { hart = hart }) p
      pub is : m.hart ≡ onward hart

    record Knows (v : ℕ) (m : Member) (p : Owner) : Type 0 where
      pub hart : Hart
      pub met : Met (record m { hart = hart }) p
      pub is : m.hart ≡ onward_with 28 v (onward hart)

    stores : (m : Member) (p : Owner) → Met m p → Stored (record m { hart = onward m.hart }) p
    stores m p met = record { hart = m.hart; met = met; is = refl }

    tells : (v x : ℕ) → x ≡ v → (m : Member) (p : Owner) → Stored m p → Knows v (record m { hart = onward_with 28 x m.hart }) p
    tells v x e m p s = record { hart = s.hart; met = s.met; is = ap (λ y. onward_with 28 y m.hart) e ∙ ap (onward_with 28 v) s.is }

    still_at_agreed : (m : Member) (p : Owner) → Stored m p → IsOwnWord mine (word_sum (m.hart.registers node_register) 8) (root_words + agreed_word)
    still_at_agreed m p s = subst (λ h. IsOwnWord mine (word_sum (h.registers node_register) 8) (root_words + agreed_word)) (sym s.is) (at_agreed (record m { hart = s.hart }) p s.met)

    -- ---- each to its part

    module _ (v : ℕ) (m : Member) (p : Owner) (knows : Knows v m p) where
      abbrev t : MachineSetting
      t = later (later cycle0)

      abbrev met : Met (record m { hart = knows.hart }) p
      met = knows.met

      -- behind its commit; and where the size is known
      abbrev told_hart : Hart
      told_hart = onward_with 28 v (onward knows.hart)

      abbrev sized_hart : Hart
      sized_hart = walk (told_of t m.number) size_code told_hart

      told_pc : told_hart.pc ≡ 4 * (base + 13)
      told_pc =
          let at = met.met.at in
          let within = lines_behind.0.1.0.within in
          omega arith

      sizes : RunsPrivately image t m.number 8 told_hart sized_hart × (sized_hart.pc ≡ 4 * (base + 21)) × (sized_hart.ended ≡ false)
      sizes =
          let w = walked image bound t m.number running.code size_code (base + 13) told_hart lines_behind.1 told_pc met.met.live (tt, (tt, (tt, (tt, (tt, (tt, (tt, (tt, tt)))))))) in
          let pc = w.pc in
          (w.runs, omega arith, w.live)

      size_known : sized_hart.registers t3 ≡ size_of_start setting v
      size_known =
          let e : knows.hart.registers size_register ≡ setting.processors = met.met.others size_register refl ∙ met.enters.at.stands.size ∙ met.root.level.size in
          ap (sized v) e ∙ sized_is v setting.processors running.few

      goes_on : nat_lt (sized_hart.registers rank_register) (sized_hart.registers t3) ≡ is_taken v p.runner.has
      goes_on =
          let e : knows.hart.registers rank_register ≡ number_of p = met.met.others rank_register refl ∙ met.enters.at.stands.rank ∙ met.root.level.rank in
          ap (λ n. nat_lt n (sized_hart.registers t3)) e ∙ ap (nat_lt (number_of p)) size_known ∙ below_lesser (number_of p) (not_negative v) setting.processors met.enters.number

      link : knows.hart.registers ra ≡ 4 * (places.block i + 2)
      link =
          let within = place.block.lines.1.0.within in
          let e = met.met.others 1 refl in
          let pc : met.first.pc ≡ 4 * places.block i = met.enters.at.at ∙ ap (λ j. 4 * places.block j) met.enters.index in
          omega arith

      same : SameRegisters met.first sized_hart
      same = (
        met.met.others zero_register refl,
        met.met.others frame_register refl,
        met.met.others end_register refl,
        met.met.others number_register refl,
        met.met.others rank_register refl,
        met.met.others size_register refl,
        met.met.others local_register refl,
        met.met.others shared_register refl,
        met.met.others heap_register refl,
        met.met.others shared_mask_register refl,
        met.met.others device_register refl,
        met.met.others heap_mask_register refl,
        met.met.others group_frame_register refl,
      )

      abbrev others_values : List ℕ
      others_values = before 1 (values p.runner.has)

      -- where its processor, which has dropped its last value, goes on at an index
      behind_at : (j : ℕ) → LevelsStay nestings i j → (onward : Bool) → (follows core Begin i op.target [] onward).at ≡ j
          → StandsAt places (with_list core places j others_values p) (goes_to_pc sized_hart (4 * places.block j))
          × HasNestings places nestings setting.processors (number_of p) knows.hart.local j p.runner.left.callers p.runner.has.callers p.runner.has.outer
      behind_at j stay onward e =
          let flows = subst (λ a. Flows core places.frames nothing i a) e (place.fits.goes_on onward) in
          goes_behind_with core image bound places nestings i op Begin place j flows stay setting met.cycle (Some setting.processors) root_words others_values (record m { hart = met.first }) p
          (goes_to_pc sized_hart (4 * places.block j)) met.enters met.member (values_before 1 (value_in met.first (length p.runner.has.callers)) (values p.runner.has) met.enters.at.stands.running.values)
          met.met.live met.met.local same (met.met.others top_register refl) refl

      -- ---- one that isn't below the size

      abbrev back_hart : Hart
      back_hart = jumps (moves sized_hart) 0 (4 * (places.block i + 2))

      abbrev waiting_hart : Hart
      waiting_hart = jumps back_hart zero_register (4 * bound (label_of op.target))

      goes_back : is_taken v p.runner.has ≡ false → RunsPrivately image t m.number 11 told_hart waiting_hart
      goes_back e =
          let parting = lines_behind.2 in
          let near = parting.1.0.within in
          let within = place.block.lines.1.1.0.within in
          let cycle1 = in_cycles 8 t in
          let cycle2 = later cycle1 in
          let cycle3 = later cycle2 in
          let pc = sizes.1 in
          let to = link in
          let aligned : 4 * (places.block i + 2) % 4 ≡ 0 = omega arith in
          let target : word_sum (knows.hart.registers ra) 0 / 2 * 2 ≡ 4 * (places.block i + 2) = omega arith in
          let here : back_hart.pc ≡ 4 * suc (suc (places.block i)) = omega arith in
          runs_join image t m.number 8 3 told_hart sized_hart waiting_hart sizes.0 (
            moves sized_hart,
            private image cycle1 m.number (base + 21) (Bltu rank_register t3 8) sized_hart (moves sized_hart) running.code parting.0 pc sizes.2
                (λ s. (s.reserved, bltu-passed cycle1 m.number 19 28 8 sized_hart s (goes_on ∙ e))),
            (
              back_hart,
              private image cycle2 m.number (suc (base + 21)) (Jalr zero_register ra 0) (moves sized_hart) back_hart running.code parting.1.0 (omega arith) sizes.2
                  (λ s. (s.reserved, jalr_goes cycle2 m.number 0 1 0 (4 * (places.block i + 2)) (moves sized_hart) s target aligned)),
              (
                waiting_hart,
                jal_private image bound cycle3 m.number (suc (suc (places.block i))) 0 (label_of op.target) back_hart running.code place.block.lines.1.1.0 (place.block.labels.within (label_of op.target)) here sizes.2,
                refl,
              ),
            ),
          )

      waits : IsMember places nestings setting (Some setting.processors) (first_word p.runner.has.level p.runner.has.outer) (record m { hart = waiting_hart }) (with_list core places op.target others_values p)
      waits =
          let next = behind_at op.target leads false refl in
          record {
            number = met.member.number;
            at = record {
              live = next.0.live;
              at = ap (λ k. 4 * k) (place.block.labels.blocks op.target);
              stands = stands_anywhere places (with_list core places op.target others_values p) (goes_to_pc sized_hart (4 * places.block op.target)) (4 * bound (label_of op.target)) next.0.stands;
            };
            node = record {
              node = met.met.others node_register refl ∙ met.member.node.node;
              body = met.met.others body_register refl ∙ met.member.node.body;
              space = space_kept p.runner.has.level p.runner.has.outer met.first waiting_hart (met.met.others frames_register refl) (met.met.others blocks_register refl) met.member.node.space;
              outer = next.1;
            };
            words = refl;
          }

      -- ---- one that goes into the group

      abbrev part_hart : Hart
      part_hart = goes_to_pc sized_hart (word_sum sized_hart.pc 8)

      abbrev told_part : Hart
      told_part = walk (told_of (later (in_cycles 8 t)) m.number) group_code part_hart

      abbrev body_hart : Hart
      body_hart = jumps told_part zero_register (4 * (places.block i + 3))

      goes_in : is_taken v p.runner.has ≡ true → RunsPrivately image t m.number 21 told_hart body_hart
      goes_in e =
          let parting = lines_behind.2 in
          let tail = lines_split image bound (suc (suc (base + 21))) (quiet_lines group_code) (quiet (Jalr zero_register ra 4) ∷ []) parting.1.1 in
          let near = tail.0.0.within in
          let last_near = tail.1.0.within in
          let within = place.block.lines.1.1.0.within in
          let cycle1 = in_cycles 8 t in
          let cycle2 = later cycle1 in
          let pc = sizes.1 in
          let to = link in
          let devices : knows.hart.registers device_register ≡ 0x30000000 = met.met.others device_register refl ∙ met.enters.at.stands.devices in
          let part_pc : part_hart.pc ≡ 4 * suc (suc (base + 21)) = omega arith in
          let w = walked image bound cycle2 m.number running.code group_code (suc (suc (base + 21))) part_hart tail.0 part_pc sizes.2 (tt, (ap (λ a. word_sum a 28) devices, (tt, (tt, (tt, (tt, (tt, (tt, (tt, (tt, (tt, tt))))))))))) in
          let aligned : 4 * (places.block i + 3) % 4 ≡ 0 = omega arith in
          let target : word_sum (knows.hart.registers ra) 4 / 2 * 2 ≡ 4 * (places.block i + 3) = omega arith in
          let k = suc (suc (base + 21)) + 11 in
          runs_join image t m.number 8 13 told_hart sized_hart body_hart sizes.0 (
            part_hart,
            private image cycle1 m.number (base + 21) (Bltu rank_register t3 8) sized_hart part_hart running.code parting.0 pc sizes.2
                (λ s. (s.reserved, bltu-taken cycle1 m.number 19 28 8 sized_hart s (goes_on ∙ e) (omega arith))),
            runs_join image cycle2 m.number 11 1 part_hart told_part body_hart w.runs (
              body_hart,
              private image (in_cycles 11 cycle2) m.number k (Jalr zero_register ra 4) told_part body_hart running.code tail.1.0 w.pc w.live
                  (λ s. (s.reserved, jalr_goes (in_cycles 11 cycle2) m.number 0 1 4 (4 * (places.block i + 3)) told_part s target aligned)),
              refl,
            ),
          )

      -- its processor in the group
      abbrev grouped : Owner
      grouped = record {
        runner = record {
          left = position (suc i) p.runner.left.callers;
          has = enter_level (start_level p.runner.has (size_of_start setting v)) (drop_last 1 p.runner.has);
        };
        heap = p.heap;
      }

      group_words_is : body_hart.registers node_register ≡ control_address p.runner.has.level.space.low
      group_words_is =
          let few = shared.few in
          let few_inputs = running.few_inputs in
          let inputs = running.inputs in
          let words = running.globals in
          let parts = number_of_parts (group_words globals) in
          let low = ap (λ (s : _). s.low) met.root.space in
          omega arith

      -- the space of the group, which is whole
      group_frames_is : body_hart.registers frames_register ≡ control_address p.runner.has.level.space.frames
      group_frames_is =
          let words = group_words_is in
          let low = ap (λ (s : _). s.low) met.root.space in
          let frames = ap (λ (s : _). s.frames) met.root.space in
          let few = shared.few in
          let few_inputs = running.few_inputs in
          let inputs = running.inputs in
          let globals_is = running.globals in
          ap (λ a. word_sum a 32) words ∙ omega arith

      group_blocks_is : body_hart.registers blocks_register ≡ control_address p.runner.has.level.space.blocks
      group_blocks_is =
          let words = group_words_is in
          let low = ap (λ (s : _). s.low) met.root.space in
          let blocks = ap (λ (s : _). s.blocks) met.root.space in
          let few = shared.few in
          let few_inputs = running.few_inputs in
          let inputs = running.inputs in
          let globals_is = running.globals in
          let within : p.runner.has.level.space.low ≤ 2 ^ 20 = omega arith in
          ap halfway words ∙ halfway_is p.runner.has.level.space.low within ∙ ap control_address (ap (λ n. n + (2 ^ 20 - n) / 2) low ∙ sym blocks)

      is_in_group : IsMember places nestings setting None (first_word grouped.runner.has.level grouped.runner.has.outer) (record m { hart = body_hart }) grouped
      is_in_group =
          let next = behind_at (suc i) place.stay true refl in
          let s = next.0.stands in
          let behind = place.block.next in
          let known = size_known in
          let few = running.few in
          let least = min-le_right (not_negative v) setting.processors in
          let indices = suc i ∷ p.runner.left.callers in
          let none : NoneSaved nestings indices = (place.stay.levels ∙ ap nestings.levels (sym met.enters.index) ∙ met.root.none.0, met.root.none.1) in
          let outer = subst (λ o. HasOuter places nestings setting.processors (number_of p) knows.hart.local indices o) met.root.outer next.1.0 in
          record {
            number = met.member.number;
            at = record {
              live = next.0.live;
              at = ap (λ k. 4 * k) (sym behind);
              stands = record {
                nought = s.nought;
                frame = s.frame;
                behind = s.behind;
                number = s.number ∙ met.root.level.number;
                rank = s.rank ∙ met.root.level.rank;
                size = omega arith;
                top = s.top;
                local = s.local;
                shared_data = s.shared_data;
                private_heap = s.private_heap;
                shared_mask = s.shared_mask;
                devices = s.devices;
                heap_mask = s.heap_mask;
                running = s.running;
                waiting = s.waiting;
                groups = s.groups;
                own = s.own;
                heap = s.heap;
                full = s.full;
              };
            };
            node = record {
              node = group_words_is;
              body = tt;
              space = (group_frames_is, group_blocks_is);
              outer = (
                subst (λ o. HasOuter places nestings setting.processors (number_of p) knows.hart.local indices (p.runner.has.level ∷ o)) (sym met.root.outer)
                    (under_root places nestings setting.processors (number_of p) knows.hart.local indices p.runner.has.level met.root.level none outer),
                next.1.1,
              );
            };
            words = refl;
          }

      -- ---- by its way

      -- its processor behind the step
      abbrev went : (taken : Bool) → Owner
      went taken = record {
        runner = record {
          left = follows core Begin i op.target p.runner.left.callers taken;
          has = if taken then enter_level (start_level p.runner.has (size_of_start setting v)) (drop_last 1 p.runner.has) else drop_last 1 p.runner.has;
        };
        heap = p.heap;
      }

      abbrev steps_behind : (onward : Bool) → ℕ
      steps_behind onward = if onward then 21 else 11

      part_of : (hart : Hart) (taken : Bool) → is_taken v p.runner.has ≡ taken → RunsPrivately image t m.number (steps_behind taken) told_hart hart
          → IsMember places nestings setting (runs_behind_start setting taken) (first_word (went taken).runner.has.level (went taken).runner.has.outer) (record m { hart = hart }) (went taken)
          → ComesByWay core image places nestings i op Begin setting t steps_behind (λ p. runs_behind_start setting (is_taken v p.runner.has)) v lowest (λ p. size_of_start setting v) m p
      part_of hart taken e runs member = record {
        hart = hart;
        runs = subst (λ h. RunsPrivately image t m.number (steps_behind (is_taken v p.runner.has)) h hart) (sym knows.is)
            (subst (λ b. RunsPrivately image t m.number (steps_behind b) told_hart hart) (sym e) runs);
        member =
            subst (λ b. IsMember places nestings setting (runs_behind_start setting b) (first_word (went b).runner.has.level (went b).runner.has.outer) (record m { hart = hart }) (went b)) (sym e) member;
      }

      by_way : (taken : Bool) → is_taken v p.runner.has ≡ taken
          → ComesByWay core image places nestings i op Begin setting t steps_behind (λ p. runs_behind_start setting (is_taken v p.runner.has)) v lowest (λ p. size_of_start setting v) m p
      by_way true e = part_of body_hart true e (goes_in e) is_in_group
      by_way false e = part_of waiting_hart false e (goes_back e) waits

    -- ---- all of them

    abbrev AllCome : ℕ → List Member → List Owner → Type 0
    AllCome v ms ps =
        AllComeByWay core image places nestings i op Begin setting (later (later cycle0)) (λ onward. if onward then 21 else 11) (λ p. runs_behind_start setting (is_taken v p.runner.has)) v lowest
        (λ p. size_of_start setting v) ms ps

    all_come : (v : ℕ) (ms : List Member) (ps : List Owner) → Both (Knows v) ms ps → AllCome v ms ps
    all_come v [] [] all = tt
    all_come v (m ∷ ms) (p ∷ ps) all = (by_way v m p all.0 (is_taken v p.runner.has) refl, all_come v ms ps all.1)
    all_come v ms ps all = absurd (assumption all)

    all_met : (ms : List Member) (ps : List Owner) → AllHaveMet core image places nestings i op there coming setting ms ps → Both Met ms ps
    all_met [] [] all = tt
    all_met (m ∷ ms) (p ∷ ps) all = (all.0, all_met ms ps all.1)
    all_met ms ps all = absurd (assumption all)

    due_here : (m : Member) (p : Owner) → Stored m p → (has_room Begin p.runner.has ≡ true) × (p.runner.left.at ≡ i)
    due_here m p s = (refl, s.met.enters.index)

    abbrev tops : List Owner → List ℕ
    tops ps = map (λ p. last (values p.runner.has)) ps

    record HaveStored (ps : List Owner) (before : Memory) (ms : List Member) (own : Memory) : Type 0 where
      pub stand : AllAreAt (suc (base + 11)) ms
      pub stored : Both Stored ms ps
      pub agreed : own (root_words + agreed_word) ≡ last_or (before (root_words + agreed_word)) (tops ps)
      pub others : (j : ℕ) → (j ≡ root_words + agreed_word → ⊥) → own j ≡ before j

    store_cycle : (ms : List Member) (ps : List Owner) (own : Memory) → Both Met ms ps → NodeCycle image mine cycle0 0 ms own (λ ms' own'. HaveStored ps own ms' own')
    store_cycle ms ps own all =
        let k = base + 11 in
        let w = root_words + agreed_word in
        cycle_map image mine cycle0 0 ms own
        (λ ms' own'. (ms' ≡ on_each (λ m. onward m.hart) ms) × ((j : ℕ) → own' j ≡ last_or (own j) (values_for (λ m. w) 28 j ms)) × AllAreAt (suc k) ms')
        (λ ms' own'. HaveStored ps own ms' own')
        (λ ms' own' x. record {
          stand = x.2;
          stored = subst (λ l. Both Stored l ps) (sym x.0) (each_on Met Stored (λ m. onward m.hart) ms ps stores all);
          agreed = x.1 w ∙ ap (last_or (own w)) (values_of Met 28 w (λ p. last (values p.runner.has)) ms ps value_is all);
          others = λ j ne. x.1 j ∙ ap (last_or (own j)) (no_values 28 w j ms ne);
        })
        (stores_of_all image mine cycle0 k 0 10 28 8 (λ m. w) ms own running.code lines_behind.0.0 (all_stand k Met ms ps (λ m p met. (met.met.at, met.met.live)) all)
        (all_at_own Met mine (λ h. word_sum (h.registers node_register) 8) w ms ps at_agreed all))

    abbrev Behind : List Owner → Memory → List Member → Memory → Type 0
    Behind ps own ms' own' = HaveStarted core image places nestings i op setting (later (later cycle0)) (λ onward. if onward then 21 else 11) lowest ps own ms' own'

    commit_cycle : (ms : List Member) (ps : List Owner) (before own : Memory) → HaveStored ps before ms own → NodeCycle image mine (later cycle0) 1 ms own (λ ms' own'. Behind ps before ms' own')
    commit_cycle ms ps before own has =
        let w = root_words + agreed_word in
        let v = last_or (before w) (tops ps) in
        let h : Member → Hart = λ m. onward_with 28 (own w) m.hart in
        cycle_map image mine (later cycle0) 1 ms own (λ ms' own'. (ms' ≡ on_each h ms) × (own' ≡ own) × AllAreAt (suc (suc (base + 11))) ms') (λ ms' own'. Behind ps before ms' own')
        (λ ms' own' x. record {
          parts =
              all_come (highest_value ps) ms' ps
              (told_highest Knows (before w) ms' ps (subst (λ l. Both (Knows v) l ps) (sym x.0) (each_on Stored (Knows v) h ms ps (tells v (own w) has.agreed) has.stored)));
          others = λ j ne. ap (λ o. o j) x.1 ∙ has.others j ne;
        })
        (loads_of_all image mine (later cycle0) (suc (base + 11)) 1 28 10 8 (λ m. w) ms own running.code lines_behind.0.1.0 has.stand
        (all_at_own Stored mine (λ h. word_sum (h.registers node_register) 8) w ms ps still_at_agreed has.stored))

    together : (ms : List Member) (ps : List Owner) (own : Memory) → Both Met ms ps
        → Together (core_source core setting) image mine cycle0 1 1 ms ps own (λ ms' ds own'. (ds ≡ map (is_due core i op Begin) ps) × Behind ps own ms' own')
    together ms ps own all =
        let source = core_source core setting in
        let cycle1 = later cycle0 in
        cycle_map image mine cycle0 0 ms own (λ ms' own'. HaveStored ps own ms' own')
        (λ ms' own'. Commits source image mine cycle1 1 ms' ps own' (λ ms'' ds own''. (ds ≡ map (is_due core i op Begin) ps) × Behind ps own ms'' own''))
        (λ ms' own' has.
        cycle_commits source image mine cycle1 1 ms' ps (map (is_due core i op Begin) ps) own' (λ ms'' own''. Behind ps own ms'' own'')
        owns.apart
        (all_due core setting i op Begin Stored ms' ps place.stands refl due_here has.stored)
        (commit_cycle ms' ps own own' has))
        (store_cycle ms ps own all)

pub groups_start : GroupsStart
groups_start core image bound places nestings i op shared place leads = record {
  meets = λ setting t mine m p owns en member root. comes core image bound places nestings i op shared place leads setting t mine m p owns en member root;
  starts = λ setting t mine lowest ms ps own owns running all.
      together core image bound places nestings i op shared place leads setting t mine lowest owns running ms ps own
      (all_met core image bound places nestings i op shared place leads setting t mine lowest owns running ms ps all);
}
