-- The end of a part of a `fork`.
use Rattle.std.proofs.Common.{◌≡◌, ℕ, zero, suc, ◌+◌, ◌-◌, ◌*◌, ◌<◌, List, [], ◌∷◌, ◌++◌, length, map, Bool, true, false, Some, None, sym, ap, subst, ◌∙◌, arith, refl, eq-eqb}
use Rattle.std.specs.Prelude.{◌==◌, if◌then◌else◌}
use Rattle.std.proofs.lemmas.Bool.{ne_eqb, eqb-true}
use Rattle.std.proofs.lemmas.Nat.{and_mask}
use Rattle.fk_num.specs.Word.{Memory, word_sum}
use Rattle.fk_num.specs.Op.{applied}
use Rattle.fk_num.specs.declared.operator.Op.TheVariants as num
use Rattle.fk_meaning_operation.specs.declared.operation.Operation.TheVariants.{End}
use Rattle.fk_meaning.specs.Processor.{Level, Setting, values, with_values, to_outer}
use Rattle.fk_meaning.specs.Group.{has_room}
use Rattle.fk_core.specs.declared.op.CoreOp.{CoreOp}
use Rattle.fk_core.specs.Next.{position}
use Rattle.fk_image.specs.declared.Image.{Image}
use Rattle.fk_isa.specs.declared.instruction.Instruction.TheVariants.{Lui, Lw, Addi, Andi, Srli, Add}
use Rattle.fk_asm.specs.Block.{MarkedLine}
use Rattle.fk_machine.specs.Hart.{Hart, Shared, Setting as MachineSetting}
use Rattle.fk_machine.specs.Step.{perform}
use Rattle.fk_machine.proofs.Performs.{writes}
use Rattle.fk_sim_nodes.specs.Node.{Member, Words}
use Rattle.fk_sim_nodes.specs.Alone.{Holds, GoesAlone, RunsPrivately, later, in_cycles}
use Rattle.fk_sim_nodes.specs.Together.{Together}
use Rattle.fk_sim_nodes.specs.OnePlace.{on_each}
use Rattle.fk_sim_nodes.proofs.Runs.{cycle_map}
use Rattle.fk_sim_nodes.proofs.Members.{cycle_commits, together_map}
use Rattle.fk_sim_nodes.proofs.OnePlace.{private_of_all}
use Rattle.fk_sim_block.specs.Owner.{Owner, number_of, core_source}
use Rattle.fk_sim_block.specs.Stands.{Places, StandsFor, FrameInMemory, HasWaiting, HaveGroupFrames, full_word, frame_start, local_address, frame_register, end_register, number_register, rank_register, size_register, group_frame_register}
use Rattle.fk_sim_block.specs.Block.{Enters}
use Rattle.fk_sim_block.specs.Node.{Nestings, OwnsHeader, HasOuter, HasLevelBy, HasForked, HasFramesEnd, first_word, saved_at, frames_word, control_address, node_register, frames_register, blocks_register}
use Rattle.fk_sim_block.specs.Lockstep.{IsMember, AllEnter, AllComeByWay, LevelOpens, highest_value, is_due}
use Rattle.fk_sim_block.specs.Parts.{IsInPart, AreInPart, AllMove, EndsPart, size_behind}
use Rattle.fk_gen.specs.Registers.{t0}
use Rattle.fk_gen.specs.Lines.{quiet, at_private, at_value, label_of, high_part, low_part, add_by}
use Rattle.fk_gen.specs.InPlace.{LinesAt}
use Rattle.fk_gen.proofs.Values.{value_place, number_of_parts, number_of_low_part, sum_of_low, sum_of_parts}
use Rattle.fk_gen.proofs.Walk.{Quiets, Plain, LocalAt, CanWalk, Told, quiet_lines, walk, told_of, walked, lines_split, runs_join, can_run_goes}
use Rattle.fk_gen.proofs.Jumps.{jumps, jal_private}
use Rattle.fk_gen.proofs.Does.{quiet_length, holds_in_cycles}
use Rattle.fk_gen.proofs.Standing.{in_memory, stands_with, with_list, nothing_written}
use Rattle.fk_gen_group.specs.Splits.{end_part_block, end_part_by, end_part_takes, frames_end, header_frames, found_line, forked_front, away_line, out_of_fork, last_level}
use Rattle.fk_gen_group.specs.Blocks.{end_block}
use Rattle.fk_gen_group.specs.Laws.{IsInPlace, levels_at, last_fork}
use Rattle.fk_gen_group.proofs.Levels.{many_callers}
use Rattle.fk_gen_group.proofs.Last.{value_word}
use Rattle.fk_gen_group.proofs.Members.{Both, all_stand, at_block, each_standing, all_alone, all_due}
use Rattle.fk_gen_group.proofs.Slots.{IsSlot, slot_of, is_slot, last_level_of, knows}

-- the lines that find where the frames of the group end: at the first level of a call, or by a number
abbrev ends_by : (first short : Bool) → (number : ℕ) → Hart → Quiets
ends_by true short number h = (Lw frames_register end_register (at_value 60), LocalAt (value_word 60 h)) ∷ []
ends_by false true number h = (Addi t0 node_register (low_part number), Plain) ∷ (Addi frames_register t0 0, Plain) ∷ []
ends_by false false number h =
    (Lui t0 (high_part number), Plain) ∷ (Addi t0 t0 (low_part number), Plain) ∷ (Add t0 t0 node_register, Plain) ∷ (Addi frames_register t0 0, Plain) ∷ []

abbrev lines_by : (first short : Bool) → (number : ℕ) → List MarkedLine
lines_by first short number =
    if first then header_frames else map quiet (add_by short number node_register) ++ found_line

ends_lines : (first short : Bool) (number : ℕ) (h : Hart) → quiet_lines (ends_by first short number h) ≡ lines_by first short number
ends_lines true short number h = refl
ends_lines false true number h = refl
ends_lines false false number h = refl

many_ends : (first short : Bool) (number : ℕ) (h : Hart) → length (ends_by first short number h) ≡ length (lines_by first short number)
many_ends true short number h = refl
many_ends false true number h = refl
many_ends false false number h = refl

both_ways : (b : Bool) → b ≡ true → b ≡ false → ⊥
both_ways b e f = absurd (cc)

-- what they leave of a hart
record KeepsAll (g h : Hart) : Type 0 where
  pub live : h.ended ≡ g.ended
  pub local : h.local ≡ g.local
  pub others : (r : ℕ) → (r == 5) ≡ false → (r == 12) ≡ false → h.registers r ≡ g.registers r

ends_keep : (told : Told) (first short : Bool) (number : ℕ) (h g : Hart) → KeepsAll g (walk told (ends_by first short number h) g)
ends_keep told true short number h g = record { live = refl; local = refl; others = λ r a b. rw b }
ends_keep told false true number h g = record { live = refl; local = refl; others = λ r a b. rw (b, a) }
ends_keep told false false number h g = record { live = refl; local = refl; others = λ r a b. rw (b, a) }

module _ (core : List CoreOp) (image : Image) (bound : ℕ → ℕ) (places : Places) (nestings : Nestings) (i : ℕ) (op : CoreOp) (place : IsInPlace core image bound places nestings i op End)
    (opens : LevelOpens nestings op.target i) (words : ℕ) (forked : last_fork nestings i ≡ Some words) (first short : Bool) (first_is : (nestings.levels i == 1) ≡ first)
    (short_is : (high_part (32 + 4 * words) == 0) ≡ short)
    (lines : LinesAt image bound (places.block i) (forked_front (last_level (levels_at nestings i)) ++ (lines_by first short (32 + 4 * words) ++ away_line op.target)))
    (setting : Setting) (cycle0 : MachineSetting) (mine : Words) (begin : ℕ) (owns : OwnsHeader mine begin) where
  record Came (m : Member) (p : Owner) : Type 0 where
    pub enters : Enters core image places setting cycle0 i op End p m.hart
    pub member : IsMember places nestings setting None begin m p
    pub part : IsInPart nestings p

  abbrev out : ℕ
  out = nestings.behind i + 4 * (nestings.levels i - 1)

  abbrev number : ℕ
  number = 32 + 4 * words

  abbrev committed : Hart → Hart
  committed h = writes h size_register (h.local (slot_of out h))

  abbrev front : Hart → Quiets
  front h =
      (Srli number_register size_register 11, Plain) ∷ (Andi size_register size_register 2047, Plain) ∷
      (Lw node_register frame_register (at_private (out + 1)), LocalAt (slot_of (out + 1) h)) ∷
      (Lw blocks_register frame_register (at_private (out + 2)), LocalAt (slot_of (out + 2) h)) ∷
      (Lw rank_register frame_register (at_private (out + 3)), LocalAt (slot_of (out + 3) h)) ∷ []

  abbrev fronted : Told → Hart → Hart
  fronted told h = walk told (front h) (committed h)

  abbrev ended_hart : Told → Hart → Hart
  ended_hart told h = walk told (ends_by first short number h) (fronted told h)

  abbrev gone : Told → Hart → Hart
  gone told h = jumps (ended_hart told h) 0 (4 * bound (label_of op.target))

  -- the processor in the group around the part, with these values
  abbrev left_on : List Level → List ℕ → Owner → Owner
  left_on outer vs p = record {
    runner = record { left = position op.target p.runner.left.callers; has = to_outer (with_values p.runner.has vs) outer };
    heap = p.heap;
  }

  abbrev many : ℕ
  many = length (lines_by first short number)

  -- ---- one member

  module _ (m : Member) (p : Owner) (came : Came m p) where
    abbrev n : ℕ
    n = length p.runner.has.callers

    abbrev callers : List ℕ
    callers = p.runner.left.callers

    abbrev en : Enters core image places setting cycle0 i op End p m.hart
    en = came.enters

    abbrev part : IsInPart nestings p
    part = came.part

    slot_at : (k : ℕ) → k < 4 → IsSlot places n (out + k) m.hart
    slot_at k lt =
        let levels = opens.levels in
        let room = place.levels.room in
        is_slot places n (out + k) m.hart place.few en.ready.in_range.waiting (omega arith) en.at.stands.frame

    first_slot : IsSlot places n out m.hart
    first_slot =
        let levels = opens.levels in
        let room = place.levels.room in
        is_slot places n out m.hart place.few en.ready.in_range.waiting (omega arith) en.at.stands.frame

    header_is : (value_word 60 m.hart < 32768) × (word_sum (m.hart.registers end_register) (at_value 60) ≡ local_address (value_word 60 m.hart)) × (value_word 60 m.hart ≡ frames_word n)
    header_is =
        let calls = en.ready.in_range.waiting in
        let at = value_place (m.hart.registers end_register) n 60 en.at.stands.behind calls (omega arith) (omega arith) in
        let lt = at.0 in
        let address = at.1 in
        let index : value_word 60 m.hart ≡ frames_word n = omega arith in
        (omega arith, address ∙ ap local_address (sym index), index)

    can_end : (told : Told) (first' short' : Bool) → CanWalk told (ends_by first' short' number m.hart) (fronted told m.hart)
    can_end told true short' = ((header_is.0, header_is.1), tt)
    can_end told false true = (tt, (tt, tt))
    can_end told false false = (tt, (tt, (tt, (tt, tt))))

    runs : (t : MachineSetting) → Holds image t → (committed m.hart).pc ≡ 4 * suc (places.block i) → RunsPrivately image t m.number (6 + many) (committed m.hart) (gone (told_of t m.number) m.hart)
    runs t holds pc =
        let told = told_of t m.number in
        let k = suc (places.block i) in
        let fronts = quiet_lines (front m.hart) in
        let jump = away_line op.target in
        let one = slot_at 1 (omega arith) in
        let two = slot_at 2 (omega arith) in
        let three = slot_at 3 (omega arith) in
        let a = lines_split image bound k fronts (lines_by first short number ++ jump) lines.1 in
        let w = walked image bound t m.number holds (front m.hart) k (committed m.hart) a.0 pc en.at.live
        (tt, (tt, ((one.within, one.address), ((two.within, two.address), ((three.within, three.address), tt))))) in
        let ends = ends_by first short number m.hart in
        let b = lines_split image bound (k + 5) (quiet_lines ends) jump (subst (λ l. LinesAt image bound (k + 5) (l ++ jump)) (sym (ends_lines first short number m.hart)) a.1) in
        let t5 = in_cycles 5 t in
        let v = walked image bound t5 m.number (holds_in_cycles image 5 t holds) ends (k + 5) (fronted told m.hart) b.0 w.pc w.live (can_end (told_of t5 m.number) first short) in
        let same = many_ends first short number m.hart in
        let long : length (quiet_lines ends) ≡ length ends = quiet_length ends in
        let last = subst (λ c. LinesAt image bound (k + 5 + c) jump) long b.1 in
        let t' = in_cycles (length ends) t5 in
        let there : 5 + (length ends + 1) ≡ 6 + many = omega arith in
        subst (λ c. RunsPrivately image t m.number c (committed m.hart) (gone told m.hart)) there
        (runs_join image t m.number 5 (length ends + 1) (committed m.hart) (fronted told m.hart) (gone told m.hart) w.runs
        (runs_join image t5 m.number (length ends) 1 (fronted told m.hart) (ended_hart told m.hart) (gone told m.hart) v.runs (
          gone told m.hart,
          jal_private image bound t' m.number (k + 5 + length ends) 0 (label_of op.target) (ended_hart told m.hart) (holds_in_cycles image (length ends) t5 (holds_in_cycles image 5 t holds)) last.0
              (place.block.labels.within (label_of op.target)) v.pc v.live,
          refl,
        )))

    -- ---- what it is then

    level : HasForked m.hart.local (frames_word (length callers)) (saved_at places nestings (length callers) i + 4 * nestings.levels op.target) (nestings.levels op.target) words part.around (part.beyond ∷ part.further)
        × HasOuter places nestings setting.processors (number_of p) m.hart.local (op.target ∷ callers) (part.beyond ∷ part.further)
    level =
        let told = last_level_of places nestings setting.processors (number_of p) m.hart.local i op.target callers part.around (part.beyond ∷ part.further) opens
        (subst (λ o. HasOuter places nestings setting.processors (number_of p) m.hart.local (i ∷ callers) o) part.outer
        (subst (λ a. HasOuter places nestings setting.processors (number_of p) m.hart.local (a ∷ callers) p.runner.has.outer) en.index came.member.node.outer.0)) in
        let levels = opens.levels in
        let last : nestings.levels i - 1 ≡ nestings.levels op.target = omega arith in
        let some : nestings.forks i (nestings.levels op.target) ≡ Some words = ap (nestings.forks i) (sym last) ∙ forked in (
          subst (λ f. HasLevelBy f m.hart.local (frames_word (length callers)) (saved_at places nestings (length callers) i + 4 * nestings.levels op.target) (nestings.levels op.target) part.around (part.beyond ∷ part.further)) some told.0,
          told.1,
        )

    word_at : (w k : ℕ) → w ≡ out + k → IsSlot places n w m.hart → m.hart.local (slot_of w m.hart) ≡ m.hart.local (saved_at places nestings (length callers) i + 4 * nestings.levels op.target + k)
    word_at w k e slot =
        let many_are = many_callers places nestings m.hart.local callers p.runner.has.callers en.at.stands.waiting in
        let starts = ap (frame_start places) many_are in
        let levels = opens.levels in
        let index = slot.index in
        let there : slot_of w m.hart ≡ saved_at places nestings (length callers) i + 4 * nestings.levels op.target + k = omega arith in
        ap m.hart.local there

    size_word : m.hart.local (slot_of out m.hart) ≡ part.around.size + 2048 * part.around.number
    size_word =
        let at = saved_at places nestings (length callers) i + 4 * nestings.levels op.target in
        let nought : at + 0 ≡ at = omega arith in
        word_at out 0 (omega arith) first_slot ∙ ap m.hart.local nought ∙ level.0.size

    size_is : applied num.And (m.hart.local (slot_of out m.hart)) 2047 ≡ part.around.size
    size_is =
        let few = level.0.few in
        ap (λ w. applied num.And w 2047) size_word ∙ and_mask (part.around.size + 2048 * part.around.number) 11 ∙ omega arith

    number_is : applied num.ShrU (m.hart.local (slot_of out m.hart)) 11 ≡ part.around.number
    number_is =
        let few = level.0.few in
        ap (λ w. applied num.ShrU w 11) size_word ∙ omega arith

    node_is : m.hart.local (slot_of (out + 1) m.hart) ≡ control_address (first_word part.around (part.beyond ∷ part.further))
    node_is = word_at (out + 1) 1 refl (slot_at 1 (omega arith)) ∙ level.0.node

    blocks_are : m.hart.local (slot_of (out + 2) m.hart) ≡ control_address part.around.space.blocks
    blocks_are = word_at (out + 2) 2 refl (slot_at 2 (omega arith)) ∙ level.0.blocks

    rank_is : m.hart.local (slot_of (out + 3) m.hart) ≡ part.around.rank
    rank_is = word_at (out + 3) 3 refl (slot_at 3 (omega arith)) ∙ level.0.rank

    -- where the frames of the group end, as its first level or a further one tells
    header_tells : (told : Told) (short' : Bool) → nestings.levels op.target ≡ 0 → (walk told (ends_by true short' number m.hart) (fronted told m.hart)).registers frames_register ≡ control_address part.around.space.frames
    header_tells told short' none =
        let many_are = many_callers places nestings m.hart.local callers p.runner.has.callers en.at.stands.waiting in
        let tells = subst (λ c. HasFramesEnd m.hart.local (frames_word (length callers)) c words part.around (part.beyond ∷ part.further)) none level.0.frames in
        ap m.hart.local (header_is.2 ∙ ap frames_word (sym many_are)) ∙ tells

    ends_at : (c : ℕ) → nestings.levels op.target ≡ suc c → control_address part.around.space.frames ≡ control_address (first_word part.around (part.beyond ∷ part.further)) + number
    ends_at c more =
        let tells : part.around.space.frames ≡ first_word part.around (part.beyond ∷ part.further) + 8 + words =
        subst (λ x. HasFramesEnd m.hart.local (frames_word (length callers)) x words part.around (part.beyond ∷ part.further)) more level.0.frames in
        omega arith

    sum_tells : (told : Told) (short' : Bool) → (high_part number == 0) ≡ short' → (c : ℕ) → nestings.levels op.target ≡ suc c
        → (walk told (ends_by false short' number m.hart) (fronted told m.hart)).registers frames_register ≡ control_address part.around.space.frames
    sum_tells told true e c more =
        let node = node_is in
        let ends = ends_at c more in
        let ordered = part.is_space.ordered in
        let within = part.is_space.within in
        let top = part.is_space.shared in
        let sum = sum_of_low (m.hart.local (slot_of (out + 1) m.hart)) (low_part number) number (number_of_low_part number e) in
        ap (λ x. word_sum x 0) sum ∙ omega arith
    sum_tells told false e c more =
        let node = node_is in
        let ends = ends_at c more in
        let ordered = part.is_space.ordered in
        let within = part.is_space.within in
        let top = part.is_space.shared in
        let sum = sum_of_parts (m.hart.local (slot_of (out + 1) m.hart)) (word_sum (high_part number * 4096) (low_part number)) number (number_of_parts number) in
        ap (λ x. word_sum x 0) sum ∙ omega arith

    frames_are : (told : Told) → (ended_hart told m.hart).registers frames_register ≡ control_address part.around.space.frames
    frames_are told = by first short first_is short_is (nestings.levels op.target) refl
      where
        by : (f s : Bool) → (nestings.levels i == 1) ≡ f → (high_part number == 0) ≡ s → (c : ℕ) → nestings.levels op.target ≡ c
            → (walk told (ends_by f s number m.hart) (fronted told m.hart)).registers frames_register ≡ control_address part.around.space.frames
        by true s e h c levels =
            let one = eqb-true (nestings.levels i) 1 e in
            let more = opens.levels in
            header_tells told s (omega arith)
        by false s e h zero levels =
            let more = opens.levels in
            absurd (both_ways (nestings.levels i == 1) (eq-eqb (nestings.levels i) 1 (omega arith)) e)
        by false s e h (suc c) levels = sum_tells told s h c levels

    kept : (told : Told) → KeepsAll (fronted told m.hart) (ended_hart told m.hart)
    kept told = ends_keep told first short number m.hart (fronted told m.hart)

    -- it stands for its processor in the group around its part
    back : (told : Told)
        → IsMember places nestings setting None (first_word part.around (part.beyond ∷ part.further)) (record m { hart = gone told m.hart })
        (left_on (part.around ∷ (part.beyond ∷ part.further)) (values p.runner.has) p)
    back told =
        let stands = en.at.stands in
        let calls = en.ready.in_range.waiting in
        let listed = with_list core places op.target (values p.runner.has) p in
        let memory = nothing_written core places m.hart.local (m.hart.registers group_frame_register) p i op.target op.depth (values p.runner.has) place.few calls en.index place.fits.room (place.fits.goes_on true) (in_memory places p m.hart stands) stands.running.values in
        let s : StandsFor places listed m.hart = stands_with places p listed m.hart m.hart stands (refl, refl, refl, refl, refl, refl, refl, refl, refl, refl, refl, refl, refl) refl refl stands.top memory in
        let k = kept told in
        let local : (gone told m.hart).local ≡ m.hart.local = k.local in
        record {
          number = came.member.number;
          at = record {
            live = k.live ∙ en.at.live;
            at = ap (λ x. 4 * x) (place.block.labels.blocks op.target);
            stands = record {
              nought = k.others 0 refl refl ∙ s.nought;
              frame = k.others 8 refl refl ∙ s.frame;
              behind = k.others 9 refl refl ∙ s.behind;
              number = k.others 18 refl refl ∙ number_is;
              rank = k.others 19 refl refl ∙ rank_is;
              size = k.others 20 refl refl ∙ size_is;
              top = k.others 21 refl refl ∙ s.top;
              local = k.others 22 refl refl ∙ s.local;
              shared_data = k.others 23 refl refl ∙ s.shared_data;
              private_heap = k.others 24 refl refl ∙ s.private_heap;
              shared_mask = k.others 25 refl refl ∙ s.shared_mask;
              devices = k.others 26 refl refl ∙ s.devices;
              heap_mask = k.others 27 refl refl ∙ s.heap_mask;
              running = subst (λ l. FrameInMemory places l n op.target listed.runner.has.call) (sym local) s.running;
              waiting = subst (λ l. HasWaiting places l callers p.runner.has.callers) (sym local) s.waiting;
              groups = subst (λ a. HaveGroupFrames places.frames (gone told m.hart).local a (op.target ∷ callers) (listed.runner.has.call ∷ p.runner.has.callers)) (sym (k.others 14 refl refl))
                  (subst (λ l. HaveGroupFrames places.frames l (m.hart.registers group_frame_register) (op.target ∷ callers) (listed.runner.has.call ∷ p.runner.has.callers)) (sym local) s.groups);
              own = λ x lt. ap (λ l. l (7 + x)) local ∙ s.own x lt;
              heap = λ x lt. ap (λ l. l (16384 + x)) local ∙ s.heap x lt;
              full = ap (λ l. l full_word) local ∙ s.full;
            };
          };
          node = record {
            node = k.others 10 refl refl ∙ node_is;
            body = tt;
            space = knows part.around (part.beyond ∷ part.further) (gone told m.hart) (frames_are told) (k.others 13 refl refl ∙ blocks_are);
            outer = (subst (λ l. HasOuter places nestings setting.processors (number_of p) l (op.target ∷ callers) (part.beyond ∷ part.further)) (sym local) level.1, came.member.node.outer.1);
          };
          words = refl;
        }

  -- a member that has committed
  record Ended (m : Member) (p : Owner) : Type 0 where
    pub hart : Hart
    pub came : Came (record m { hart = hart }) p
    pub is : m.hart ≡ committed hart
    pub at : (committed hart).pc ≡ 4 * suc (places.block i)

  ended : (m : Member) (p : Owner) → m.hart.pc ≡ 4 * places.block i → Came m p → Ended (record m { hart = committed m.hart }) p
  ended m p pc came =
      let within = lines.0.within in
      record { hart = m.hart; came = came; is = refl; at = omega arith }

  abbrev Back : List Level → Member → Hart → Owner → Type 0
  Back outer m h p =
      let q = left_on outer (values p.runner.has) p in
      IsMember places nestings setting None (first_word q.runner.has.level q.runner.has.outer) (record m { hart = h }) q

  back_at : (m : Member) (p : Owner) → (e : Ended m p) → Back p.runner.has.outer m (gone (told_of (later cycle0) m.number) e.hart) p
  back_at m p e =
      subst (λ o. Back o m (gone (told_of (later cycle0) m.number) e.hart) p) (sym e.came.part.outer) (back (record m { hart = e.hart }) p e.came (told_of (later cycle0) m.number))

  runs_at : (m : Member) (p : Owner) → Holds image cycle0 → (e : Ended m p)
      → RunsPrivately image (later cycle0) m.number (6 + many) m.hart (gone (told_of (later cycle0) m.number) e.hart)
  runs_at m p holds e =
      subst (λ h. RunsPrivately image (later cycle0) m.number (6 + many) h (gone (told_of (later cycle0) m.number) e.hart)) (sym e.is)
      (runs (record m { hart = e.hart }) p e.came (later cycle0) holds e.at)

  -- ---- all of them

  abbrev Gone : (highest : ℕ) → (Owner → ℕ) → List Member → List Owner → Type 0
  Gone highest size ms ps = AllComeByWay core image places nestings i op End setting (later cycle0) (λ onward. 6 + many) (λ p. None) highest 0 size ms ps

  all_gone : (highest : ℕ) (size : Owner → ℕ) (ms : List Member) (ps : List Owner) → Holds image cycle0 → Both Ended ms ps → Gone highest size ms ps
  all_gone highest size [] [] holds all = tt
  all_gone highest size (m ∷ ms) (p ∷ ps) holds all =
      (record { hart = gone (told_of (later cycle0) m.number) all.0.hart; runs = runs_at m p holds all.0; member = back_at m p all.0 }, all_gone highest size ms ps holds all.1)
  all_gone highest size ms ps holds all = absurd (assumption all)

  came_all : (ms : List Member) (ps : List Owner) → AllEnter core image places nestings i op End setting cycle0 None begin ms ps → AreInPart nestings ps → Both Came ms ps
  came_all [] [] all part = tt
  came_all (m ∷ ms) (p ∷ ps) all part = (record { enters = all.0; member = all.1; part = part.0 }, came_all ms ps all.2 part.1)
  came_all ms ps all part = absurd (assumption all)

  due_here : (m : Member) (p : Owner) → Came m p → (has_room End p.runner.has ≡ true) × (p.runner.left.at ≡ i)
  due_here m p came = (refl, came.enters.index)

  -- the first line loads from the frame
  loads : (m : Member) (p : Owner) → Came m p → (s : Shared) → GoesAlone (perform cycle0 m.number (Lw size_register frame_register (at_private out)) m.hart s) (committed m.hart) s
  loads m p came s =
      let slot = first_slot m p came in
      can_run_goes (Lw size_register frame_register (at_private out)) (LocalAt (slot_of out m.hart)) m.hart (slot.within, slot.address) cycle0 m.number s

  together : (highest : ℕ) (size : Owner → ℕ) (ms : List Member) (ps : List Owner) (own : Memory) → Holds image cycle0 → Both Came ms ps
      → Together (core_source core setting) image mine cycle0 1 0 ms ps own
      (λ ms' ds own'. (ds ≡ map (is_due core i op End) ps) × (Gone highest size ms' ps × (own' ≡ own)))
  together highest size ms ps own holds all =
      let f : Member → Hart = λ m. committed m.hart in
      let stand = all_stand (places.block i) Came ms ps (λ m p came. at_block core image places nestings i op End setting cycle0 begin m p came.enters) all in
      cycle_commits (core_source core setting) image mine cycle0 1 ms ps (map (is_due core i op End) ps) own (λ ms' own'. Gone highest size ms' ps × (own' ≡ own))
      owns.apart
      (all_due core setting i op End Came ms ps place.stands refl due_here all)
      (cycle_map image mine cycle0 1 ms own (λ ms' own'. (ms' ≡ on_each f ms) × (own' ≡ own)) (λ ms' own'. Gone highest size ms' ps × (own' ≡ own))
      (λ ms' own' x.
      (all_gone highest size ms' ps holds (subst (λ l. Both Ended l ps) (sym x.0) (each_standing (places.block i) Came Ended f ms ps ended stand all)), x.1))
      (private_of_all image mine cycle0 (places.block i) 1 (Lw size_register frame_register (at_private out)) f ms own holds lines.0 stand
      (all_alone Came cycle0 (Lw size_register frame_register (at_private out)) f ms ps loads all)))

-- the members of such a part go back
pub fork_part_ends : (core : List CoreOp) (image : Image) (bound : ℕ → ℕ) (places : Places) (nestings : Nestings) (i : ℕ) (op : CoreOp) → IsInPlace core image bound places nestings i op End
    → (0 < nestings.levels i → LevelOpens nestings op.target i) → (words : ℕ) → last_fork nestings i ≡ Some words
    → EndsPart core image places nestings i op (λ onward. end_part_takes (Some words) (nestings.levels i))
fork_part_ends core image bound places nestings i op place leads words forked setting t mine first [] [] own owns all part = record { counted = tt; chain = (refl, tt, refl) }
fork_part_ends core image bound places nestings i op place leads words forked setting t mine first (m ∷ ms) (p ∷ ps) own owns all part =
    let some : 0 < nestings.levels i = subst (λ a. 0 < nestings.levels a) all.0.index part.0.saved in
    by (nestings.levels i == 1) (high_part (32 + 4 * words) == 0) refl refl (leads some) (lines_of some)
  where
    lines_of : 0 < nestings.levels i → LinesAt image bound (places.block i) (out_of_fork (last_level (levels_at nestings i)) (nestings.levels i) words op.target)
    lines_of some =
        subst (λ f. LinesAt image bound (places.block i) (end_part_by f (levels_at nestings i) op.target)) forked
        (subst (λ b. LinesAt image bound (places.block i) (if b then end_block op.target else end_part_block (levels_at nestings i) op.target)) (ne_eqb (nestings.levels i) 0 (λ e. omega arith)) place.block.lines)

    by : (f s : Bool) → (nestings.levels i == 1) ≡ f → (high_part (32 + 4 * words) == 0) ≡ s → LevelOpens nestings op.target i
        → LinesAt image bound (places.block i) (out_of_fork (last_level (levels_at nestings i)) (nestings.levels i) words op.target)
        → Together (core_source core setting) image mine t 1 0 (m ∷ ms) (p ∷ ps) own
        (λ ms' ds own'. (ds ≡ map (is_due core i op End) (p ∷ ps))
        × AllMove core image places nestings i op End setting (later t) (λ onward. end_part_takes (Some words) (nestings.levels i)) (λ q. None) 0 ms' (p ∷ ps) × (own' ≡ own))
    by f s e h opens lines =
        let front = forked_front (last_level (levels_at nestings i)) in
        let jump = away_line op.target in
        let shape : lines_by f s (32 + 4 * words) ≡ frames_end (nestings.levels i) words =
        sym (ap (λ b. lines_by b (high_part (32 + 4 * words) == 0) (32 + 4 * words)) e ∙ ap (λ b. lines_by f b (32 + 4 * words)) h) in
        let lines' = subst (λ l. LinesAt image bound (places.block i) (front ++ (l ++ jump))) (sym shape) lines in
        let many = ap (λ (l : List MarkedLine). 6 + length l) shape in
        let came = came_all core image bound places nestings i op place opens words forked f s e h lines' setting t mine first owns (m ∷ ms) (p ∷ ps) all part in
        let Gone : ℕ → List Member → Type 0 = λ c ms'. AllMove core image places nestings i op End setting (later t) (λ onward. c) (λ q. None) 0 ms' (p ∷ ps) in
        together_map (core_source core setting) image mine t 1 0 (m ∷ ms) (p ∷ ps) own
        (λ ms' ds own'. (ds ≡ map (is_due core i op End) (p ∷ ps)) × (Gone (6 + length (lines_by f s (32 + 4 * words))) ms' × (own' ≡ own)))
        (λ ms' ds own'. (ds ≡ map (is_due core i op End) (p ∷ ps)) × Gone (6 + length (frames_end (nestings.levels i) words)) ms' × (own' ≡ own))
        (λ ms' ds own' x. (x.0, subst (λ c. Gone c ms') many x.1.0, x.1.1))
        (together core image bound places nestings i op place opens words forked f s e h lines' setting t mine first owns (highest_value (p ∷ ps)) (size_behind End (p ∷ ps)) (m ∷ ms) (p ∷ ps) own
        all.0.running.code came)
fork_part_ends core image bound places nestings i op place leads words forked setting t mine first ms ps own owns all part = absurd (assumption all)
