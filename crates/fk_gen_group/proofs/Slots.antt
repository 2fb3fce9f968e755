-- The levels that the frame of a call saves, and how it gives the last of them back.
use Rattle.std.proofs.Common.{◌≡◌, ℕ, suc, ◌+◌, ◌-◌, ◌*◌, ◌<◌, ◌≤◌, List, [], ◌∷◌, ◌++◌, length, false, None, sym, ap, subst, ◌∙◌, arith, refl}
use Rattle.fk_num.specs.Word.{Memory, word_sum}
use Rattle.fk_meaning_operation.specs.declared.operation.Operation.{Operation}
use Rattle.fk_meaning.specs.Processor.{Level, Setting, with_values, to_outer}
use Rattle.fk_core.specs.declared.op.CoreOp.{CoreOp}
use Rattle.fk_core.specs.Next.{position}
use Rattle.fk_image.specs.declared.Image.{Image}
use Rattle.fk_isa.specs.declared.instruction.Instruction.TheVariants.{Jal, Lw}
use Rattle.fk_machine.specs.Hart.{Hart, Setting as MachineSetting}
use Rattle.fk_machine.proofs.Performs.{writes}
use Rattle.fk_sim_nodes.specs.Node.{Member}
use Rattle.fk_sim_nodes.specs.Alone.{Holds, RunsPrivately}
use Rattle.fk_sim_block.specs.Owner.{Owner, number_of}
use Rattle.fk_sim_block.specs.Stands.{Places, HasValues, StandsFor, local_address, frame_start, value_in, zero_register, frame_register, size_register, top_register, group_frame_register}
use Rattle.fk_sim_block.specs.Suits.{Flows, nothing}
use Rattle.fk_sim_block.specs.Block.{Enters}
use Rattle.fk_sim_block.specs.Node.{Nestings, HasLevel, HasSaved, HasOuter, KnowsSpace, past_levels, saved_at, first_word, control_address, node_register, frames_register, blocks_register, HasLevelBy, frames_word}
use Rattle.fk_sim_block.specs.Lockstep.{IsMember, LevelOpens}
use Rattle.fk_sim_block.specs.Parts.{HasNumbersBy, IsInPart}
use Rattle.fk_gen.specs.Lines.{goes_to, at_private, label_of}
use Rattle.fk_gen.specs.InPlace.{LinesAt, HasLabels}
use Rattle.fk_gen.proofs.Values.{private_place}
use Rattle.fk_gen.proofs.Walk.{Quiets, LocalAt, Told, quiet_lines, walk, told_of, walked, lines_split, runs_join}
use Rattle.fk_gen.proofs.Jumps.{jumps, jal_private}
use Rattle.fk_gen.proofs.Standing.{InMemory, SameRegisters, in_memory, stands_with, with_list, nothing_written}
use Rattle.fk_gen_group.specs.Laws.{IsInPlace, last_fork}
use Rattle.fk_gen_group.proofs.Last.{local_index}
use Rattle.fk_gen_group.proofs.Levels.{many_callers, saved_by}

-- ---- where a word after the header is

abbrev pub slot_of : (word : ℕ) → Hart → ℕ
slot_of word h = local_index (word_sum (h.registers frame_register) (at_private word))

pub record IsSlot (places : Places) (waiting word : ℕ) (h : Hart) : Type 0 where
  pub within : slot_of word h < 32768
  pub address : word_sum (h.registers frame_register) (at_private word) ≡ local_address (slot_of word h)
  pub index : slot_of word h ≡ frame_start places waiting + 7 + word

pub is_slot : (places : Places) (n word : ℕ) (h : Hart) → places.frames.of_file ≤ 56 → n < 256 → word < 64 → h.registers frame_register ≡ local_address (frame_start places n) → IsSlot places n word h
is_slot places n word h few calls lt e =
    let at = private_place places (h.registers frame_register) n word e calls few lt in
    let within = at.0 in
    let address = at.1 in
    let index : slot_of word h ≡ frame_start places n + 7 + word = omega arith in
    record { within = omega arith; address = address ∙ ap local_address (sym index); index = index }

-- a hart that has these addresses knows the space of its group
pub knows : (l : Level) (outer : List Level) (h : Hart) → h.registers frames_register ≡ control_address l.space.frames → h.registers blocks_register ≡ control_address l.space.blocks → KnowsSpace l outer h
knows l [] h a b = tt
knows l (o ∷ outer) h a b = (a, b)

-- the last level of a frame, and the others
pub last_level_of : (places : Places) (nestings : Nestings) (processors number : ℕ) (m : Memory) (i j : ℕ) (callers : List ℕ) (l : Level) (further : List Level) → LevelOpens nestings j i
    → HasOuter places nestings processors number m (i ∷ callers) (l ∷ further)
    → HasLevelBy (nestings.forks i (nestings.levels j)) m (frames_word (length callers)) (saved_at places nestings (length callers) i + 4 * nestings.levels j) (nestings.levels j) l further × HasOuter places nestings processors number m (j ∷ callers) further
last_level_of places nestings processors number m i j callers l further opens held =
    let n = length callers in
    let e = opens.levels in
    let b = opens.behind in
    let room = held.0 in
    let all : HasSaved m (nestings.forks i) (frames_word n) (saved_at places nestings n i) (suc (nestings.levels j)) (l ∷ further) =
    subst (λ c. HasSaved m (nestings.forks i) (frames_word n) (saved_at places nestings n i) c (l ∷ further)) e held.1 in
    let rest : HasOuter places nestings processors number m callers (past_levels (suc (nestings.levels j)) (l ∷ further)) =
    subst (λ c. HasOuter places nestings processors number m callers (past_levels c (l ∷ further))) e held.2 in (
      all.0,
      (
        omega arith,
        subst (λ x. HasSaved m (nestings.forks j) (frames_word n) (frame_start places n + 7 + x) (nestings.levels j) further) b
            (saved_by m (nestings.forks i) (nestings.forks j) (frames_word n) (saved_at places nestings n i) (nestings.levels j) further (λ k lt. sym (opens.forks k lt)) all.1),
        rest,
      ),
    )

-- ---- the way out of a part

module _ (core : List CoreOp) (image : Image) (bound : ℕ → ℕ) (places : Places) (nestings : Nestings) (i : ℕ) (op : CoreOp) (operation : Operation)
    (place : IsInPlace core image bound places nestings i op operation) (flows : Flows core places.frames nothing i op.target) (opens : LevelOpens nestings op.target i) (plain : last_fork nestings i ≡ None) where
  abbrev pub out_word : ℕ
  out_word = nestings.behind i + 4 * (nestings.levels i - 1)

  -- the hart that has loaded the size, and the lines after that
  abbrev pub sized : Hart → Hart
  sized h = writes h size_register (h.local (slot_of out_word h))

  abbrev pub out_lines : Hart → Quiets
  out_lines h =
      (Lw node_register frame_register (at_private (out_word + 1)), LocalAt (slot_of (out_word + 1) h)) ∷
      (Lw blocks_register frame_register (at_private (out_word + 2)), LocalAt (slot_of (out_word + 2) h)) ∷
      (Lw frames_register frame_register (at_private (out_word + 3)), LocalAt (slot_of (out_word + 3) h)) ∷ []

  abbrev pub out_hart : Told → Hart → Hart
  out_hart told h = jumps (walk told (out_lines h) (sized h)) 0 (4 * bound (label_of op.target))

  -- the processor in the group around the part, with these values
  abbrev pub left_to : List Level → List ℕ → Owner → Owner
  left_to outer vs p = record {
    runner = record { left = position op.target p.runner.left.callers; has = to_outer (with_values p.runner.has vs) outer };
    heap = p.heap;
  }

  -- a hart that has all of a member's but what is free in blocks
  module _ (setting : Setting) (cycle0 : MachineSetting) (first : ℕ) (m : Member) (p : Owner) (en : Enters core image places setting cycle0 i op operation p m.hart)
      (member : IsMember places nestings setting None first m p) (part : IsInPart nestings p) (h : Hart) (same : SameRegisters m.hart h) (top : h.registers top_register ≡ m.hart.registers top_register)
      (local : h.local ≡ m.hart.local) (live : h.ended ≡ false) where
    abbrev n : ℕ
    n = length p.runner.has.callers

    abbrev callers : List ℕ
    callers = p.runner.left.callers

    pub slot_at : (k : ℕ) → k < 4 → IsSlot places n (out_word + k) h
    slot_at k lt =
        let levels = opens.levels in
        let room = place.levels.room in
        is_slot places n (out_word + k) h place.few en.ready.in_range.waiting (omega arith) (same.1 ∙ en.at.stands.frame)

    pub first_slot : IsSlot places n out_word h
    first_slot =
        let levels = opens.levels in
        let room = place.levels.room in
        is_slot places n out_word h place.few en.ready.in_range.waiting (omega arith) (same.1 ∙ en.at.stands.frame)

    pub out_runs : (t : MachineSetting) (k : ℕ) → Holds image t → HasLabels bound places
        → LinesAt image bound k (quiet_lines (out_lines h) ++ goes_to (Jal zero_register 0) (label_of op.target) ∷ []) → (sized h).pc ≡ 4 * k
        → RunsPrivately image t m.number 4 (sized h) (out_hart (told_of t m.number) h)
    out_runs t k holds labels lines pc =
        let split = lines_split image bound k (quiet_lines (out_lines h)) (goes_to (Jal zero_register 0) (label_of op.target) ∷ []) lines in
        let one = slot_at 1 (omega arith) in
        let two = slot_at 2 (omega arith) in
        let three = slot_at 3 (omega arith) in
        let w = walked image bound t m.number holds (out_lines h) k (sized h) split.0 pc live
        ((one.within, one.address), ((two.within, two.address), ((three.within, three.address), tt))) in
        runs_join image t m.number 3 1 (sized h) (walk (told_of t m.number) (out_lines h) (sized h)) (out_hart (told_of t m.number) h) w.runs (
          out_hart (told_of t m.number) h,
          jal_private image bound _ m.number (k + 3) 0 (label_of op.target) (walk (told_of t m.number) (out_lines h) (sized h)) holds split.1.0 (labels.within (label_of op.target)) w.pc w.live,
          refl,
        )

    -- the level that the frame has of the group around the part
    level : HasLevel m.hart.local (saved_at places nestings (length callers) i + 4 * nestings.levels op.target) part.around (part.beyond ∷ part.further)
        × HasOuter places nestings setting.processors (number_of p) m.hart.local (op.target ∷ callers) (part.beyond ∷ part.further)
    level =
        let told = last_level_of places nestings setting.processors (number_of p) m.hart.local i op.target callers part.around (part.beyond ∷ part.further) opens
        (subst (λ o. HasOuter places nestings setting.processors (number_of p) m.hart.local (i ∷ callers) o) part.outer
        (subst (λ a. HasOuter places nestings setting.processors (number_of p) m.hart.local (a ∷ callers) p.runner.has.outer) en.index member.node.outer.0)) in
        let levels = opens.levels in
        let last : nestings.levels i - 1 ≡ nestings.levels op.target = omega arith in
        let none : nestings.forks i (nestings.levels op.target) ≡ None = ap (nestings.forks i) (sym last) ∙ plain in (
          subst (λ f. HasLevelBy f m.hart.local (frames_word (length callers)) (saved_at places nestings (length callers) i + 4 * nestings.levels op.target) (nestings.levels op.target) part.around (part.beyond ∷ part.further)) none told.0,
          told.1,
        )

    -- `@` and `$` are those of the group around
    numbers : (part.around.number ≡ p.runner.has.level.number) × (part.around.rank ≡ p.runner.has.level.rank)
    numbers =
        subst (λ f. HasNumbersBy f part.around p.runner.has.level) plain
        (subst (λ a. HasNumbersBy (nestings.forks a (nestings.levels a - 1)) part.around p.runner.has.level) en.index part.numbers)

    word_at : (word k : ℕ) → word ≡ out_word + k → IsSlot places n word h
        → h.local (slot_of word h) ≡ m.hart.local (saved_at places nestings (length callers) i + 4 * nestings.levels op.target + k)
    word_at word k e slot =
        let many = many_callers places nestings m.hart.local callers p.runner.has.callers en.at.stands.waiting in
        let starts = ap (frame_start places) many in
        let levels = opens.levels in
        let index = slot.index in
        let there : slot_of word h ≡ saved_at places nestings (length callers) i + 4 * nestings.levels op.target + k = omega arith in
        ap (λ l. l (slot_of word h)) local ∙ ap m.hart.local there

    -- it stands for its processor in that group
    pub out_member : (told : Told) (vs : List ℕ) → HasLabels bound places → HasValues (value_in m.hart n) vs
        → IsMember places nestings setting None (first_word part.around (part.beyond ∷ part.further)) (record m { hart = out_hart told h }) (left_to (part.around ∷ (part.beyond ∷ part.further)) vs p)
    out_member told vs labels held =
        let stands = en.at.stands in
        let calls = en.ready.in_range.waiting in
        let header = place.fits.room.header in
        let listed = with_list core places op.target vs p in
        let memory = nothing_written core places m.hart.local (m.hart.registers group_frame_register) p i op.target op.depth vs place.few calls en.index place.fits.room flows (in_memory places p m.hart stands) held in
        let s : StandsFor places listed h = stands_with places p listed m.hart h stands same refl refl (top ∙ stands.top) (subst (λ l. InMemory places l (m.hart.registers group_frame_register) listed) (sym local) memory) in
        let l = level.0 in
        let nought : saved_at places nestings (length callers) i + 4 * nestings.levels op.target + 0 ≡ saved_at places nestings (length callers) i + 4 * nestings.levels op.target = omega arith in
        let size = word_at out_word 0 (omega arith) first_slot ∙ ap m.hart.local nought ∙ l.size in
        let node = word_at (out_word + 1) 1 refl (slot_at 1 (omega arith)) ∙ l.node in
        let blocks = word_at (out_word + 2) 2 refl (slot_at 2 (omega arith)) ∙ l.blocks in
        let frames = word_at (out_word + 3) 3 refl (slot_at 3 (omega arith)) ∙ l.frames in
        record {
          number = member.number;
          at = record {
            live = live;
            at = ap (λ k. 4 * k) (labels.blocks op.target);
            stands = record {
              nought = s.nought;
              frame = s.frame;
              behind = s.behind;
              number = s.number ∙ sym numbers.0;
              rank = s.rank ∙ sym numbers.1;
              size = size;
              top = s.top;
              local = s.local;
              shared_data = s.shared_data;
              private_heap = s.private_heap;
              shared_mask = s.shared_mask;
              devices = s.devices;
              heap_mask = s.heap_mask;
              running = s.running;
              waiting = s.waiting;
              groups = s.groups;
              own = s.own;
              heap = s.heap;
              full = s.full;
            };
          };
          node = record {
            node = node;
            body = tt;
            space = knows part.around (part.beyond ∷ part.further) (out_hart told h) frames blocks;
            outer = (subst (λ l. HasOuter places nestings setting.processors (number_of p) l (op.target ∷ callers) (part.beyond ∷ part.further)) (sym local) level.1, member.node.outer.1);
          };
          words = refl;
        }
