-- The end of a call.
use Rattle.std.proofs.Common.{◌≡◌, ℕ, zero, suc, ◌+◌, ◌-◌, ◌*◌, ◌^◌, ◌<◌, ◌≤◌, List, ◌∷◌, length, map, Bool, Some, None, true, false, ap, subst, sym, ◌∙◌, arith, refl}
use Rattle.std.specs.Prelude.{◌==◌}
use Rattle.fk_num.specs.Word.{Memory, put, word_sum}
use Rattle.fk_meaning_operation.specs.declared.operation.Operation.TheVariants.{Leave}
use Rattle.fk_meaning_store.specs.Store.{address_of}
use Rattle.fk_meaning.specs.Processor.{Call, Processor, Setting, values, last}
use Rattle.fk_meaning.specs.Local.{handed, to_caller, unframed}
use Rattle.fk_core.specs.declared.op.CoreOp.{CoreOp}
use Rattle.fk_core.specs.Next.{Position, position, returned}
use Rattle.fk_image.specs.declared.Image.{Image}
use Rattle.fk_isa.specs.declared.instruction.Instruction.TheVariants.{Lui, Lw, Sw}
use Rattle.fk_machine.specs.Hart.{Hart, Setting as MachineSetting}
use Rattle.fk_machine.proofs.Performs.{writes, moves}
use Rattle.fk_sim_nodes.specs.Alone.{later}
use Rattle.fk_sim_nodes.specs.Source.{Passes}
use Rattle.fk_sim_block.specs.Owner.{Commons, Owner, Doing, number_of, part}
use Rattle.fk_sim_block.specs.Stands.{Places, StandsAt, HasRoom, HasValues, IsGroupFrame, TellsFrame, before_call, HaveGroupFrames, frame_end, frame_start, group_word, local_address, value_of, value_in, zero_register, frame_register, end_register, number_register, rank_register, size_register, top_register, local_register, shared_register, heap_register, shared_mask_register, device_register, heap_mask_register, group_frame_register}
use Rattle.fk_sim_block.specs.Next.{OpAt}
use Rattle.fk_sim_block.specs.Suits.{Fits}
use Rattle.fk_sim_block.specs.Node.{control_address, frames_register, node_register, body_register, blocks_register}
use Rattle.fk_sim_block.specs.Block.{HasDone, Enters}
use Rattle.fk_sim_block.proofs.Standing.{operations_are_next}
use Rattle.fk_gen.specs.Lines.{quiet, first_commits, label_of, at_value, at_group_frame}
use Rattle.fk_gen.specs.InPlace.{HasBlock, HasLabels, LinesAt}
use Rattle.fk_gen.specs.Keeps.{DoesAnd}
use Rattle.fk_gen.proofs.Values.{same_word, other_word, values_kept, value_place}
use Rattle.fk_gen.proofs.Standing.{waiting_kept, groups_kept, told_on}
use Rattle.fk_gen.proofs.Jumps.{jumps}
use Rattle.fk_gen.specs.Registers.{t0, t1, t2}
use Rattle.fk_gen_flow.specs.Flow.{jump_block, leave_block, giving_back, returning}
use Rattle.fk_gen_flow.specs.Keeps.{KeepsBelow, BlockKeeps, frames_behind, leaving_takes, result_word}
use Rattle.fk_gen_flow.specs.Laws.{CallsReturn}
use Rattle.fk_gen_flow.proofs.Walk.{Comes, IsAbout, IsLocal, there, first, writing, storing, near_word, lw_goes, sw_goes, jal_goes, jalr_goes}
use Rattle.fk_gen.specs.Operands.{operand}
use Rattle.fk_gen.proofs.Walk.{CanRun}
use Rattle.fk_gen.proofs.ValueLines.{place_word, place_reached, operand_runs, operand_is}
use Rattle.fk_gen_flow.proofs.Frames.{Last, last_of, start_of}
use Rattle.fk_gen_flow.proofs.Does.{alone_does, lw_does, about_block}

-- ---- the last three instructions, and the jump to which the call returns

abbrev pub back_to : Hart → (w word target : ℕ) → Hart
back_to h w word target = jumps (jumps (writes (writes h end_register (word_sum (h.registers frame_register) 0)) 8 (h.local w)) 0 (4 * word)) 0 (4 * target)

pub returning_comes : (image : Image) (bound : ℕ → ℕ) (t : MachineSetting) (number k w word back : ℕ) (h : Hart) (Goal : Hart → Type 0) → IsAbout image t k h
    → LinesAt image bound k (map quiet returning) → LinesAt image bound word (jump_block back) → IsLocal (word_sum (h.registers frame_register) 4) w → h.registers t1 ≡ 4 * word
    → bound (label_of back) ≤ 262144 → Goal (back_to h w word (bound (label_of back))) → Comes image t number 4 h Goal
returning_comes image bound t number k w word back h Goal about lines jump is link le goal =
    let target = bound (label_of back) in
    let within = jump.0.within in
    let h1 = writes h end_register (word_sum (h.registers frame_register) 0) in
    let h2 = writes h1 frame_register (h.local w) in
    let h3 = jumps h2 zero_register (4 * word) in
    let linked : h2.registers t1 + 0 ≡ 4 * word = omega (arith, link) in
    let cycle1 = later t in
    let cycle2 = later cycle1 in
    let cycle3 = later cycle2 in
    let about1 = writing image t k h 9 (word_sum (h.registers frame_register) 0) about lines.0.within in
    let about2 = writing image cycle1 (suc k) h1 8 (h.local w) about1 lines.1.0.within in
    let about3 : IsAbout image cycle3 word h3 = record { code = about.code; live = about.live; at = refl } in
    first image t number 3 k _ h h1 Goal about lines.0 (λ s. (s.reserved, refl))
    (first image cycle1 number 2 (suc k) _ h1 h2 Goal about1 lines.1.0 (lw_goes cycle1 number 8 8 4 w h1 is)
    (first image cycle2 number 1 (suc (suc k)) _ h2 h3 Goal about2 lines.1.1.0 (jalr_goes cycle2 number 0 6 0 word h2 linked (omega arith))
    (first image cycle3 number 0 word _ h3 (jumps h3 zero_register (4 * target)) Goal about3 jump.0 (jal_goes cycle3 number 0 0 word target h3 refl within le)
    (there image _ number _ Goal goal))))

-- ---- what a processor is then

-- all registers but those that are free, those of the frame, where the frames of the group end, and that of group frames
pub record IsAfter (h h' : Hart) : Type 0 where
  pub live : h'.ended ≡ h.ended
  pub same : (r : ℕ) → (r == 5) ≡ false → (r == 6) ≡ false → (r == 7) ≡ false → (r == 8) ≡ false → (r == 9) ≡ false → (r == 12) ≡ false → (r == 14) ≡ false
      → h'.registers r ≡ h.registers r

-- the word of a result lies in the frame of the call that waits, behind its header and its private words
record IsResult (places : Places) (m back : ℕ) (r : ℕ) : Type 0 where
  pub header : 64 * m + 7 ≤ r
  pub inside : r < 64 * suc m
  pub own : (j : ℕ) → j < places.frames.of_file → 7 + j < r
  pub privates : (w : ℕ) → places.frames.keeps back w ≡ true → frame_start places m + 7 + w < r

own_below : (places : Places) (m back n r : ℕ) → places.frames.is_main back ≡ (m == 0) → HasRoom places.frames back (suc n) → places.frames.of_file ≤ 56 → r ≡ 64 * suc m - suc n
    → (j : ℕ) → j < places.frames.of_file → 7 + j < r
own_below places zero back n r home room few is j lt =
    let starts : places.frames.of_file ≡ _ = start_of places zero back home in
    let header = room.header in
    omega arith
own_below places (suc m) back n r home room few is j lt = let header = room.header in omega arith

is_result : (places : Places) (m back n r : ℕ) → places.frames.is_main back ≡ (m == 0) → HasRoom places.frames back (suc n) → places.frames.of_file ≤ 56 → r ≡ 64 * suc m - suc n
    → IsResult places m back r
is_result places m back n r home room few is =
    let starts = start_of places m back home in
    let top = room.header in
    record {
      header = omega arith;
      inside = omega arith;
      own = own_below places m back n r home room few is;
      privates = λ w e. let kept = room.kept w e in omega arith;
    }

-- what the end of a call leaves of its processor, but the space of the group
record IsUnframed (p q : Processor) : Type 0 where
  pub number : q.level.number ≡ p.level.number
  pub rank : q.level.rank ≡ p.level.rank
  pub size : q.level.size ≡ p.level.size
  pub top : q.top ≡ p.top
  pub own : q.own ≡ p.own

is_unframed : (framed : Bool) (p : Processor) → IsUnframed p (unframed framed p)
is_unframed true p = record { number = refl; rank = refl; size = refl; top = refl; own = refl }
is_unframed false p = record { number = refl; rank = refl; size = refl; top = refl; own = refl }

handed_privates : (gives : Bool) (v : ℕ) (c : Call) → (handed gives v c).privates ≡ c.privates
handed_privates true v c = refl
handed_privates false v c = refl

handed_frames : (gives : Bool) (v : ℕ) (c : Call) → (handed gives v c).frames ≡ c.frames
handed_frames true v c = refl
handed_frames false v c = refl

-- those of the call that waits last and of the others, where headers stay
caller_groups : (places : Places) (m m' : Memory) (address : ℕ) (backs : List ℕ) (calls : List Call) (l : Last places m backs calls) (gives : Bool) (v : ℕ)
    → ((k : ℕ) → k ≤ length l.calls' → m' (group_word k) ≡ m (group_word k))
    → HaveGroupFrames places.frames m address backs calls → HaveGroupFrames places.frames m' address (l.back ∷ l.backs') (handed gives v l.call ∷ l.calls')
caller_groups places m m' address backs calls l gives v same held =
    let frames = places.frames in
    let here : HaveGroupFrames frames m address (l.back ∷ l.backs') (l.call ∷ l.calls') =
    subst (λ cs. HaveGroupFrames frames m address (l.back ∷ l.backs') cs) l.are_calls (subst (λ is. HaveGroupFrames frames m address is calls) l.are_backs held) in
    let kept = groups_kept frames m m' address (l.back ∷ l.backs') (l.call ∷ l.calls') (λ k lt. same k (omega arith)) here in (
      told_on (frames.group l.back) address l.call (handed gives v l.call) (ap (λ (f : ℕ → ℕ). f 0) (handed_frames gives v l.call)) kept.0,
      kept.1,
    )

-- where an address is that of the call's group frame, the frames of the group end there
end_of_frames : (a first : ℕ) → a ≡ address_of first → first ≤ 2 ^ 20 → word_sum a (0x08000 * 4096) ≡ control_address first
end_of_frames a first e few = omega arith

module _ (core : List CoreOp) (image : Image) (bound : ℕ → ℕ) (places : Places) (i : ℕ) (op : CoreOp) (gives framed : Bool) where
  abbrev pub left_by : (p : Owner) → Position → Processor → Doing
  left_by p left has = record { acting = record { due = None; runner = record { left = left; has = has } }; heap = p.heap }

  -- a processor whose last call has ended
  abbrev pub ended : (p : Owner) (m : Memory) → Last places m p.runner.left.callers p.runner.has.callers → Doing
  ended p m l =
      left_by p (position l.back l.backs') (record (unframed framed p.runner.has) { call = handed gives (last (values p.runner.has)) l.call; callers = l.calls' })

  ended_part : (setting : Setting) (p : Owner) (m : Memory) (l : Last places m p.runner.left.callers p.runner.has.callers) → OpAt core i op (Leave gives framed) → p.runner.left.at ≡ i
      → (s : Commons) → part core setting 1 s p ≡ Passes s (ended p m l)
  ended_part setting p m l op_at e s =
      let q = unframed framed p.runner.has in
      operations_are_next core i op (Leave gives framed) setting 0 s p op_at e
      ∙ ap (λ backs. Passes s (left_by p (returned core backs) (to_caller gives (last (values p.runner.has)) q p.runner.has.callers))) l.are_backs
      ∙ ap (λ calls. Passes s (left_by p (position l.back l.backs') (to_caller gives (last (values p.runner.has)) q calls))) l.are_calls

  ended_stands : (p : Owner) (h h' : Hart) (l : Last places h.local p.runner.left.callers p.runner.has.callers) (r : ℕ) → StandsAt places p h → IsAfter h h'
      → places.frames.of_file ≤ 56 → length p.runner.has.callers < 256
      → r ≡ 64 * suc (length l.calls') - suc (length l.call.values)
      → ((j : ℕ) → (j ≡ r → ⊥) → h'.local j ≡ h.local j)
      → HasValues (value_in h' (length l.calls')) (handed gives (last (values p.runner.has)) l.call).values
      → h'.pc ≡ 4 * places.block l.back
      → h'.registers frame_register ≡ local_address (frame_start places (length l.calls'))
      → h'.registers end_register ≡ local_address (frame_end (length l.calls'))
      → HaveGroupFrames places.frames h.local (h'.registers group_frame_register) p.runner.left.callers p.runner.has.callers
      → HasDone core image places (ended p h.local l) h'
  ended_stands p h h' l r at after few waiting is others held pc start end groups =
      let m = length l.calls' in
      let v = last (values p.runner.has) in
      let stands = at.stands in
      let many : length p.runner.has.callers ≡ suc m = ap length l.are_calls in
      let word = is_result places m l.back (length l.call.values) r l.frame.home l.returns.room few is in
      let header = word.header in
      let inside = word.inside in
      let u = is_unframed framed p.runner.has in
      record {
        done = refl;
        at = record {
          live = after.live ∙ at.live;
          at = pc;
          stands = record {
            nought = after.same zero_register refl refl refl refl refl refl refl ∙ stands.nought;
            frame = start;
            behind = end;
            number = after.same number_register refl refl refl refl refl refl refl ∙ stands.number ∙ sym u.number;
            rank = after.same rank_register refl refl refl refl refl refl refl ∙ stands.rank ∙ sym u.rank;
            size = after.same size_register refl refl refl refl refl refl refl ∙ stands.size ∙ sym u.size;
            top = after.same top_register refl refl refl refl refl refl refl ∙ stands.top ∙ sym u.top;
            local = after.same local_register refl refl refl refl refl refl refl ∙ stands.local;
            shared_data = after.same shared_register refl refl refl refl refl refl refl ∙ stands.shared_data;
            private_heap = after.same heap_register refl refl refl refl refl refl refl ∙ stands.private_heap;
            shared_mask = after.same shared_mask_register refl refl refl refl refl refl refl ∙ stands.shared_mask;
            devices = after.same device_register refl refl refl refl refl refl refl ∙ stands.devices;
            heap_mask = after.same heap_mask_register refl refl refl refl refl refl refl ∙ stands.heap_mask;
            running = record {
              home = l.frame.home;
              values = held;
              privates = λ w e.
                  let below = word.privates w e in
                  others (frame_start places m + 7 + w) (λ f. omega arith) ∙ l.frame.privates w e ∙ ap (λ f. f w) (sym (handed_privates gives v l.call));
            };
            waiting = waiting_kept places h.local h'.local l.backs' l.calls' few (λ j a b. others j (λ f. omega arith)) l.others;
            groups = caller_groups places h.local h'.local (h'.registers group_frame_register) p.runner.left.callers p.runner.has.callers l gives v
                (λ k le. others (group_word k) (λ f. omega arith)) groups;
            own = λ j lt. let below = word.own j lt in others (7 + j) (λ f. omega arith) ∙ stands.own j lt ∙ ap (λ f. f j) (sym u.own);
            heap = λ j lt. others (16384 + j) (λ f. omega arith) ∙ stands.heap j lt;
            full = others 2 (λ f. omega arith) ∙ stands.full;
          };
        };
      }

-- ---- from where the result and the return address are loaded

-- a hart like another but in some registers and its memory
abbrev moved_to : Hart → (registers : ℕ → ℕ) (pc : ℕ) (local : Memory) → Hart
moved_to h registers pc local = record h { registers = registers; pc = pc; local = local }

abbrev SameButFree : (rs rs' : ℕ → ℕ) → Type 0
SameButFree rs rs' = (r : ℕ) → (r == 5) ≡ false → (r == 6) ≡ false → (r == 7) ≡ false → (r == 12) ≡ false → (r == 14) ≡ false → rs' r ≡ rs r

module _ (core : List CoreOp) (image : Image) (bound : ℕ → ℕ) (places : Places) (i : ℕ) (op : CoreOp) (gives framed : Bool) (few : places.frames.of_file ≤ 56)
    (calls : CallsReturn core image bound places) (labels : HasLabels bound places) (p : Owner) (h : Hart) (at : StandsAt places p h)
    (l : Last places h.local p.runner.left.callers p.runner.has.callers) (waiting : length p.runner.has.callers < 256) where
  abbrev w : ℕ
  w = 64 * suc (length l.calls')

  abbrev r : ℕ
  r = 64 * suc (length l.calls') - suc (length l.call.values)

  abbrev Goal : Hart → Type 0
  Goal h' = HasDone core image places (ended core image bound places i op gives framed p h.local l) h' × KeepsBelow (result_word p.runner.has.callers) (frames_behind framed p.runner.has h) h h'

  abbrev v : ℕ
  v = last (values p.runner.has)

  starts : h.registers frame_register ≡ local_address w
  starts = let many : length p.runner.has.callers ≡ suc (length l.calls') = ap length l.are_calls in at.stands.frame ∙ ap (λ n. local_address (frame_start places n)) many

  comes_back : (t : MachineSetting) (k : ℕ) (rs : ℕ → ℕ) (pc : ℕ) (local : Memory) → IsAbout image t k (moved_to h rs pc local)
      → LinesAt image bound k (map quiet returning) → rs 6 ≡ 4 * l.returns.word → SameButFree h.registers rs → rs 12 ≡ frames_behind framed p.runner.has h
      → HaveGroupFrames places.frames h.local (rs group_frame_register) p.runner.left.callers p.runner.has.callers
      → ((j : ℕ) → (j ≡ r → ⊥) → local j ≡ h.local j) → HasValues (value_of local (length l.calls')) (handed gives v l.call).values
      → Comes image t (number_of p) 4 (moved_to h rs pc local) Goal
  comes_back t k rs pc local about lines link same frames groups others values' =
      let m = length l.calls' in
      let g = moved_to h rs pc local in
      let jump = calls.jumps l.returns.begun_at _ l.returns.point in
      let target = bound (label_of l.back) in
      let here : result_word p.runner.has.callers ≡ r = ap result_word l.are_calls in
      let word = is_result places m l.back (length l.call.values) r l.frame.home l.returns.room few refl in
      let header = word.header in
      let inside = word.inside in
      let many : length p.runner.has.callers ≡ suc m = ap length l.are_calls in
      let start : rs 8 ≡ local_address w = same frame_register refl refl refl refl refl ∙ starts in
      returning_comes image bound t (number_of p) k (w + 1) l.returns.word l.back g Goal about lines jump (near_word w 1 (w + 1) (rs 8) 4 start refl (omega arith) (omega arith)) link
      (labels.within (label_of l.back)) (
        ended_stands core image bound places i op gives framed p h (back_to g (w + 1) l.returns.word target) l r at
            (record { live = refl; same = λ r' a b c d e f g. rw (d, e) (same r' a b c f g) })
            few waiting refl others values' (ap (λ k. 4 * k) (labels.blocks l.back)) (others (w + 1) (λ f. omega arith) ∙ l.returns.frame) (omega (arith, start)) groups,
        record {
          node = same node_register refl refl refl refl refl;
          body = same body_register refl refl refl refl refl;
          frames_end = frames;
          blocks = same blocks_register refl refl refl refl refl;
          words = λ j lt. others j (λ f. omega arith);
        },
      )

-- ---- without a value

module _ (core : List CoreOp) (image : Image) (bound : ℕ → ℕ) (places : Places) (i : ℕ) (op : CoreOp) (few : places.frames.of_file ≤ 56) (calls : CallsReturn core image bound places)
    (setting : Setting) (t : MachineSetting) (p : Owner) (h : Hart) where
  abbrev number : ℕ
  number = number_of p

  abbrev k : ℕ
  k = places.block i

  abbrev Keeps : (framed : Bool) → Hart → Type 0
  Keeps framed h' = KeepsBelow (result_word p.runner.has.callers) (frames_behind framed p.runner.has h) h h'

  abbrev Ends : (gives framed : Bool) → Type 0
  Ends gives framed = DoesAnd core image places setting t 1 p h 0 (leaving_takes gives framed) (Keeps framed)

  abbrev Entered : (gives framed : Bool) → Type 0
  Entered gives framed = Enters core image places setting t i op (Leave gives framed) p h

  last_call : (gives framed : Bool) → Entered gives framed → Last places h.local p.runner.left.callers p.runner.has.callers
  last_call gives framed enters = last_of places h.local _ _ enters.at.stands.waiting enters.ready.may

  -- what it had before the call
  abbrev Before : (address : ℕ) → Type 0
  Before address = HaveGroupFrames places.frames h.local address p.runner.left.callers p.runner.has.callers

  before_by : (gives framed : Bool) → Entered gives framed → (own : Bool) → places.frames.group i ≡ own
      → Before (before_call own (h.registers group_frame_register) (h.local (group_word (length p.runner.has.callers))))
  before_by gives framed enters told e =
      subst (λ o. Before (before_call o (h.registers group_frame_register) (h.local (group_word (length p.runner.has.callers))))) (ap places.frames.group enters.index ∙ e) enters.at.stands.groups.1

  before_none : (gives : Bool) → Entered gives false → places.frames.group i ≡ false → Before (h.registers group_frame_register)
  before_none gives enters none = before_by gives false enters false none

  before_some : (gives : Bool) → Entered gives true → places.frames.group i ≡ true → Before (h.local (group_word (length p.runner.has.callers)))
  before_some gives enters some = before_by gives true enters true some

  leave_without : HasBlock image bound places i (leave_block false false op.depth) → OpAt core i op (Leave false false) → Fits core places.frames i op (Leave false false) → Entered false false → Ends false false
  leave_without block op_at fits enters =
      let at = enters.at in
      let waiting = enters.ready.in_range.waiting in
      let about = about_block image bound places t p h i enters.running.code enters.index at in
      let l = last_call false false enters in
      let w = 64 * suc (length l.calls') in
      let start = starts core image bound places i op false false few calls block.labels p h at l waiting in
      let many : length p.runner.has.callers ≡ suc (length l.calls') = ap length l.are_calls in
      let h1 = writes h t1 (h.local w) in
      let about1 = writing image t k h 6 (h.local w) about block.lines.0.within in
      lw_does core image places setting t p h (ended core image bound places i op false false p h.local l) (Keeps false) k 6 8 0 w 4 about block.lines.0
      (near_word w 0 w (h.registers frame_register) 0 start refl (omega arith) (omega arith)) (omega arith)
      (ended_part core image bound places i op false false setting p h.local l op_at enters.index)
      (comes_back core image bound places i op false false few calls block.labels p h at l waiting (later t) (suc k) h1.registers h1.pc h.local about1 block.lines.1 l.returns.code
      (λ r' a b c f g. rw b) refl (before_none false enters fits.place) (λ j ne. refl) l.frame.values)

  -- what the register has of the group frame
  frame_of_call : (gives : Bool) → Entered gives true → places.frames.group i ≡ true → IsGroupFrame (h.registers group_frame_register) (p.runner.has.call.frames 0)
  frame_of_call gives enters told =
      subst (λ o. TellsFrame o (h.registers group_frame_register) p.runner.has.call) (ap places.frames.group enters.index ∙ told) enters.at.stands.groups.0

  -- a hart that has given the frame back
  abbrev given : Hart
  given =
      let h1 = writes h t2 (0x08000 * 4096) in
      let h2 = writes h1 frames_register (word_sum (h1.registers group_frame_register) (h1.registers t2)) in
      writes h2 group_frame_register (h.local (group_word (length p.runner.has.callers)))

  -- the lines that give it back, and what follows them
  gives_back : (gives : Bool) → OpAt core i op (Leave gives true) → (enters : Entered gives true)
      → LinesAt image bound k (first_commits 1 giving_back) → (behind : ℕ) → behind ≤ 100
      → (IsAbout image (later (later (later t))) (suc (suc (suc k))) given
      → Comes image (later (later (later t))) number behind given (λ h'. HasDone core image places (ended core image bound places i op gives true p h.local (last_call gives true enters)) h' × Keeps true h'))
      → DoesAnd core image places setting t 1 p h 0 (suc (suc behind)) (Keeps true)
  gives_back gives op_at enters lines behind small rest =
      let at = enters.at in
      let n = length p.runner.has.callers in
      let waiting = enters.ready.in_range.waiting in
      let about = about_block image bound places t p h i enters.running.code enters.index at in
      let l = last_call gives true enters in
      let place = value_place (h.registers end_register) n 61 at.stands.behind waiting (omega arith) (omega arith) in
      let h1 = writes h t2 (0x08000 * 4096) in
      let h2 = writes h1 frames_register (word_sum (h1.registers group_frame_register) (h1.registers t2)) in
      let Goal : Hart → Type 0 = λ h'. HasDone core image places (ended core image bound places i op gives true p h.local l) h' × Keeps true h' in
      let about1 = writing image t k h 7 (0x08000 * 4096) about lines.0.within in
      let about2 = writing image (later t) (suc k) h1 12 (word_sum (h1.registers group_frame_register) (h1.registers t2)) about1 lines.1.0.within in
      let about3 = writing image (later (later t)) (suc (suc k)) h2 14 (h.local (group_word n)) about2 lines.1.1.0.within in
      alone_does core image places setting t p h h1 (ended core image bound places i op gives true p h.local l) (Keeps true) k (Lui t2 0x08000) (suc (suc behind)) about lines.0 (λ sh. refl) (omega arith)
      (ended_part core image bound places i op gives true setting p h.local l op_at enters.index)
      (first image (later t) number (suc behind) (suc k) _ h1 h2 Goal about1 lines.1.0 (λ s. (s.reserved, refl))
      (first image (later (later t)) number behind (suc (suc k)) _ h2 given Goal about2 lines.1.1.0 (lw_goes (later (later t)) number 14 9 at_group_frame (group_word n) h2 (place.1, place.0)) (rest about3)))

  leave_framed : HasBlock image bound places i (leave_block false true op.depth) → OpAt core i op (Leave false true) → Fits core places.frames i op (Leave false true) → Entered false true → Ends false true
  leave_framed block op_at fits enters =
      let at = enters.at in
      let waiting = enters.ready.in_range.waiting in
      let l = last_call false true enters in
      let w = 64 * suc (length l.calls') in
      let start = starts core image bound places i op false true few calls block.labels p h at l waiting in
      let many : length p.runner.has.callers ≡ suc (length l.calls') = ap length l.are_calls in
      let has = frame_of_call false enters fits.place in
      let cycle3 = later (later (later t)) in
      let k3 = suc (suc (suc k)) in
      let h4 = writes given t1 (h.local w) in
      let l3 = block.lines.1.1.1.0 in
      let Goal : Hart → Type 0 = λ h'. HasDone core image places (ended core image bound places i op false true p h.local l) h' × Keeps true h' in
      gives_back false op_at enters (block.lines.0, (block.lines.1.0, (block.lines.1.1.0, tt))) 5 (omega arith)
      (λ about.
      first image cycle3 number 4 k3 _ given h4 Goal about l3 (lw_goes cycle3 number 6 8 0 w given (near_word w 0 w (h.registers frame_register) 0 start refl (omega arith) (omega arith)))
      (comes_back core image bound places i op false true few calls block.labels p h at l waiting (later cycle3) (suc k3) h4.registers h4.pc h.local
      (writing image cycle3 k3 given 6 (h.local w) about l3.within) block.lines.1.1.1.1 l.returns.code
      (λ r' a b c f g. rw (b, g, f, c)) (end_of_frames _ _ has.is has.within) (before_some false enters fits.place) (λ j ne. refl) l.frame.values))

  -- ---- with one

  -- the result is stored where the call that waits takes it
  result_comes : (framed : Bool) (labels : HasLabels bound places) (enters : Entered true framed) (t' : MachineSetting) (j : ℕ) (rs : ℕ → ℕ) (pc : ℕ)
      → IsAbout image t' j (moved_to h rs pc h.local)
      → LinesAt image bound j (map quiet (Lw t1 frame_register 0 ∷ Lw t2 frame_register 8 ∷ Sw t2 t0 0 ∷ returning)) → rs 5 ≡ last (values p.runner.has) → SameButFree h.registers rs
      → rs 12 ≡ frames_behind framed p.runner.has h → Before (rs group_frame_register)
      → Comes image t' number 7 (moved_to h rs pc h.local)
      (λ h'. HasDone core image places (ended core image bound places i op true framed p h.local (last_call true framed enters)) h' × Keeps framed h')
  result_comes framed labels enters t' j rs pc about lines value same frames groups =
      let at = enters.at in
      let waiting = enters.ready.in_range.waiting in
      let l = last_call true framed enters in
      let m = length l.calls' in
      let many : length p.runner.has.callers ≡ suc m = ap length l.are_calls in
      let w = 64 * suc m in
      let r = 64 * suc m - suc (length l.call.values) in
      let start : rs 8 ≡ local_address w = same frame_register refl refl refl refl refl ∙ starts core image bound places i op true framed few calls labels p h at l waiting in
      let word = is_result places m l.back (length l.call.values) r l.frame.home l.returns.room few refl in
      let low = word.header in
      let high = word.inside in
      let g = moved_to h rs pc h.local in
      let g1 = writes g t1 (h.local w) in
      let g2 = writes g1 t2 (h.local (w + 2)) in
      let m' = put h.local r (rs 5) in
      let g3 : Hart = record (moves g2) { local = m' } in
      let Goal : Hart → Type 0 = λ h'. HasDone core image places (ended core image bound places i op true framed p h.local l) h' × Keeps framed h' in
      let about1 = writing image t' j g 6 (h.local w) about lines.0.within in
      let about2 = writing image (later t') (suc j) g1 7 (h.local (w + 2)) about1 lines.1.0.within in
      let about3 = storing image (later (later t')) (suc (suc j)) g2 m' about2 lines.1.1.0.within in
      let stored : m' r ≡ last (values p.runner.has) = same_word h.local r (rs 5) ∙ value in
      let others : (x : ℕ) → (x ≡ r → ⊥) → m' x ≡ h.local x = λ x ne. other_word h.local r (rs 5) x ne in
      first image t' number 6 j _ g g1 Goal about lines.0 (lw_goes t' number 6 8 0 w g (near_word w 0 w (rs 8) 0 start refl (omega arith) (omega arith)))
      (first image (later t') number 5 (suc j) _ g1 g2 Goal about1 lines.1.0 (lw_goes (later t') number 7 8 8 (w + 2) g1 (near_word w 2 (w + 2) (rs 8) 8 start refl (omega arith) (omega arith)))
      (first image (later (later t')) number 4 (suc (suc j)) _ g2 g3 Goal about2 lines.1.1.0
      (sw_goes (later (later t')) number 7 5 0 r g2 (near_word r 0 r (g2.registers t2) 0 l.returns.result refl (omega arith) (omega arith)))
      (comes_back core image bound places i op true framed few calls labels p h at l waiting (later (later (later t'))) (suc (suc (suc j))) g3.registers g3.pc m' about3 lines.1.1.1 l.returns.code
      (λ r' a b c f g. rw (c, b) (same r' a b c f g)) frames groups others
      (stored, values_kept h.local m' m l.call.values (λ x a b. others x (λ f. omega arith)) l.frame.values))))

  -- the last value
  value_at_depth : (framed : Bool) → Fits core places.frames i op (Leave true framed) → Entered true framed
      → (value_in h (length p.runner.has.callers) op.depth ≡ last (values p.runner.has))
      × CanRun (operand t0 op.depth) (place_reached (length p.runner.has.callers) op.depth) h
  value_at_depth framed fits enters =
      let positive = fits.values in
      let header = fits.room.header in
      let waiting = enters.ready.in_range.waiting in
      let n = length p.runner.has.callers in (
        operand_is (value_in h n) op.depth _ enters.at.stands.running.values enters.ready.depth (omega arith),
        operand_runs t0 n op.depth h enters.at.stands.behind waiting (omega arith) (omega arith),
      )

  leave_with : HasBlock image bound places i (leave_block true false op.depth) → OpAt core i op (Leave true false) → Fits core places.frames i op (Leave true false) → Entered true false → Ends true false
  leave_with block op_at fits enters =
      let at = enters.at in
      let about = about_block image bound places t p h i enters.running.code enters.index at in
      let l = last_call true false enters in
      let taken = place_word (length p.runner.has.callers) op.depth in
      let v = value_in h (length p.runner.has.callers) op.depth in
      let value = value_at_depth false fits enters in
      let h1 = writes h t0 v in
      let about1 = writing image t k h 5 v about block.lines.0.within in
      lw_does core image places setting t p h (ended core image bound places i op true false p h.local l) (Keeps false) k t0 end_register (at_value op.depth) taken 7 about block.lines.0 (value.1.1, value.1.0) (omega arith)
      (ended_part core image bound places i op true false setting p h.local l op_at enters.index)
      (result_comes false block.labels enters (later t) (suc k) h1.registers h1.pc about1 block.lines.1 value.0 (λ r' a b c f g. rw a) refl (before_none true enters fits.place))

  leave_framed_with : HasBlock image bound places i (leave_block true true op.depth) → OpAt core i op (Leave true true) → Fits core places.frames i op (Leave true true) → Entered true true → Ends true true
  leave_framed_with block op_at fits enters =
      let l = last_call true true enters in
      let taken = place_word (length p.runner.has.callers) op.depth in
      let v = value_in h (length p.runner.has.callers) op.depth in
      let value = value_at_depth true fits enters in
      let has = frame_of_call true enters fits.place in
      let cycle3 = later (later (later t)) in
      let k3 = suc (suc (suc k)) in
      let h4 = writes given t0 v in
      let l3 = block.lines.1.1.1.0 in
      let Goal : Hart → Type 0 = λ h'. HasDone core image places (ended core image bound places i op true true p h.local l) h' × Keeps true h' in
      gives_back true op_at enters (block.lines.0, (block.lines.1.0, (block.lines.1.1.0, tt))) 8 (omega arith)
      (λ about.
      first image cycle3 number 7 k3 _ given h4 Goal about l3 (lw_goes cycle3 number t0 end_register (at_value op.depth) taken given (value.1.1, value.1.0))
      (result_comes true block.labels enters (later cycle3) (suc k3) h4.registers h4.pc (writing image cycle3 k3 given 5 v about l3.within) block.lines.1.1.1.1 value.0
      (λ r' a b c f g. rw (a, g, f, c)) (end_of_frames _ _ has.is has.within) (before_some true enters fits.place)))

pub leave_keeps : (core : List CoreOp) (image : Image) (bound : ℕ → ℕ) (places : Places) (i : ℕ) (op : CoreOp) (gives framed : Bool) → places.frames.of_file ≤ 56
    → CallsReturn core image bound places → HasBlock image bound places i (leave_block gives framed op.depth) → OpAt core i op (Leave gives framed) → Fits core places.frames i op (Leave gives framed)
    → BlockKeeps core image places 1 0 (λ way. leaving_takes gives framed) i op (Leave gives framed)
leave_keeps core image bound places i op true true few calls block op_at fits setting t p h enters = leave_framed_with core image bound places i op few calls setting t p h block op_at fits enters
leave_keeps core image bound places i op true false few calls block op_at fits setting t p h enters = leave_with core image bound places i op few calls setting t p h block op_at fits enters
leave_keeps core image bound places i op false true few calls block op_at fits setting t p h enters = leave_framed core image bound places i op few calls setting t p h block op_at fits enters
leave_keeps core image bound places i op false false few calls block op_at fits setting t p h enters = leave_without core image bound places i op few calls setting t p h block op_at fits enters
