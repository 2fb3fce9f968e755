-- A call.
use Rattle.std.proofs.Common.{◌≡◌, ℕ, zero, suc, ◌+◌, ◌-◌, ◌*◌, ◌<◌, ◌≤◌, ◌^◌, List, ◌∷◌, ◌++◌, length, eq-eqb, Bool, Some, None, true, false, ap, subst, sym, ◌∙◌, arith, refl, inl, inr}
use Rattle.std.specs.Prelude.{◌==◌, ◌⊎◌, nat_lt, nat_le, if◌then◌else◌}
use Rattle.std.proofs.lemmas.List.{length-append}
use Rattle.std.proofs.lemmas.Bool.{lt-ltb, le-ltb, cases_lt, eqb-true, ne_eqb}
use Rattle.fk_num.specs.Word.{Memory, put, word_sum}
use Rattle.fk_meaning_operation.specs.declared.operation.Operation.TheVariants.{Enter}
use Rattle.fk_meaning_operation.specs.declared.kinds.FaultKind.TheVariants.{CallDepth}
use Rattle.fk_meaning_store.specs.Serve.{Served, Faults as Refused}
use Rattle.fk_meaning.specs.Processor.{Call, Setting, values, before}
use Rattle.fk_meaning.specs.Request.{entered}
use Rattle.fk_meaning.specs.Round.{answered}
use Rattle.fk_core.specs.declared.op.CoreOp.{CoreOp}
use Rattle.fk_core.specs.Next.{position, behind_jump}
use Rattle.fk_image.specs.declared.Image.{Image}
use Rattle.fk_isa.specs.declared.instruction.Instruction.TheVariants.{Lui, Addi, Sw}
use Rattle.fk_machine.specs.declared.stand.Stand.TheVariants.{Faulted}
use Rattle.fk_machine.specs.Hart.{Hart, Stops, Setting as MachineSetting}
use Rattle.fk_machine.specs.Run.{count_in}
use Rattle.fk_machine.proofs.Performs.{writes, moves, sw-local, sw-fault}
use Rattle.fk_machine.proofs.Places.{place_of-local, place_of-fault}
use Rattle.fk_machine.specs.Place.{place_of}
use Rattle.fk_sim_nodes.specs.Alone.{later}
use Rattle.fk_sim_nodes.specs.Source as nodes
use Rattle.fk_sim_nodes.proofs.InPlace.{step_at}
use Rattle.fk_sim_block.specs.Owner.{Commons, Owner, Doing, number_of, part, as_part, found}
use Rattle.fk_sim_block.specs.Stands.{Places, StandsAt, FrameInHart, HasRoom, value_in, frame_end, frame_start, local_address, frame_register, end_register, heap_register, device_register, zero_register, number_register, rank_register, size_register, top_register, local_register, shared_register, shared_mask_register, heap_mask_register, TellsFrame, before_call, HaveGroupFrames, group_word, group_frame_register}
use Rattle.fk_sim_block.specs.Next.{OpAt, step_at as step_of}
use Rattle.fk_sim_block.specs.Suits.{Fits, nothing}
use Rattle.fk_sim_block.specs.Block.{Enters, HasDone}
use Rattle.fk_sim_block.proofs.Standing.{operations_are_next}
use Rattle.fk_gen.specs.Lines.{at_value, high_part, low_part, copy_label, clear_label}
use Rattle.fk_gen.specs.InPlace.{HasBlock, LinesAt}
use Rattle.fk_gen.specs.Keeps.{DoesAnd}
use Rattle.fk_gen.proofs.Values.{same_word, other_word, values_before, length_before}
use Rattle.fk_gen.proofs.Standing.{frame_kept, waiting_kept, groups_on}
use Rattle.fk_gen.proofs.Walk.{private, lines_split}
use Rattle.fk_gen.proofs.Jumps.{jumps, goes_to_pc, bne_taken, bne_on}
use Rattle.fk_sim_block.specs.Node.{space_frames, node_register, body_register, frames_register, blocks_register}
use Rattle.fk_gen.specs.Registers.{t0, t1, t2}
use Rattle.fk_gen_flow.specs.Calls.{enter_block, own_copies, copies_by, clears_by, word_lines, frame_lines, past_return, most_own, HasShared}
use Rattle.fk_gen_flow.specs.Keeps.{KeepsBelow, BlockKeeps, copying_takes, clearing_takes, call_takes}
use Rattle.fk_gen_flow.specs.Laws.{ClearsEnough, return_in}
use Rattle.fk_gen_flow.proofs.Walk.{Comes, IsAbout, first, writing, storing, next_word, words_back, near_word, sw_goes, jal_goes, jalr_goes}
use Rattle.fk_gen_flow.proofs.Frames.{room_below, flows_on}
use Rattle.fk_gen_flow.proofs.Does.{about_block}
use Rattle.fk_gen_flow.proofs.Begins.{number_of_parts}
use Rattle.fk_gen_flow.proofs.Copies.{Copied, Framed, arguments_at, copies_come, copy_cycles, few_copies, frame_comes, own_are_copies, shared_are_copies}
use Rattle.fk_gen_flow.proofs.Clears.{Cleared, arguments_end, clears_come, clear_cycles, few_clears}

-- ---- the processor that has entered

module _ (core : List CoreOp) (image : Image) (bound : ℕ → ℕ) (places : Places) (i : ℕ) (op : CoreOp) (n clears : ℕ) where
  -- where its caller goes on
  abbrev pub onward : ℕ
  onward = behind_jump core (suc i)

  abbrev pub entering : (p : Owner) → Doing
  entering p = record { acting = record { due = None; runner = record { left = position (suc i) (onward ∷ p.runner.left.callers); has = entered n p.runner.has } }; heap = p.heap }

  -- memory when a call has begun: its frame has a header and its private words
  record HasBegun (m m' : Memory) (p : Owner) (s e : ℕ) : Type 0 where
    pub code : m' e ≡ 4 * (places.block (suc i) - past_return)
    pub frame : m' (e + 1) ≡ local_address (frame_start places (length p.runner.has.callers))
    pub result : m' (e + 2) ≡ local_address (s - 1)
    pub copies : (a : ℕ) → a < n → m' (e + 7 + a) ≡ m (s - suc a)
    pub zeros : (a : ℕ) → n ≤ a → a < clears → m' (e + 7 + a) ≡ 0
    pub below : (j : ℕ) → j < e → m' j ≡ m j
    pub above : (j : ℕ) → e + 64 ≤ j → m' j ≡ m j

  entered_stands : (p : Owner) (h h' : Hart) (s : ℕ) → p.runner.left.at ≡ i → length (values p.runner.has) ≡ op.depth → StandsAt places p h → Fits core places.frames i op (Enter n)
      → ClearsEnough places.frames i clears (Enter n) → places.returns i ≡ Some (return_in core places.block i) → places.frames.of_file ≤ 56 → length p.runner.has.callers < 255 → s ≡ frame_end (length p.runner.has.callers) - (op.depth - n)
      → HasBegun h.local h'.local p s (frame_end (length p.runner.has.callers))
      → h'.ended ≡ false → h'.pc ≡ 4 * places.block (suc i)
      → ((r : ℕ) → (r == 1) ≡ false → (r == 5) ≡ false → (r == 6) ≡ false → (r == 7) ≡ false → (r == 8) ≡ false → (r == 9) ≡ false → h'.registers r ≡ h.registers r)
      → h'.registers frame_register ≡ local_address (frame_end (length p.runner.has.callers))
      → h'.registers end_register ≡ local_address (frame_end (length p.runner.has.callers) + 64)
      → HasDone core image places (entering p) h'
  entered_stands p h h' s e depth at fits enough point few waiting from begun live pc same start behind =
      let stands = at.stands in
      let w = length p.runner.has.callers in
      let end = frame_end w in
      let vs = values p.runner.has in
      let calls = fits.goes_on in
      let looks = fits.values in
      let header = fits.room.header in
      let held = subst (λ j. FrameInHart places h w j p.runner.has.call) e stands.running in
      let left = length_before n vs in
      let call' : Call = record (p.runner.has.call) { values = before n vs } in
      let flowed = flows_on places core nothing _ _ w i onward p.runner.has.call call' (λ x. refl) calls.back refl (values_before n (value_in h w) vs held.values) held in
      let many : length (before n vs) ≡ op.depth - n = omega arith in
      let room = subst (λ d. HasRoom places.frames onward (suc d)) (sym many) calls.room in
      let argument_word : (a : ℕ) → a < n → s - suc a ≡ end - (suc a + (op.depth - n)) = λ a lt. omega arith in
      let more : (suc w == 0) ≡ false = ne_eqb (suc w) 0 (λ f. omega arith) in
      record {
        done = refl;
        at = record {
          live = live;
          at = pc;
          stands = record {
            nought = same zero_register refl refl refl refl refl refl ∙ stands.nought;
            frame = start;
            behind = behind ∙ omega arith;
            number = same number_register refl refl refl refl refl refl ∙ stands.number;
            rank = same rank_register refl refl refl refl refl refl ∙ stands.rank;
            size = same size_register refl refl refl refl refl refl ∙ stands.size;
            top = same top_register refl refl refl refl refl refl ∙ stands.top;
            local = same local_register refl refl refl refl refl refl ∙ stands.local;
            shared_data = same shared_register refl refl refl refl refl refl ∙ stands.shared_data;
            private_heap = same heap_register refl refl refl refl refl refl ∙ stands.private_heap;
            shared_mask = same shared_mask_register refl refl refl refl refl refl ∙ stands.shared_mask;
            devices = same device_register refl refl refl refl refl refl ∙ stands.devices;
            heap_mask = same heap_mask_register refl refl refl refl refl refl ∙ stands.heap_mask;
            running = record {
              home = calls.inside ∙ sym more;
              values = tt;
              privates = λ a k. elim (cases_lt a n) [
                | inl lt ↦ begun.copies a lt ∙ ap h.local (argument_word a lt) ∙ arguments_at (value_in h w) n vs a (suc a + (op.depth - n)) held.values (omega arith) lt (omega arith)
                | inr le ↦ begun.zeros a le (enough.1 a (calls.kept a k) k le) ∙ sym (arguments_end n vs a le)
              ];
            };
            waiting = (
              record {
                begun_at = i;
                word = places.block (suc i) - past_return;
                point = point;
                code = begun.code;
                frame = begun.frame;
                result = begun.result ∙ omega arith;
                room = room;
              },
              frame_kept places h.local h'.local w onward (length (before n vs)) call' few (room_below places onward (length (before n vs)) (suc (length (before n vs))) (omega arith) room) (omega arith) (λ j a b. begun.below j b) flowed,
              waiting_kept places h.local h'.local p.runner.left.callers p.runner.has.callers few (λ j a b. begun.below j (omega arith)) stands.waiting,
            );
            groups = (
              subst (λ o. TellsFrame o (h'.registers group_frame_register) (entered n p.runner.has).call) (sym calls.none) tt,
              subst (λ o. HaveGroupFrames places.frames h'.local (before_call o (h'.registers group_frame_register) (h'.local (group_word (suc w)))) (onward ∷ p.runner.left.callers) (call' ∷ p.runner.has.callers)) (sym calls.none)
                  (subst (λ a. HaveGroupFrames places.frames h'.local a (onward ∷ p.runner.left.callers) (call' ∷ p.runner.has.callers)) (sym (same group_frame_register refl refl refl refl refl refl))
                  (groups_on core places nothing h.local h'.local (h.registers group_frame_register) i onward p.runner.has.call call' p.runner.left.callers p.runner.has.callers calls.back refl
                  (λ k le. begun.below (group_word k) (omega arith))
                  (subst (λ j. HaveGroupFrames places.frames h.local (h.registers group_frame_register) (j ∷ p.runner.left.callers) (p.runner.has.call ∷ p.runner.has.callers)) e stands.groups))),
            );
            own = λ j lt. begun.below (7 + j) (omega arith) ∙ stands.own j lt;
            heap = λ j lt. begun.above (16384 + j) (omega arith) ∙ stands.heap j lt;
            full = begun.below 2 (omega arith) ∙ stands.full;
          };
        };
      }

-- ---- the depth

abbrev is_last : (a b : ℕ) → Bool
is_last a b = a == b

may_wait : (w a b : ℕ) → w < 255 → a ≡ local_address (64 * suc w) → b ≡ 0x20010000 → is_last a b ≡ false
may_wait w a b lt e f = ne_eqb a b (λ g. omega arith)

no_more : (w a b : ℕ) → w ≡ 255 → a ≡ local_address (64 * suc w) → b ≡ 0x20010000 → is_last a b ≡ true
no_more w a b is e f = eq-eqb a b (omega arith)

length-own : (n : ℕ) → length (own_copies n) ≡ 2 * n
length-own zero = refl
length-own (suc n) = let e = length-own n in omega arith

two_words : (m : Memory) (e a b j : ℕ) → ((j < e) ⊎ (e + 3 ≤ j)) → put (put m (e + 1) a) (e + 2) b j ≡ m j
two_words m e a b j (inl lt) = other_word (put m (e + 1) a) (e + 2) b j (λ f. omega arith) ∙ other_word m (e + 1) a j (λ f. omega arith)
two_words m e a b j (inr le) = other_word (put m (e + 1) a) (e + 2) b j (λ f. omega arith) ∙ other_word m (e + 1) a j (λ f. omega arith)

-- how many cycles the arguments take, and what follows
abbrev argument_cycles : (few : Bool) (n rest : ℕ) → ℕ
argument_cycles true n rest = copy_cycles n rest
argument_cycles false n rest = suc (copy_cycles n (suc rest))

-- and those of what is cleared
abbrev clearing_cycles : (none : Bool) (clears rest : ℕ) → ℕ
clearing_cycles true clears rest = rest
clearing_cycles false clears rest = suc (clear_cycles clears (suc rest))

arguments_take : (own : Bool) (n rest : ℕ) → argument_cycles own n rest ≡ copying_takes own n + rest
arguments_take true n rest = let e = few_copies n rest in omega arith
arguments_take false n rest = let e = few_copies n (suc rest) in omega arith

clears_take : (none : Bool) (clears rest : ℕ) → clearing_cycles none clears rest ≡ clearing_takes none clears + rest
clears_take true clears rest = omega arith
clears_take false clears rest = let e = few_clears clears (suc rest) in omega arith

few_by : (none own : Bool) (clears n : ℕ) → clears ≤ 56 → n ≤ 56 → clearing_takes none clears + copying_takes own n + 4 ≤ 183
few_by true true clears n few le = omega arith
few_by true false clears n few le = omega arith
few_by false true clears n few le = omega arith
few_by false false clears n few le = omega arith

pub few_take : (clears n : ℕ) → clears ≤ 56 → n ≤ 56 → call_takes clears n ≤ 183
few_take clears n few le = few_by (clears == 0) (nat_le n (most_own (clears == 0))) clears n few le

-- from the commit on
abbrev cycles_behind : (clears n : ℕ) → ℕ
cycles_behind clears n = clearing_cycles (clears == 0) clears (argument_cycles (nat_le n (most_own (clears == 0))) n 4)

all_take : (clears n : ℕ) → cycles_behind clears n ≡ call_takes clears n
all_take clears n =
    let own = nat_le n (most_own (clears == 0)) in
    let e = clears_take (clears == 0) clears (argument_cycles own n 4) in
    let f = arguments_take own n 4 in
    omega arith

module _ (core : List CoreOp) (image : Image) (bound : ℕ → ℕ) (places : Places) (i : ℕ) (op : CoreOp) (n clears back : ℕ)
    (few : places.frames.of_file ≤ 56) (small : op.site < 2 ^ 32) (shared : HasShared image bound)
    (block : HasBlock image bound places i (enter_block clears n op.depth op.site back)) (point : places.returns i ≡ Some (return_in core places.block i))
    (op_at : OpAt core i op (Enter n)) (fits : Fits core places.frames i op (Enter n)) (enough : ClearsEnough places.frames i clears (Enter n)) where
  -- what becomes of the depth
  answer_of : (p : Owner) → Commons → Bool → nodes.Part Commons Doing
  answer_of p s b = as_part s.asked p (answered (step_of core i op (Enter n) p.runner.left.callers) p.runner.has (if b then Served (found s p.heap) 0 else Refused CallDepth))

  asked : (setting : Setting) (s : Commons) (p : Owner) (b : Bool) → p.runner.left.at ≡ i → nat_lt (suc (length p.runner.has.callers)) 256 ≡ b → part core setting 1 s p ≡ answer_of p s b
  unfolding answer_of
  asked setting s p b e is = operations_are_next core i op (Enter n) setting 0 s p op_at e ∙ ap (answer_of p s) is

  served : (setting : Setting) (s : Commons) (p : Owner) → p.runner.left.at ≡ i → length p.runner.has.callers < 255 → part core setting 1 s p ≡ nodes.Passes s (entering core image bound places i op n clears p)
  unfolding answer_of
  served setting s p e lt = asked setting s p true e (lt-ltb (suc (length p.runner.has.callers)) 256 (omega arith))

  refused : (setting : Setting) (s : Commons) (p : Owner) → p.runner.left.at ≡ i → 255 ≤ length p.runner.has.callers → part core setting 1 s p ≡ nodes.Breaks op.site
  unfolding answer_of
  refused setting s p e le = asked setting s p false e (le-ltb (suc (length p.runner.has.callers)) 256 (omega arith))

  -- from the commit on: the hart has stored the frame of the call that waits, and where it takes its result
  module _ (p : Owner) (h h4 : Hart) (index : p.runner.left.at ≡ i) (depth : length (values p.runner.has) ≡ op.depth) (at : StandsAt places p h)
      (waiting : length p.runner.has.callers < 255) where
    abbrev end : ℕ
    end = 64 * suc (length p.runner.has.callers)

    abbrev s : ℕ
    s = end - (op.depth - n)

    abbrev Goal : Hart → Type 0
    Goal h' = HasDone core image places (entering core image bound places i op n clears p) h' × KeepsBelow end (space_frames h) h h'

    record HasStored : Type 0 where
      pub first : h4.registers t2 ≡ local_address (s - 1)
      pub same : (r : ℕ) → (r == 7) ≡ false → h4.registers r ≡ h.registers r
      pub frame : h4.local (end + 1) ≡ h.registers frame_register
      pub result : h4.local (end + 2) ≡ local_address (s - 1)
      pub others : (j : ℕ) → ((j < end) ⊎ (end + 3 ≤ j)) → h4.local j ≡ h.local j

    -- the private words of the new frame stand in it, and nothing else has changed
    record HasWords (m m' : Memory) : Type 0 where
      pub copies : (a : ℕ) → a < n → m' (end + 7 + a) ≡ m (s - suc a)
      pub zeros : (a : ℕ) → n ≤ a → a < clears → m' (end + 7 + a) ≡ 0
      pub others : (j : ℕ) → ((j < end + 7) ⊎ (end + 64 ≤ j)) → m' j ≡ m j

    -- with them and the frame it has begun its call
    has_begun : (kf : ℕ) (hx hf : Hart) → HasStored → HasWords h4.local hx.local
        → ((r : ℕ) → (r == 5) ≡ false → (r == 6) ≡ false → hx.registers r ≡ h4.registers r) → Framed hx hf end kf → places.block (suc i) ≡ kf + 5 → Goal hf
    has_begun kf hx hf stored words same framed next =
        let stands = at.stands in
        let looks = fits.values in
        let header = fits.room.header in
        let calls = fits.goes_on in
        let few_arguments = calls.few in
        let code = framed.code in
        let old : (j : ℕ) → (j ≡ end → ⊥) → hf.local j ≡ hx.local j = framed.others in
        let below : (j : ℕ) → j < end → hf.local j ≡ h.local j = λ j lt. old j (λ f. omega arith) ∙ words.others j (inl (omega arith)) ∙ stored.others j (inl lt) in (
          entered_stands core image bound places i op n clears p h hf s index depth at fits enough point few waiting refl
              (record {
                code = omega (arith, code, next);
                frame = old (end + 1) (λ f. omega arith) ∙ words.others (end + 1) (inl (omega arith)) ∙ stored.frame ∙ stands.frame;
                result = old (end + 2) (λ f. omega arith) ∙ words.others (end + 2) (inl (omega arith)) ∙ stored.result;
                copies = λ a lt. old (end + 7 + a) (λ f. omega arith) ∙ words.copies a lt ∙ stored.others (s - suc a) (inl (omega arith));
                zeros = λ a le lt. old (end + 7 + a) (λ f. omega arith) ∙ words.zeros a le lt;
                below = below;
                above = λ j le. old j (λ f. omega arith) ∙ words.others j (inr le) ∙ stored.others j (inr (omega arith));
              })
              framed.live (framed.at ∙ ap (λ k. 4 * k) (sym next))
              (λ r a1 a5 a6 a7 a8 a9. framed.same r a1 a8 a9 ∙ same r a5 a6 ∙ stored.same r a7) framed.start framed.behind,
          record {
            node = framed.same node_register refl refl refl ∙ same node_register refl refl ∙ stored.same node_register refl;
            body = framed.same body_register refl refl refl ∙ same body_register refl refl ∙ stored.same body_register refl;
            frames_end = framed.same frames_register refl refl refl ∙ same frames_register refl refl ∙ stored.same frames_register refl;
            blocks = framed.same blocks_register refl refl refl ∙ same blocks_register refl refl ∙ stored.same blocks_register refl;
            words = below;
          },
        )

    -- the new frame
    frame_begins : (t : MachineSetting) (k : ℕ) (hx : Hart) → IsAbout image t k hx → HasStored → LinesAt image bound k (frame_lines back)
        → HasWords h4.local hx.local → ((r : ℕ) → (r == 5) ≡ false → (r == 6) ≡ false → hx.registers r ≡ h4.registers r)
        → places.block (suc i) ≡ k + 5 → Comes image t (number_of p) 4 hx Goal
    frame_begins t k hx about stored lines words same next =
        frame_comes image bound (number_of p) end k back Goal t hx lines (omega arith) about (same end_register refl refl ∙ stored.same end_register refl ∙ at.stands.behind)
        (λ hf framed. has_begun k hx hf stored words same framed next)

    -- the arguments come to a frame of which some words are cleared
    words_stand : (m m1 m' : Memory) → Cleared m m1 end clears → Copied m1 m' s end n → s ≤ end → n ≤ 56 → clears ≤ 56 → HasWords m m'
    words_stand m m1 m' cleared copied below few_arguments few_clears' = record {
      copies = λ a lt. copied.copies a lt ∙ cleared.others (s - suc a) (inl (omega arith));
      zeros = λ a le lt. copied.others (end + 7 + a) (inr (omega arith)) ∙ cleared.zeros a lt;
      others = λ j out. elim out [
        | inl lt ↦ copied.others j (inl lt) ∙ cleared.others j (inl lt)
        | inr le ↦ copied.others j (inr (omega arith)) ∙ cleared.others j (inr (omega arith))
      ];
    }

    -- the arguments, and then the new frame
    arguments_come : (own : Bool) (t : MachineSetting) (k : ℕ) (hc : Hart) → IsAbout image t k hc → HasStored → LinesAt image bound k (copies_by own n)
        → LinesAt image bound (k + length (copies_by own n)) (frame_lines back) → Cleared h4.local hc.local end clears
        → ((r : ℕ) → (r == 6) ≡ false → hc.registers r ≡ h4.registers r)
        → places.block (suc i) ≡ k + length (copies_by own n) + 5 → Comes image t (number_of p) (argument_cycles own n 4) hc Goal
    arguments_come true t k hc about stored lines frame cleared same next =
        let number = number_of p in
        let looks = fits.values in
        let header = fits.room.header in
        let few_arguments = fits.goes_on.few in
        let few_cleared = enough.0 in
        let many = length-own n in
        let word : ℕ → ℕ = λ m. k + 2 * (n - m) in
        let at4 = about.at in
        let begin : IsAbout image t (word n) hc = record { code = about.code; live = about.live; at = omega arith } in
        copies_come image bound number s end 4 n word Goal (own_are_copies image bound n k lines) (omega arith) (omega arith) few_arguments n t hc (omega arith) (omega arith) begin
        (same t2 refl ∙ stored.first) (same end_register refl ∙ stored.same end_register refl ∙ at.stands.behind)
        (λ t' h' about' same' copied.
        let pc = about'.at in
        let there' : IsAbout image t' (k + length (own_copies n)) h' = record { code = about'.code; live = about'.live; at = omega (arith, pc, many) } in
        frame_begins t' (k + length (own_copies n)) h' there' stored frame
        (words_stand h4.local hc.local h'.local cleared copied (omega arith) few_arguments few_cleared)
        (λ r a b. same' r a ∙ same r b) next)
    arguments_come false t k hc about stored lines frame cleared same next =
        let number = number_of p in
        let looks = fits.values in
        let header = fits.room.header in
        let few_arguments = fits.goes_on.few in
        let few_cleared = enough.0 in
        let l0 = lines.0 in
        let within = l0.within in
        let entry = bound (copy_label n) in
        let pc = about.at in
        let h5 = jumps hc t1 (4 * entry) in
        let begin : IsAbout image (later t) entry h5 = record { code = about.code; live = about.live; at = refl } in
        let linked : h5.registers t1 + 0 ≡ 4 * suc k = omega arith in
        let here : k + 1 ≡ suc k = omega arith in
        first image t number (copy_cycles n 5) k _ hc h5 Goal about l0 (jal_goes t number 6 0 k entry hc about.at l0.within (block.labels.within (copy_label n)))
        (copies_come image bound number s end 5 56 (λ m. bound (copy_label m)) Goal (shared_are_copies image bound shared.copying) (omega arith) (omega arith) (omega arith) n (later t) h5 few_arguments (omega arith) begin
        (same t2 refl ∙ stored.first) (same end_register refl ∙ stored.same end_register refl ∙ at.stands.behind)
        (λ t' h' about' same' copied.
        let hx = jumps h' 0 (4 * suc k) in
        let link : h'.registers t1 + 0 ≡ 4 * suc k = ap (λ v. v + 0) (same' 6 refl) ∙ linked in
        let there' : IsAbout image (later t') (suc k) hx = record { code = about'.code; live = about'.live; at = refl } in
        first image t' number 4 (bound (copy_label 0)) _ h' hx Goal about' shared.copying.back.0 (jalr_goes t' number 0 6 0 (suc k) h' link (omega arith))
        (frame_begins (later t') (suc k) hx there' stored (subst (λ j. LinesAt image bound j (frame_lines back)) here frame)
        (words_stand h4.local hc.local h'.local cleared copied (omega arith) few_arguments few_cleared)
        (λ r a b. same' r a ∙ rw b (same r b)) (omega arith))))

    -- what is cleared, and then the arguments
    words_come : (none own : Bool) (t : MachineSetting) (k : ℕ) → (clears == 0) ≡ none → IsAbout image t k h4 → HasStored → LinesAt image bound k (clears_by none clears)
        → LinesAt image bound (k + length (clears_by none clears)) (copies_by own n)
        → LinesAt image bound (k + length (clears_by none clears) + length (copies_by own n)) (frame_lines back)
        → places.block (suc i) ≡ k + length (clears_by none clears) + length (copies_by own n) + 5
        → Comes image t (number_of p) (clearing_cycles none clears (argument_cycles own n 4)) h4 Goal
    words_come true own t k is about stored lines copies frame next =
        let here : k + 0 ≡ k = omega arith in
        let nothing_cleared : clears ≡ 0 = eqb-true clears 0 is in
        arguments_come own t k h4 about stored (subst (λ j. LinesAt image bound j (copies_by own n)) here copies)
        (subst (λ j. LinesAt image bound (j + length (copies_by own n)) (frame_lines back)) here frame)
        (record { zeros = λ a lt. absurd (omega arith); others = λ j out. refl })
        (λ r a. refl) (omega arith)
    words_come false own t k is about stored lines copies frame next =
        let number = number_of p in
        let few_cleared = enough.0 in
        let l0 = lines.0 in
        let entry = bound (clear_label clears) in
        let pc = about.at in
        let within = l0.within in
        let rest = argument_cycles own n 4 in
        let h5 = jumps h4 t1 (4 * entry) in
        let begin : IsAbout image (later t) entry h5 = record { code = about.code; live = about.live; at = refl } in
        let linked : h5.registers t1 + 0 ≡ 4 * suc k = omega arith in
        let here : k + 1 ≡ suc k = omega arith in
        first image t number (clear_cycles clears (suc rest)) k _ h4 h5 Goal about l0 (jal_goes t number 6 0 k entry h4 about.at l0.within (block.labels.within (clear_label clears)))
        (clears_come image bound number end (suc rest) Goal shared.clearing (omega arith) clears (later t) h5 few_cleared begin
        (stored.same zero_register refl ∙ at.stands.nought) (stored.same end_register refl ∙ at.stands.behind)
        (λ t' h' about' same cleared.
        let hx = jumps h' 0 (4 * suc k) in
        let link : h'.registers t1 + 0 ≡ 4 * suc k = ap (λ v. v + 0) (same 6) ∙ linked in
        let there' : IsAbout image (later t') (suc k) hx = record { code = about'.code; live = about'.live; at = refl } in
        first image t' number rest (bound (clear_label 0)) _ h' hx Goal about' shared.clearing.back.0 (jalr_goes t' number 0 6 0 (suc k) h' link (omega arith))
        (arguments_come own (later t') (suc k) hx there' stored (subst (λ j. LinesAt image bound j (copies_by own n)) here copies)
        (subst (λ j. LinesAt image bound (j + length (copies_by own n)) (frame_lines back)) here frame) cleared
        (λ r a. same r ∙ rw a) (omega arith))))

    call_comes : (none own : Bool) (t : MachineSetting) (k7 : ℕ) → (clears == 0) ≡ none → IsAbout image t k7 h4 → HasStored
        → LinesAt image bound k7 ((clears_by none clears ++ copies_by own n) ++ frame_lines back)
        → places.block (suc i) ≡ k7 + length (clears_by none clears ++ copies_by own n) + 5
        → Comes image t (number_of p) (clearing_cycles none clears (argument_cycles own n 4)) h4 Goal
    call_comes none own t k7 is about stored lines next =
        let split = lines_split image bound k7 (clears_by none clears ++ copies_by own n) (frame_lines back) lines in
        let words = lines_split image bound k7 (clears_by none clears) (copies_by own n) split.0 in
        let total = length-append (clears_by none clears) (copies_by own n) in
        let there' : k7 + length (clears_by none clears ++ copies_by own n) ≡ k7 + length (clears_by none clears) + length (copies_by own n) = omega arith in
        words_come none own t k7 is about stored words.0 words.1 (subst (λ k. LinesAt image bound k (frame_lines back)) there' split.1) (omega arith)

  -- 255 calls wait already
  faults : (setting : Setting) (t : MachineSetting) (p : Owner) (h : Hart) → Enters core image places setting t i op (Enter n) p h → 255 ≤ length p.runner.has.callers
      → DoesAnd core image places setting t 1 p h 3 (call_takes clears n) (KeepsBelow (frame_end (length p.runner.has.callers)) (space_frames h) h)
  faults setting t p h enters le =
      let number = number_of p in
      let stands = enters.at.stands in
      let w = length p.runner.has.callers in
      let most = enters.ready.in_range.waiting in
      let k = places.block i in
      let about = about_block image bound places t p h i enters.running.code enters.index enters.at in
      let l0 = block.lines.0 in
      let l1 = block.lines.1.0 in
      let l2 = block.lines.1.1.0 in
      let l3 = block.lines.1.1.1.0 in
      let v2 = high_part op.site * 4096 in
      let v3 = word_sum v2 (low_part op.site) in
      let h1 = goes_to_pc h (word_sum h.pc 4) in
      let h2 = writes h1 t0 v2 in
      let h3 = writes h2 t0 v3 in
      let cycle1 = later t in
      let cycle2 = later cycle1 in
      let cycle3 = later cycle2 in
      let about1 : IsAbout image cycle1 (suc k) h1 = record { code = about.code; live = about.live; at = next_word h.pc k about.at l0.within } in
      let about2 = writing image cycle1 (suc k) h1 5 v2 about1 l1.within in
      let about3 = writing image cycle2 (suc (suc k)) h2 5 v3 about2 l2.within in
      let last = no_more w (h.registers end_register) (h.registers heap_register) (omega arith) stands.behind stands.private_heap in
      let device : h3.registers device_register ≡ 0x30000000 = stands.devices in
      record {
        few_before = omega arith;
        few_behind = few_take clears n enough.0 fits.goes_on.few;
        does = record {
          committing = h3;
          runs = (
            h1,
            bne_on image t number k 9 24 16 h about.code l0 about.at about.live last,
            (
              h2,
              private image cycle1 number (suc k) (Lui t0 (high_part op.site)) h1 h2 about1.code l1 about1.at about1.live (λ s. (s.reserved, refl)),
              (h3, private image cycle2 number (suc (suc k)) (Addi t0 t0 (low_part op.site)) h2 h3 about2.code l2 about2.at about2.live (λ s. (s.reserved, refl)), refl),
            ),
          );
          commits = record {
            live = about3.live;
            counted = ap (count_in image.commits.items) about3.at ∙ l3.counted;
            does = λ s. inr (record {
              site = op.site;
              part = refused setting s p enters.index le;
              stops = λ earlier sh shows.
                  step_at image (suc (suc (suc k))) 1 (Sw device_register t0 8) l3 cycle3 about3.code number h3 sh about3.at
                  ∙ sw-fault cycle3 number 26 5 8 h3 sh (omega (arith, device)) (ap (λ a. place_of (word_sum a 8)) device ∙ place_of-fault)
                  ∙ ap (λ v. Stops (Faulted v number)) (number_of_parts op.site small);
            });
          };
        };
      }

  -- else there is room
  begins : (setting : Setting) (t : MachineSetting) (p : Owner) (h : Hart) → Enters core image places setting t i op (Enter n) p h → length p.runner.has.callers < 255
      → DoesAnd core image places setting t 1 p h 3 (cycles_behind clears n) (KeepsBelow (frame_end (length p.runner.has.callers)) (space_frames h) h)
  begins setting t p h enters lt =
      let number = number_of p in
      let stands = enters.at.stands in
      let w = length p.runner.has.callers in
      let e = 64 * suc w in
      let looks = fits.values in
      let header = fits.room.header in
      let few_arguments = fits.goes_on.few in
      let k = places.block i in
      let about = about_block image bound places t p h i enters.running.code enters.index enters.at in
      let l0 = block.lines.0 in
      let l4 = block.lines.1.1.1.1.0 in
      let l5 = block.lines.1.1.1.1.1.0 in
      let l6 = block.lines.1.1.1.1.1.1.0 in
      let within = l6.within in
      let k4 = suc (suc (suc (suc k))) in
      let place = e - (op.depth - n) - 1 in
      let v = word_sum (h.registers end_register) (at_value (op.depth - n + 1)) in
      let same_place : e - (op.depth - n + 1) ≡ place = omega arith in
      let first_place : v ≡ local_address place = words_back e (op.depth - n + 1) (h.registers end_register) stands.behind (omega arith) (omega arith) ∙ ap local_address same_place in
      let m1 = put h.local (e + 1) (h.registers frame_register) in
      let m2 = put m1 (e + 2) v in
      let h1 = goes_to_pc h (word_sum h.pc 16) in
      let h2 : Hart = record (moves h1) { local = m1 } in
      let h3 = writes h2 t2 v in
      let h4 : Hart = record (moves h3) { local = m2 } in
      let cycle1 = later t in
      let cycle2 = later cycle1 in
      let cycle3 = later cycle2 in
      let pc = about.at in
      let about1 : IsAbout image cycle1 k4 h1 = record { code = about.code; live = about.live; at = omega arith } in
      let about2 = storing image cycle1 k4 h1 m1 about1 l4.within in
      let about3 = writing image cycle2 (suc k4) h2 7 v about2 l5.within in
      let about4 = storing image cycle3 (suc (suc k4)) h3 m2 about3 l6.within in
      let wait = may_wait w (h.registers end_register) (h.registers heap_register) lt stands.behind stands.private_heap in
      let second = near_word e 2 (e + 2) (h3.registers end_register) 8 stands.behind refl (omega arith) (omega arith) in
      let short = few_take clears n enough.0 few_arguments in
      let all = all_take clears n in
      let words = word_lines clears n in
      let total = length-append words (frame_lines back) in
      let next = block.next in
      record {
        few_before = omega arith;
        few_behind = omega arith;
        does = record {
          committing = h3;
          runs = (
            h1,
            bne_taken image t number k 9 24 16 h about.code l0 about.at about.live wait (omega arith),
            (
              h2,
              private image cycle1 number k4 (Sw end_register frame_register 4) h1 h2 about1.code l4 about1.at about1.live (sw_goes cycle1 number 9 8 4 (e + 1) h1 (near_word e 1 (e + 1) (h.registers end_register) 4 stands.behind refl (omega arith) (omega arith))),
              (h3, private image cycle2 number (suc k4) (Addi t2 end_register (at_value (op.depth - n + 1))) h2 h3 about2.code l5 about2.at about2.live (λ s. (s.reserved, refl)), refl),
            ),
          );
          commits = record {
            live = about3.live;
            counted = ap (count_in image.commits.items) about3.at ∙ l6.counted;
            does = λ s. inl (record {
              hart = h4;
              store = s;
              done = entering core image bound places i op n clears p;
              part = served setting s p enters.index lt;
              goes = λ earlier sh shows. (
                _,
                step_at image (suc (suc k4)) 1 (Sw end_register t2 8) l6 cycle3 about3.code number h3 sh about3.at
                    ∙ sw-local cycle3 number 9 7 8 (e + 2) h3 sh (omega (arith, second.0)) (place_of-local _ (e + 2) second.1 second.0),
                record { words = shows.words; output = shows.output; common = shows.common },
                λ j e. refl,
              );
              follows =
                  let comes = call_comes p h h4 enters.index enters.ready.depth enters.at lt (clears == 0) (nat_le n (most_own (clears == 0))) (later cycle3) (suc (suc (suc k4))) refl about4
                  (record {
                    first = first_place;
                    same = λ r f. rw f;
                    frame = other_word m1 (e + 2) v (e + 1) (λ f. omega arith) ∙ same_word h.local (e + 1) (h.registers frame_register);
                    result = same_word m1 (e + 2) v ∙ first_place;
                    others = λ j out. two_words h.local e (h.registers frame_register) v j out;
                  })
                  block.lines.1.1.1.1.1.1.1 (omega arith) in
                  (comes.hart, comes.runs, comes.goal);
            });
          };
        };
      }

  pub enter_keeps : BlockKeeps core image places 1 3 (λ way. call_takes clears n) i op (Enter n)
  enter_keeps setting t p h enters = elim (cases_lt (length p.runner.has.callers) 255) [
    | inl lt ↦ subst (λ c. DoesAnd core image places setting t 1 p h 3 c (KeepsBelow (frame_end (length p.runner.has.callers)) (space_frames h) h)) (all_take clears n) (begins setting t p h enters lt)
    | inr le ↦ faults setting t p h enters le
  ]
