-- The opening.
use Rattle.std.proofs.Common.{◌≡◌, ℕ, zero, suc, ◌+◌, ◌*◌, ◌<◌, ◌≤◌, ◌^◌, List, [], ◌∷◌, ◌++◌, length, All, None, true, false, sym, ap, subst, ◌∙◌, arith, refl, inl, inr}
use Rattle.std.specs.Prelude.{◌==◌, slice_index, ◌⊎◌}
use Rattle.fk_num.specs.Word.{Memory, put, word_sum}
use Rattle.fk_meaning.specs.Processor.{Setting}
use Rattle.fk_core.specs.declared.op.CoreOp.{CoreOp}
use Rattle.fk_image.specs.declared.Image.{Image}
use Rattle.fk_isa.specs.declared.instruction.Instruction.TheVariants.{Lui, Addi, Lw}
use Rattle.fk_machine.specs.Hart.{Hart, Setting as MachineSetting}
use Rattle.fk_machine.specs.Cycle.{first_hart}
use Rattle.fk_machine.proofs.Performs.{writes, moves}
use Rattle.fk_sim_nodes.specs.Alone.{RunsPrivately, later, in_cycles}
use Rattle.fk_sim_block.specs.Stands.{Places, StandsAt, local_address, zero_register, frame_register, end_register, number_register, rank_register, size_register, top_register, local_register, shared_register, heap_register, shared_mask_register, device_register, heap_mask_register, TellsFrame, group_frame_register}
use Rattle.fk_sim_block.specs.Block.{IsRunning, Begins, beginner}
use Rattle.fk_gen.specs.Lines.{at_private, high_part, low_part, label_of}
use Rattle.fk_gen.specs.InPlace.{HasLabels, LinesAt}
use Rattle.fk_gen.proofs.Walk.{Quiets, Plain, TellsNumber, TellsHarts, told_of, walk, walked, lines_split, runs_join}
use Rattle.fk_gen.proofs.Values.{number_of_parts as parts_make_word, same_word, other_word}
use Rattle.fk_gen.proofs.Jumps.{jumps}
use Rattle.fk_sim_block.specs.Node.{node_register, body_register}
use Rattle.fk_gen.specs.Registers.{t0}
use Rattle.fk_gen_flow.specs.Flow.{jump_block}
use Rattle.fk_gen_flow.specs.Opening.{register_lines, first_lines, AreFirsts, HasOpening}
use Rattle.fk_gen_flow.proofs.Walk.{Comes, IsAbout, there, first, writing, storing, near_word, sw_goes, jal_goes}

-- the two parts of a number make its word
pub number_of_parts : (n : ℕ) → n < 2 ^ 32 → word_sum (high_part n * 4096) (low_part n) ≡ n
number_of_parts n small = parts_make_word n ∙ omega arith

-- ---- first values

-- a memory that has got values, from the variable with a number on
abbrev pub filled : Memory → (i : ℕ) → List ℕ → Memory
filled m i [] = m
filled m i (v ∷ vs) = filled (put m (7 + i) (word_sum (high_part v * 4096) (low_part v))) (suc i) vs

filled_other : (m : Memory) (i : ℕ) (vs : List ℕ) (w : ℕ) → ((w < 7 + i) ⊎ (7 + i + length vs ≤ w)) → filled m i vs w ≡ m w
filled_other m i [] w out = refl
filled_other m i (v ∷ vs) w (inl lt) = filled_other (put m (7 + i) (word_sum (high_part v * 4096) (low_part v))) (suc i) vs w (inl (omega arith)) ∙ other_word m (7 + i) _ w (λ e. omega arith)
filled_other m i (v ∷ vs) w (inr le) = filled_other (put m (7 + i) (word_sum (high_part v * 4096) (low_part v))) (suc i) vs w (inr (omega arith)) ∙ other_word m (7 + i) _ w (λ e. omega arith)

filled_at : (m : Memory) (i : ℕ) (vs : List ℕ) (j w : ℕ) → All (λ v. v < 2 ^ 32) vs → ((k : ℕ) → 7 + i ≤ k → m k ≡ 0) → w ≡ 7 + i + j → filled m i vs w ≡ slice_index vs j
filled_at m i [] j w small zeros is = zeros w (omega arith)
filled_at m i (v ∷ vs) zero w small zeros is =
    filled_other (put m (7 + i) (word_sum (high_part v * 4096) (low_part v))) (suc i) vs w (inl (omega arith)) ∙ ap (put m (7 + i) (word_sum (high_part v * 4096) (low_part v))) (let e : w ≡ 7 + i = omega arith in e)
    ∙ same_word m (7 + i) _ ∙ number_of_parts v (small 0 0 (omega arith))
filled_at m i (v ∷ vs) (suc j) w small zeros is =
    filled_at (put m (7 + i) (word_sum (high_part v * 4096) (low_part v))) (suc i) vs j w (λ k d lt. small (suc k) d (omega arith)) (λ k le. other_word m (7 + i) _ k (λ e. omega arith) ∙ zeros k (omega arith)) (omega arith)

-- how many cycles they take, with the jump behind them
abbrev pub cycles_of : List ℕ → ℕ
cycles_of [] = 1
cycles_of (v ∷ vs) = suc (suc (suc (cycles_of vs)))

pub few_cycles : (vs : List ℕ) → cycles_of vs ≡ 3 * length vs + 1
few_cycles [] = refl
few_cycles (v ∷ vs) = let e = few_cycles vs in omega arith

firsts_come : (image : Image) (bound : ℕ → ℕ) (number main : ℕ) (vs : List ℕ) (t : MachineSetting) (i k : ℕ) (h : Hart) (Goal : Hart → Type 0) → i + length vs ≤ 56
    → IsAbout image t k h → LinesAt image bound k (first_lines i vs ++ jump_block main) → bound (label_of main) ≤ 262144 → h.registers local_register ≡ local_address 0
    → ((h' : Hart) → h'.ended ≡ false → h'.pc ≡ 4 * bound (label_of main) → h'.local ≡ filled h.local i vs → ((r : ℕ) → (r == 5) ≡ false → h'.registers r ≡ h.registers r) → Goal h')
    → Comes image t number (cycles_of vs) h Goal
firsts_come image bound number main [] t i k h Goal few about lines le start goal =
    let target = bound (label_of main) in
    first image t number 0 k _ h (jumps h zero_register (4 * target)) Goal about lines.0 (jal_goes t number 0 0 k target h about.at lines.0.within le)
    (there image _ number _ Goal (goal (jumps h zero_register (4 * target)) about.live refl refl (λ r e. refl)))
firsts_come image bound number main (v ∷ vs) t i k h Goal few about lines le start goal =
    let v1 = high_part v * 4096 in
    let v2 = word_sum v1 (low_part v) in
    let h1 = writes h t0 v1 in
    let h2 = writes h1 t0 v2 in
    let h3 : Hart = record (moves h2) { local = put h.local (7 + i) v2 } in
    let about1 = writing image t k h 5 v1 about lines.0.within in
    let about2 = writing image (later t) (suc k) h1 5 v2 about1 lines.1.0.within in
    let about3 = storing image (later (later t)) (suc (suc k)) h2 (put h.local (7 + i) v2) about2 lines.1.1.0.within in
    first image t number (suc (suc (cycles_of vs))) k _ h h1 Goal about lines.0 (λ s. (s.reserved, refl))
    (first image (later t) number (suc (cycles_of vs)) (suc k) _ h1 h2 Goal about1 lines.1.0 (λ s. (s.reserved, refl))
    (first image (later (later t)) number (cycles_of vs) (suc (suc k)) _ h2 h3 Goal about2 lines.1.1.0 (sw_goes (later (later t)) number 22 5 (at_private i) (7 + i) h2 (near_word 0 (7 + i) (7 + i) (h2.registers local_register) (at_private i) start refl (omega arith) (omega arith)))
    (firsts_come image bound number main vs (later (later (later t))) (suc i) (suc (suc (suc k))) h3 Goal (omega arith) about3 lines.1.1.1 le start
    (λ h' live pc local same. goal h' live pc local (λ r e. same r e ∙ rw e)))))

-- the registers of a hart behind those lines of an opening that set them
pub record HasRegisters (places : Places) (setting : Setting) (hart : ℕ) (h : Hart) : Type 0 where
  pub nought : h.registers zero_register ≡ 0
  pub frame : h.registers frame_register ≡ local_address places.frames.of_file
  pub behind : h.registers end_register ≡ local_address 64
  pub number : h.registers number_register ≡ 0
  pub rank : h.registers rank_register ≡ hart
  pub size : h.registers size_register ≡ setting.processors
  pub top : h.registers top_register ≡ 0
  pub local : h.registers local_register ≡ local_address 0
  pub shared_data : h.registers shared_register ≡ 0x10000000
  pub private_heap : h.registers heap_register ≡ 0x20010000
  pub shared_mask : h.registers shared_mask_register ≡ 0xffc00003
  pub devices : h.registers device_register ≡ 0x30000000
  pub heap_mask : h.registers heap_mask_register ≡ 0xffff0003
  pub node : h.registers node_register ≡ 0x18400000
  pub body : h.registers body_register ≡ setting.processors

-- what such a hart comes to: it stands where `main` begins, with all registers but t0 as they were
abbrev pub HasBegun : Places → Setting → (firsts : List ℕ) → (main number : ℕ) → (h h' : Hart) → Type 0
HasBegun places setting firsts main number h h' =
    StandsAt places (beginner setting (slice_index firsts) main number) h' × ((r : ℕ) → (r == 5) ≡ false → h'.registers r ≡ h.registers r)

pub firsts_begin : (image : Image) (bound : ℕ → ℕ) (places : Places) (firsts : List ℕ) (main : ℕ) → HasLabels bound places → AreFirsts places.frames.of_file firsts → places.frames.is_main main ≡ true → places.frames.group main ≡ false
    → (setting : Setting) (t : MachineSetting) (number k : ℕ) (h : Hart) → IsAbout image t k h → LinesAt image bound k (first_lines 0 firsts ++ jump_block main) → HasRegisters places setting number h
    → h.local ≡ (λ i. 0) → Comes image t number (cycles_of firsts) h (HasBegun places setting firsts main number h)
firsts_begin image bound places firsts main labels are is_main none setting t number k h about lines has zeros =
    let of_file = places.frames.of_file in
    let few = are.few in
    let within = are.within in
    firsts_come image bound number main firsts t 0 k h (HasBegun places setting firsts main number h) (omega arith) about lines (labels.within (label_of main)) has.local
    (λ h' live pc local same.
    let memory : h'.local ≡ filled (λ i. 0) 0 firsts = local ∙ ap (λ m. filled m 0 firsts) zeros in (
      record {
        live = live;
        at = pc ∙ ap (λ j. 4 * j) (labels.blocks main);
        stands = record {
          nought = same zero_register refl ∙ has.nought;
          frame = same frame_register refl ∙ has.frame;
          behind = same end_register refl ∙ has.behind;
          number = same number_register refl ∙ has.number;
          rank = same rank_register refl ∙ has.rank;
          size = same size_register refl ∙ has.size;
          top = same top_register refl ∙ has.top;
          local = same local_register refl ∙ has.local;
          shared_data = same shared_register refl ∙ has.shared_data;
          private_heap = same heap_register refl ∙ has.private_heap;
          shared_mask = same shared_mask_register refl ∙ has.shared_mask;
          devices = same device_register refl ∙ has.devices;
          heap_mask = same heap_mask_register refl ∙ has.heap_mask;
          running = record {
            home = is_main;
            values = tt;
            privates = λ w e. ap (λ m. m (of_file + 7 + w)) memory ∙ filled_other (λ i. 0) 0 firsts (of_file + 7 + w) (inr (omega arith));
          };
          waiting = tt;
          groups = (
            subst (λ o. TellsFrame o (h'.registers group_frame_register) (beginner setting (slice_index firsts) main number).runner.has.call) (sym none) tt,
            tt,
          );
          own = λ j lt. ap (λ m. m (7 + j)) memory ∙ filled_at (λ i. 0) 0 firsts j (7 + j) are.words (λ k le. refl) (omega arith);
          heap = λ j lt. ap (λ m. m (16384 + j)) memory ∙ filled_other (λ i. 0) 0 firsts (16384 + j) (inr (omega arith));
          full = ap (λ m. m 2) memory ∙ filled_other (λ i. 0) 0 firsts 2 (inl (omega arith));
        };
      },
      same,
    ))

-- ---- all of it

abbrev pub register_quiets : (of_file : ℕ) → Quiets
register_quiets of_file =
    (Lui local_register 0x20000, Plain) ∷ (Addi frame_register local_register (4 * of_file), Plain) ∷ (Addi end_register local_register 256, Plain) ∷ (Lui shared_register 0x10000, Plain) ∷ (Lui heap_register 0x20010, Plain) ∷
    (Lui shared_mask_register 0xffc00, Plain) ∷ (Addi shared_mask_register shared_mask_register 3, Plain) ∷ (Lui heap_mask_register 0xffff0, Plain) ∷ (Addi heap_mask_register heap_mask_register 3, Plain) ∷ (Lui device_register 0x30000, Plain) ∷
    (Lw rank_register device_register 20, TellsNumber) ∷ (Lw size_register device_register 24, TellsHarts) ∷ (Lui node_register 0x18400, Plain) ∷ (Addi body_register size_register 0, Plain) ∷ []

abbrev pub with_registers : (of_file : ℕ) → MachineSetting → (number : ℕ) → Hart
with_registers of_file t number = walk (told_of t number) (register_quiets of_file) first_hart

-- from the beginning of an image
pub record SetsRegisters (image : Image) (places : Places) (setting : Setting) (t : MachineSetting) (number : ℕ) (h : Hart) : Type 0 where
  pub runs : RunsPrivately image t number 14 first_hart h
  pub about : IsAbout image (in_cycles 14 t) 14 h
  pub has : HasRegisters places setting number h

pub registers_come : (image : Image) (bound : ℕ → ℕ) (places : Places) (setting : Setting) (t : MachineSetting) (number : ℕ) → places.frames.of_file ≤ 56 → IsRunning image setting t
    → LinesAt image bound 0 (register_lines places.frames.of_file) → SetsRegisters image places setting t number (with_registers places.frames.of_file t number)
registers_come image bound places setting t number few running lines =
    let w = walked image bound t number running.code (register_quiets places.frames.of_file) 0 first_hart lines refl refl (tt, (tt, (tt, (tt, (tt, (tt, (tt, (tt, (tt, (tt, (refl, (refl, (tt, (tt, tt)))))))))))))) in
    record {
      runs = w.runs;
      about = record { code = running.code; live = w.live; at = w.pc };
      has = record {
        nought = refl;
        frame = omega arith;
        behind = refl;
        number = refl;
        rank = refl;
        size = running.processors;
        top = refl;
        local = refl;
        shared_data = refl;
        private_heap = refl;
        shared_mask = refl;
        devices = refl;
        heap_mask = refl;
        node = refl;
        body = omega (arith, running.processors, running.few);
      };
    }

-- a hart comes to the block where `main` begins, and its registers tell of the root
pub record BeginsInRoot (core : List CoreOp) (image : Image) (places : Places) (setting : Setting) (t : MachineSetting) (firsts : List ℕ) (main number : ℕ) : Type 0 where
  pub begins : Begins core image places t (beginner setting (slice_index firsts) main number)
  pub node : begins.hart.registers node_register ≡ 0x18400000
  pub body : begins.hart.registers body_register ≡ setting.processors

pub begins_in_root : (core : List CoreOp) (image : Image) (bound : ℕ → ℕ) (places : Places) (firsts : List ℕ) (main : ℕ) → HasOpening image bound places firsts main
    → AreFirsts places.frames.of_file firsts → places.frames.is_main main ≡ true → places.frames.group main ≡ false
    → (setting : Setting) (t : MachineSetting) (number : ℕ) → IsRunning image setting t → BeginsInRoot core image places setting t firsts main number
begins_in_root core image bound places firsts main opening are is_main none setting t number running =
    let of_file = places.frames.of_file in
    let few = are.few in
    let within = are.within in
    let split = lines_split image bound 0 (register_lines of_file) (first_lines 0 firsts ++ jump_block main) opening.lines in
    let h = with_registers of_file t number in
    let sets = registers_come image bound places setting t number few running split.0 in
    let comes = firsts_begin image bound places firsts main opening.labels are is_main none setting (in_cycles 14 t) number 14 h sets.about split.1 sets.has refl in
    let same = comes.goal.1 in
    record {
      begins = record {
        cycles = 14 + cycles_of firsts;
        few = let e = few_cycles firsts in omega arith;
        hart = comes.hart;
        runs = runs_join image t number 14 (cycles_of firsts) first_hart h comes.hart sets.runs comes.runs;
        at = comes.goal.0;
      };
      node = same node_register refl ∙ sets.has.node;
      body = same body_register refl ∙ sets.has.body;
    }
