-- The block of `shmalloc` does so.
use Rattle.std.proofs.Common.{◌≡◌, ℕ, suc, ◌+◌, ◌*◌, ◌<◌, List, ◌∷◌, length, true, ap, subst, ◌∙◌, arith, refl, inl}
use Rattle.std.specs.Prelude.{if◌then◌else◌}
use Rattle.fk_num.specs.Word.{put, word_sum}
use Rattle.fk_meaning_operation.specs.declared.operation.Operation.TheVariants.{Heap}
use Rattle.fk_meaning_store.specs.Store.{heap_start}
use Rattle.fk_meaning_store.specs.Serve.{words_of}
use Rattle.fk_meaning.specs.Processor.{Setting, values, last, before}
use Rattle.fk_core.specs.declared.op.CoreOp.{CoreOp}
use Rattle.fk_image.specs.declared.Image.{Image}
use Rattle.fk_machine.specs.Hart.{Hart, Setting as MachineSetting, Goes}
use Rattle.fk_machine.proofs.Performs.{writes, moves}
use Rattle.fk_sim_nodes.specs.Alone.{in_cycles, later}
use Rattle.fk_sim_heap.specs.Count.{asked_word, added_by, is_past, block_at}
use Rattle.fk_sim_block.specs.Owner.{Owner, number_of, idle}
use Rattle.fk_sim_block.specs.Stands.{Places, StandsFor, local_address, zero_register, frame_register, end_register, number_register, rank_register, size_register, top_register, local_register, shared_register, heap_register, shared_mask_register, device_register, heap_mask_register, group_frame_register, value_in}
use Rattle.fk_sim_block.specs.Next.{OpAt}
use Rattle.fk_sim_block.specs.Suits.{Fits, nothing}
use Rattle.fk_sim_block.specs.Block.{Enters}
use Rattle.fk_sim_block.proofs.Standing.{operations_are_next}
use Rattle.fk_gen.specs.Lines.{at_value}
use Rattle.fk_gen.specs.InPlace.{HasBlock}
use Rattle.fk_gen.specs.Keeps.{Keeps, DoesAnd}
use Rattle.fk_gen.proofs.Walk.{LocalAt, can_run_goes, private, runs_join}
use Rattle.fk_gen.proofs.Values.{other_word, values_kept, values_before, length_before}
use Rattle.fk_gen.proofs.Jumps.{jumps, jal_private}
use Rattle.fk_gen.proofs.Does.{holds_in_cycles}
use Rattle.fk_sim_block.specs.Node.{node_register, body_register, frames_register, blocks_register}
use Rattle.fk_gen.specs.Registers.{t0}
use Rattle.fk_gen_access.specs.Heap.{HasHeap, heap_label, hire_block}
use Rattle.fk_gen_access.specs.HeapLaw.{ComesToHeap, GoesOnWithBlock}
use Rattle.fk_gen_access.proofs.Walk.{local_index}
use Rattle.fk_gen_access.proofs.Kept.{noted, stands_noted}
use Rattle.fk_gen_access.proofs.Found.{value_put}
use Rattle.fk_gen_access.proofs.Operands.{IsFound, last_found}
use Rattle.fk_gen_access.proofs.Refusals.{last_is_word}
use Rattle.fk_gen_access.proofs.HeapCode.{heap_code_hires}
use Rattle.fk_gen.specs.Operands.{operand, result}

-- what depends on a count, at the same count
at_count : {A : Type 0} {x : A} (f : ℕ → A) (a b : ℕ) → x ≡ f a → a ≡ b → x ≡ f b
at_count f a b e same = e ∙ ap f same

module _ (core : List CoreOp) (image : Image) (places : Places) (i : ℕ) (op : CoreOp) (setting : Setting) (t : MachineSetting) (p : Owner) (h : Hart) where
  abbrev number : ℕ
  number = number_of p

  abbrev n : ℕ
  n = length p.runner.has.callers

  abbrev vs : List ℕ
  vs = values p.runner.has

  abbrev word : ℕ
  word = local_index (word_sum (h.registers end_register) (at_value op.depth))

  abbrev k : ℕ
  k = places.block i

  -- the hart at the shared code
  abbrev there : (bound : ℕ → ℕ) → Hart
  there bound = jumps (writes h t0 (h.local word)) 1 (4 * bound heap_label)

  abbrev first : ℕ
  first = heap_start (setting.globals + setting.inputs)

  abbrev adding : ℕ
  adding = added_by p.heap.full (words_of (last vs))

  -- the processor behind the request
  abbrev hired : (count : ℕ) → Owner
  hired count = noted places p (suc i) (block_at first count adding ∷ before 1 vs) p.heap.words p.runner.has.top (is_past first (word_sum count adding))

  -- the hart that comes back, with its answer in the place of the size
  abbrev answering : Hart → Hart
  answering h3 = record (moves h3) { local = put h3.local word (h3.registers t0) }

  stands_hired : (bound : ℕ → ℕ) (count back : ℕ) (h3 : Hart) → Enters core image places setting t i op Heap p h → Fits core places.frames i op Heap
      → IsFound p h op.depth (last vs) → GoesOnWithBlock first count adding back (there bound) h3
      → StandsFor places (hired count) (answering h3) × Keeps places n op.depth nothing h (answering h3)
  stands_hired bound count back h3 en fits some goes =
      let stands = en.at.stands in
      let index = some.index in
      let depth = en.ready.depth in
      let shorter = length_before 1 vs in
      let calls = some.calls in
      let pos = some.some in
      let deep = some.few in
      let held = values_before 1 (value_in h n) vs stands.running.values in
      let held3 = values_kept h.local h3.local n (before 1 vs) (λ j from lt. goes.words j (λ e. omega arith)) held in
      let a = goes.block in
      stands_noted places p i (suc i) op.depth p.runner.has.top (block_at first count adding ∷ before 1 vs) p.heap.words (is_past first (word_sum count adding)) h (answering h3) stands en.index fits.room pos core
      (fits.goes_on true)
      (record {
        nought = goes.registers zero_register refl;
        frame = goes.registers frame_register refl;
        behind = goes.registers end_register refl;
        number = goes.registers number_register refl;
        rank = goes.registers rank_register refl;
        size = goes.registers size_register refl;
        local = goes.registers local_register refl;
        shared_data = goes.registers shared_register refl;
        private_heap = goes.registers heap_register refl;
        shared_mask = goes.registers shared_mask_register refl;
        devices = goes.registers device_register refl;
        heap_mask = goes.registers heap_mask_register refl;
        node = goes.registers node_register refl;
        body = goes.registers body_register refl;
        frames = goes.registers frames_register refl;
        blocks = goes.registers blocks_register refl;
        group_frame = goes.registers group_frame_register refl;
      })
      (goes.registers top_register refl ∙ stands.top)
      (λ j lt apart. other_word h3.local word (h3.registers t0) j (λ e. omega arith) ∙ goes.words j apart)
      (other_word h3.local word (h3.registers t0) 2 (λ e. omega arith) ∙ goes.noted)
      (value_put h3.local n word (h3.registers t0) (block_at first count adding) (before 1 vs) (omega arith) (omega arith) a held3)
      (λ j lt. other_word h3.local word (h3.registers t0) (16384 + j) (λ e. omega arith) ∙ goes.words (16384 + j) (λ e. omega arith) ∙ stands.heap j lt)

  pub hire_does : (bound : ℕ → ℕ) → OpAt core i op Heap → Enters core image places setting t i op Heap p h → Fits core places.frames i op Heap
      → HasBlock image bound places i (hire_block op.depth) → HasHeap image bound → DoesAnd core image places setting t 1 p h 16 18 (Keeps places n op.depth nothing h)
  hire_does bound op_at en fits has shared =
      let stands = en.at.stands in
      let some = last_found core image places i op Heap setting t p h en fits (let l = fits.values in omega arith) in
      let holds = en.running.code in
      let load_at = has.lines.0 in
      let jump_at = has.lines.1.0 in
      let store_at = has.lines.1.1.0 in
      let near = store_at.within in
      let h1 = writes h t0 (h.local word) in
      let h2 = there bound in
      let pc : h.pc ≡ 4 * k = en.at.at ∙ ap (λ j. 4 * places.block j) en.index in
      let pc1 : h1.pc ≡ 4 * suc k = omega arith in
      let link : word_sum h1.pc 4 ≡ 4 * suc (suc k) = omega arith in
      let cycle1 = later t in
      let cycle2 = later cycle1 in
      let globals-is = en.running.globals in
      let inputs-is = en.running.inputs in
      let few = en.running.few_inputs in
      let same : heap_start (length image.globals.items + t.inputs) ≡ first = ap (λ g. heap_start (g + t.inputs)) globals-is ∙ ap (λ j. heap_start (setting.globals + j)) inputs-is in
      let comes : ComesToHeap bound (last vs) (suc (suc k)) p.heap.full h2 = record {
        live = en.at.live;
        at = refl;
        size = some.value;
        is_word = last_is_word vs en.ready.in_range.values;
        link = link;
        within = near;
        local = stands.local;
        shared_data = stands.shared_data;
        devices = stands.devices;
        noted = stands.full;
      } in
      let code = heap_code_hires image bound cycle2 number (last vs) (suc (suc k)) p.heap.full h2 shared (holds_in_cycles image 2 t holds) (omega arith) comes in
      let committing = code.0 in
      let adds = code.2 in
      let holds18 = holds_in_cycles image 17 (later (in_cycles 16 t)) (holds_in_cycles image 17 t holds) in
      let next = has.next in
      record {
        few_before = omega arith;
        few_behind = omega arith;
        does = record {
          committing = committing;
          runs = runs_join image t number 2 14 h h2 committing (
            h1,
            private image t number k (operand t0 op.depth) h h1 holds load_at pc en.at.live
                (λ s. can_run_goes (operand t0 op.depth) (LocalAt word) h some.place t number s),
            (h2, jal_private image bound cycle1 number (suc k) 1 heap_label h1 (holds_in_cycles image 1 t holds) jump_at (has.labels.within heap_label) pc1 en.at.live, refl),
          ) code.1;
          commits = record {
            live = adds.live;
            counted = adds.counted;
            does = λ s.
                let on = adds.follows s.asked in
                let h3 = on.0 in
                let goes : GoesOnWithBlock first s.asked adding (suc (suc k)) h2 h3 = subst (λ f. GoesOnWithBlock f s.asked adding (suc (suc k)) h2 h3) same on.2 in
                let done = stands_hired bound s.asked (suc (suc k)) h3 en fits some goes in
                let pc3 = goes.at in
                let store_pc : h3.pc ≡ 4 * suc (suc k) = pc3 in
                let back = goes.registers end_register refl in
                let storable : (word < 32768) × (word_sum (h3.registers end_register) (at_value op.depth) ≡ local_address word) = (some.place.0, ap (λ x. word_sum x (at_value op.depth)) back ∙ some.place.1) in
                let cycle3 = in_cycles 17 (later (in_cycles 16 t)) in
                let value = word_sum s.asked adding in
                inl (record {
                  hart = adds.hart s.asked;
                  store = record s { asked = value };
                  done = idle (hired s.asked);
                  part = operations_are_next core i op Heap setting 0 s p op_at en.index;
                  goes = λ earlier sh shows.
                      let asked : sh.control asked_word ≡ s.asked = shows.common asked_word refl in
                      let add = adds.adds sh in (
                        record sh { control = put sh.control asked_word value; reserved = add.0 },
                        at_count (λ c. Goes (adds.hart c) (record sh { control = put sh.control asked_word (word_sum c adding); reserved = add.0 })) (sh.control asked_word) s.asked add.1 asked,
                        record { words = shows.words; output = shows.output; common = λ j e. ap (λ b. if b then value else sh.control j) e },
                        λ j e. ap (λ b. if b then value else sh.control j) e,
                      );
                  follows = (
                    answering h3,
                    runs_join image (later (in_cycles 16 t)) number 17 1 (adds.hart s.asked) h3 (answering h3) on.1 (
                      answering h3,
                      private image cycle3 number (suc (suc k)) (result t0 op.depth) h3 (answering h3) holds18 store_at store_pc goes.live
                          (λ s'. can_run_goes (result t0 op.depth) (LocalAt word) h3 storable cycle3 number s'),
                      refl,
                    ),
                    (record { done = refl; at = record { live = goes.live; at = omega (arith, store_pc, next, near); stands = done.0 } }, done.1),
                  );
                });
          };
        };
      }
