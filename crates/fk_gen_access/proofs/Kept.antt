-- What stands in frames stays where only the last values change, the private heap, and words that nobody needs.
use Rattle.std.proofs.Common.{◌≡◌, ℕ, zero, suc, ◌+◌, ◌-◌, ◌<◌, ◌≤◌, List, [], ◌∷◌, length, Bool, true, ap, subst, ◌∙◌, arith, refl}
use Rattle.std.specs.Prelude.{◌==◌}
use Rattle.std.specs.Int.{from_bool}
use Rattle.fk_num.specs.Word.{Memory, put}
use Rattle.fk_meaning.specs.Processor.{Call}
use Rattle.fk_core.specs.declared.op.CoreOp.{CoreOp}
use Rattle.fk_core.specs.Next.{position}
use Rattle.fk_machine.specs.Hart.{Hart}
use Rattle.fk_sim_block.specs.Owner.{Owner}
use Rattle.fk_sim_block.specs.Stands.{Places, HasValues, HasRoom, HasWaiting, StandsFor, frame_start, group_word, ahead, frame_register, end_register, number_register, rank_register, size_register, top_register, local_register, shared_register, heap_register, shared_mask_register, device_register, heap_mask_register, group_frame_register, full_word, zero_register, value_in, FrameInHart, FrameInMemory, HaveGroupFrames}
use Rattle.fk_sim_block.specs.Suits.{Flows, nothing}
use Rattle.fk_gen.specs.Keeps.{Keeps}
use Rattle.fk_gen.proofs.Values.{other_word}
use Rattle.fk_gen.proofs.Standing.{lies_in, waiting_kept, groups_on, stands_with}
use Rattle.fk_sim_block.specs.Node.{node_register, body_register, frames_register, blocks_register}
use Rattle.fk_gen.proofs.ValueLines.{place_word}

-- a memory is as it was below a word
pub record SameBelow (bound : ℕ) (m m' : Memory) : Type 0 where
  pub same : (j : ℕ) → j < bound → m' j ≡ m j

-- words that are put from a word on leave those below it
pub below_put : (m : Memory) (bound k v : ℕ) → bound ≤ k → SameBelow bound m (put m k v)
below_put m bound k v le = record { same = λ j lt. other_word m k v j (λ e. omega arith) }

module _ (places : Places) where
  -- the variables of file scope have room in the frame of `main`, beside a value
  file_room : (n i : ℕ) (call : Call) (m : Memory) (values : ℕ) → 0 < values → n ≡ 0 → FrameInMemory places m n i call → HasRoom places.frames i values
      → places.frames.of_file ≤ 56
  file_room n i call m values some e frame room =
      let main : places.frames.is_main i ≡ true = frame.home ∙ ap (λ k. k == 0) e in
      let header = subst (λ b. ahead places.frames b + 7 + values ≤ 64) main room.header in
      omega arith

  file_waiting : (m : Memory) (backs : List ℕ) (calls : List Call) → 0 < length calls → HasWaiting places m backs calls → places.frames.of_file ≤ 56
  file_waiting m [] [] some held = absurd (omega arith)
  file_waiting m (i ∷ backs) (c ∷ []) some held = file_room 0 i c m (suc (length c.values)) (omega arith) refl held.1 held.0.room
  file_waiting m (i ∷ backs) (c ∷ d ∷ calls) some held = file_waiting m backs (d ∷ calls) (omega arith) held.2
  file_waiting m backs calls some held = absurd (assumption held)

  file_few : (n i d : ℕ) (m : Memory) (call : Call) (backs : List ℕ) (calls : List Call) → 0 < d → n ≡ length calls → FrameInMemory places m n i call
      → HasRoom places.frames i d → HasWaiting places m backs calls → places.frames.of_file ≤ 56
  file_few zero i d m call backs calls some e frame room waiting = file_room 0 i call m d some refl frame room
  file_few (suc n) i d m call backs calls some e frame room waiting = file_waiting m backs calls (omega arith) waiting

  -- the registers that a block leaves alone, but that of the top of the heap
  pub record SameRegisters (h h' : Hart) : Type 0 where
    pub nought : h'.registers zero_register ≡ h.registers zero_register
    pub frame : h'.registers frame_register ≡ h.registers frame_register
    pub behind : h'.registers end_register ≡ h.registers end_register
    pub number : h'.registers number_register ≡ h.registers number_register
    pub rank : h'.registers rank_register ≡ h.registers rank_register
    pub size : h'.registers size_register ≡ h.registers size_register
    pub local : h'.registers local_register ≡ h.registers local_register
    pub shared_data : h'.registers shared_register ≡ h.registers shared_register
    pub private_heap : h'.registers heap_register ≡ h.registers heap_register
    pub shared_mask : h'.registers shared_mask_register ≡ h.registers shared_mask_register
    pub devices : h'.registers device_register ≡ h.registers device_register
    pub heap_mask : h'.registers heap_mask_register ≡ h.registers heap_mask_register
    pub node : h'.registers node_register ≡ h.registers node_register
    pub body : h'.registers body_register ≡ h.registers body_register
    pub frames : h'.registers frames_register ≡ h.registers frames_register
    pub blocks : h'.registers blocks_register ≡ h.registers blocks_register
    pub group_frame : h'.registers group_frame_register ≡ h.registers group_frame_register

  -- a processor that has gone on to an index, with other values, another private heap and another top of it
  abbrev pub went : Owner → (index : ℕ) → (values : List ℕ) → (heap : Memory) → (top : ℕ) → Owner
  went p j vs heap top = record {
    runner = record { left = position j p.runner.left.callers; has = record (p.runner.has) { call = record (p.runner.has.call) { values = vs }; top = top } };
    heap = record (p.heap) { words = heap };
  }

  -- and has another note about the global heap
  abbrev pub noted : Owner → (index : ℕ) → (values : List ℕ) → (heap : Memory) → (top : ℕ) → (full : Bool) → Owner
  noted p j vs heap top full = record (went p j vs heap top) { heap = record { words = heap; full = full } }

  pub stands_noted : (p : Owner) (i j d top : ℕ) (vs : List ℕ) (heap : Memory) (full : Bool) (h h' : Hart) → StandsFor places p h → p.runner.left.at ≡ i
      → HasRoom places.frames i d → 0 < d → (core : List CoreOp) → Flows core places.frames nothing i j → SameRegisters h h'
      → h'.registers top_register ≡ top → ((k : ℕ) → k < place_word (length p.runner.has.callers) d → (k ≡ full_word → ⊥) → h'.local k ≡ h.local k)
      → h'.local full_word ≡ from_bool full
      → HasValues (value_in h' (length p.runner.has.callers)) vs → ((k : ℕ) → k < 16384 → h'.local (16384 + k) ≡ heap k)
      → StandsFor places (noted p j vs heap top full) h' × Keeps places (length p.runner.has.callers) d nothing h h'
  stands_noted p i j d top vs heap full h h' stands at room some core flows same top' below full' values heap' =
      let n = length p.runner.has.callers in
      let frame = subst (λ k. FrameInHart places h n k p.runner.has.call) at stands.running in
      let few = file_few n i d h.local p.runner.has.call p.runner.left.callers p.runner.has.callers some refl frame room stands.waiting in
      let l = lies_in places n i d few frame.home room in
      let start = l.start in
      let low = l.values in
      let short = l.few in (
        stands_with places p (noted p j vs heap top full) h h' stands (
          same.nought,
          same.frame,
          same.behind,
          same.number,
          same.rank,
          same.size,
          same.local,
          same.shared_data,
          same.private_heap,
          same.shared_mask,
          same.devices,
          same.heap_mask,
          same.group_frame,
        ) refl refl top' (record {
          running = record {
            home = flows.main ∙ frame.home;
            values = values;
            privates = λ word kept.
                let kept' = flows.kept word kept refl in
                let lt = l.kept word kept' in
                below (frame_start places n + 7 + word) (omega arith) (λ e. omega arith) ∙ frame.privates word kept';
          };
          waiting = waiting_kept places h.local h'.local p.runner.left.callers p.runner.has.callers few (λ k le lt. below k (omega arith) (λ e. omega arith)) stands.waiting;
          groups = groups_on core places nothing h.local h'.local (h.registers group_frame_register) i j p.runner.has.call (noted p j vs heap top full).runner.has.call
              p.runner.left.callers p.runner.has.callers flows refl (λ k le. below (group_word k) (omega arith) (λ e. omega arith))
              (subst (λ x. HaveGroupFrames places.frames h.local (h.registers group_frame_register) (x ∷ p.runner.left.callers) (p.runner.has.call ∷ p.runner.has.callers)) at stands.groups);
          own = λ k lt. below (7 + k) (omega arith) (λ e. omega arith) ∙ stands.own k lt;
          heap = heap';
          full = full';
        }),
        record {
          node = same.node;
          body = same.body;
          frames = same.frames;
          blocks = same.blocks;
          header = λ k lt apart. below k (omega arith) apart;
          words = λ k from lt apart. below k (omega arith) (λ e. omega arith);
        },
      )

  pub stands_on : (p : Owner) (i j d top : ℕ) (vs : List ℕ) (heap : Memory) (h h' : Hart) → StandsFor places p h → p.runner.left.at ≡ i
      → HasRoom places.frames i d → 0 < d → (core : List CoreOp) → Flows core places.frames nothing i j → SameRegisters h h'
      → h'.registers top_register ≡ top → SameBelow (place_word (length p.runner.has.callers) d) h.local h'.local
      → HasValues (value_in h' (length p.runner.has.callers)) vs → ((k : ℕ) → k < 16384 → h'.local (16384 + k) ≡ heap k)
      → StandsFor places (went p j vs heap top) h' × Keeps places (length p.runner.has.callers) d nothing h h'
  stands_on p i j d top vs heap h h' stands at room some core flows same top' below values heap' =
      let n = length p.runner.has.callers in
      let frame = subst (λ k. FrameInHart places h n k p.runner.has.call) at stands.running in
      let few = file_few n i d h.local p.runner.has.call p.runner.left.callers p.runner.has.callers some refl frame room stands.waiting in
      let l = lies_in places n i d few frame.home room in
      let low = l.values in
      stands_noted p i j d top vs heap p.heap.full h h' stands at room some core flows same top' (λ k lt apart. below.same k lt)
      (below.same 2 (omega arith) ∙ stands.full) values heap'
