-- The blocks of reads, writes and multiprefixes do so.
use Rattle.std.proofs.Common.{◌≡◌, ℕ, suc, ◌+◌, ◌-◌, ◌<◌, List, ◌∷◌, length, true, false, ap, ◌∙◌, arith, refl, eq-eqb, ◌⊎◌, inl, inr}
use Rattle.std.specs.Prelude.{if◌then◌else◌}
use Rattle.fk_num.specs.Word.{Memory, word_sum, put}
use Rattle.fk_num.specs.Op.{applied}
use Rattle.fk_meaning_operation.specs.declared.operation.Multiprefix.{Multiprefix}
use Rattle.fk_meaning_operation.specs.declared.operation.Multiprefix.TheVariants.{MpAdd, MpMax, MpAnd, MpOr}
use Rattle.fk_meaning_operation.specs.declared.operation.Operation.TheVariants.{Read, Write, Combine}
use Rattle.fk_meaning_store.specs.Store.{Store}
use Rattle.fk_meaning_store.specs.Serve.{Served, read, write, shared_index, private_index, operator_of}
use Rattle.fk_meaning.specs.Processor.{Setting, values, last, before}
use Rattle.fk_meaning.specs.Round.{answered}
use Rattle.fk_core.specs.declared.op.CoreOp.{CoreOp}
use Rattle.fk_image.specs.declared.Image.{Image}
use Rattle.fk_machine.specs.Place.{place_of}
use Rattle.fk_machine.specs.Hart.{Hart, Goes, Setting as MachineSetting}
use Rattle.fk_machine.proofs.Performs.{writes, moves, sw-shared, sw-local}
use Rattle.fk_sim_nodes.specs.Source.{Part, Passes}
use Rattle.fk_sim_block.specs.Owner.{Commons, Owner, Doing, number_of, idle, found, as_part}
use Rattle.fk_sim_block.specs.Stands.{Places, HasRoom, StandsFor, top_register, end_register, value_in}
use Rattle.fk_sim_block.specs.Next.{OpAt, step_at as step_of}
use Rattle.fk_sim_block.specs.Suits.{Fits, Flows, nothing}
use Rattle.fk_sim_block.specs.Block.{Enters}
use Rattle.fk_gen.specs.Lines.{at_value}
use Rattle.fk_gen_access.specs.Blocks.{lines, read_block, write_block, combine_block}
use Rattle.fk_gen_access.proofs.Addresses.{IsShared, IsPrivate, used, shared_place, private_place}
use Rattle.fk_gen.specs.InPlace.{HasBlock}
use Rattle.fk_gen.specs.Keeps.{Keeps, DoesAnd}
use Rattle.fk_gen.proofs.Walk.{told_of}
use Rattle.fk_gen.proofs.Values.{other_word, values_kept, values_before, length_before}
use Rattle.fk_gen.specs.Registers.{t0, t1}
use Rattle.fk_gen_access.proofs.Walk.{walk_straight, local_index}
use Rattle.fk_gen_access.proofs.Does.{Commits, part_of, does}
use Rattle.fk_gen_access.proofs.Kept.{SameRegisters, went, below_put, stands_on}
use Rattle.fk_gen_access.proofs.Found.{value_put}
use Rattle.fk_gen_access.proofs.Operands.{IsFound, last_found, earlier_found}
use Rattle.fk_gen_access.proofs.Memory.{load, amo, after_amo, read_shared, write_shared, write_private, heap_put}
use Rattle.fk_gen.proofs.ValueLines.{place_word}

module _ (core : List CoreOp) (image : Image) (places : Places) (i : ℕ) (op : CoreOp) (setting : Setting) (t : MachineSetting) (p : Owner) (h : Hart) where
  pub read_does : (bound : ℕ → ℕ) → OpAt core i op Read → Enters core image places setting t i op Read p h → Fits core places.frames i op Read
      → HasBlock image bound places i (lines (read_block op.depth)) → DoesAnd core image places setting t 1 p h 1 1 (Keeps places (length p.runner.has.callers) op.depth nothing h)
  read_does bound op_at en fits has =
      let b = read_block op.depth in
      let committing = walk_straight (told_of t (number_of p)) b.before h in
      let stands = en.at.stands in
      let n = length p.runner.has.callers in
      let vs = values p.runner.has in
      let some = last_found core image places i op Read setting t p h en fits (let l = fits.values in omega arith) in
      let word = local_index (word_sum (h.registers end_register) (at_value op.depth)) in
      let index = some.index in
      let depth = en.ready.depth in
      let shorter = length_before 1 vs in
      let calls = some.calls in
      let pos = some.some in
      let deep = some.few in
      does core image places i op Read setting p b bound t h op_at en has (omega arith) (omega arith) (some.place, tt) (λ s.
      let v = read (found s p.heap) (number_of p) (last vs) in
      inl (record {
        hart = writes committing t0 v;
        store = s;
        owner = went places p (suc i) (v ∷ before 1 vs) p.heap.words p.runner.has.top;
        part = refl;
        goes = λ t' earlier sh shows. (
          sh,
          load t' (number_of p) 5 (last vs) committing sh s p.heap some.value shows.words stands.heap en.ready.may,
          shows,
          refl,
        );
        pc = refl;
        live = en.at.live;
        can = λ told. (some.place, tt);
        at = refl;
        stands = λ told. stands_on places p i (suc i) op.depth p.runner.has.top (v ∷ before 1 vs) p.heap.words h (walk_straight told b.behind (writes committing t0 v)) stands en.index fits.room some.some core (fits.goes_on true)
            (record { nought = refl; frame = refl; behind = refl; number = refl; rank = refl; size = refl; local = refl; shared_data = refl; private_heap = refl; shared_mask = refl; devices = refl; heap_mask = refl; node = refl; body = refl; frames = refl; blocks = refl; group_frame = refl })
            stands.top (below_put h.local (place_word n op.depth) word v (omega arith))
            (value_put h.local n word v v (before 1 vs) (omega arith) (omega arith) refl (values_before 1 (value_in h n) vs stands.running.values))
            (λ k lt. other_word h.local word v (16384 + k) (λ e. omega arith) ∙ stands.heap k lt);
      }))

  -- a value has come in place of two, w, in a hart m that is as it was but for its private heap
  replaced : (j d top : ℕ) (v w : ℕ) (heap : Memory) (m : Hart) → StandsFor places p h → p.runner.left.at ≡ i → HasRoom places.frames i d
      → length (values p.runner.has) ≡ d → 1 < d → Flows core places.frames nothing i j → SameRegisters places h m → m.registers top_register ≡ top
      → ((k : ℕ) → k < 16384 → m.local k ≡ h.local k) → ((k : ℕ) → k < 16384 → m.local (16384 + k) ≡ heap k)
      → length p.runner.has.callers < 256 → v ≡ w
      → (word : ℕ) → word ≡ place_word (length p.runner.has.callers) (d - 1)
      → StandsFor places (went places p j (w ∷ before 1 (before 1 (values p.runner.has))) heap top) (record m { local = put m.local word v; pc = word_sum m.pc 4 })
      × Keeps places (length p.runner.has.callers) d nothing h (record m { local = put m.local word v; pc = word_sum m.pc 4 })
  replaced j d top v w heap m stands at room depth two flows same top' low high calls e word index =
      let n = length p.runner.has.callers in
      let vs = values p.runner.has in
      let shorter = length_before 1 vs in
      let shortest = length_before 1 (before 1 vs) in
      let header = room.header in
      let held = values_before 1 (value_in h n) (before 1 vs) (values_before 1 (value_in h n) vs stands.running.values) in
      let held' = values_kept h.local m.local n (before 1 (before 1 vs)) (λ k from lt. low k (omega arith)) held in
      stands_on places p i j d top (w ∷ before 1 (before 1 vs)) heap h (record m { local = put m.local word v; pc = word_sum m.pc 4 }) stands at room (omega arith) core flows
      (record { nought = same.nought; frame = same.frame; behind = same.behind; number = same.number; rank = same.rank; size = same.size; local = same.local; shared_data = same.shared_data; private_heap = same.private_heap; shared_mask = same.shared_mask; devices = same.devices; heap_mask = same.heap_mask; node = same.node; body = same.body; frames = same.frames; blocks = same.blocks; group_frame = same.group_frame })
      top' (record { same = λ k lt. other_word m.local word v k (λ e. omega arith) ∙ low k (omega arith) })
      (value_put m.local n word v w (before 1 (before 1 vs)) (omega arith) (omega arith) e held')
      (λ k lt. other_word m.local word v (16384 + k) (λ e. omega arith) ∙ high k lt)

  -- what a write is, by where its address lies
  abbrev written : Commons → Store → ℕ → Part Commons Doing
  written s st v = as_part s.asked p (answered (step_of core i op Write p.runner.left.callers) p.runner.has (Served st v))

  write_part_private : (s : Commons) (a v : ℕ) → IsPrivate a → written s (write (found s p.heap) (number_of p) a v) v
      ≡ Passes s (idle (went places p (suc i) (v ∷ before 1 (before 1 (values p.runner.has))) (put p.heap.words (private_index a) v) p.runner.has.top))
  write_part_private s a v at =
      ap (λ st. written s st v) (write_private (found s p.heap) (number_of p) a v at)
      ∙ ap (λ b. Passes s (idle (went places p (suc i) (v ∷ before 1 (before 1 (values p.runner.has))) (if b then put p.heap.words (private_index a) v else p.heap.words) p.runner.has.top)))
      (eq-eqb (number_of p) (number_of p) refl)

  write_commits : Enters core image places setting t i op Write p h → Fits core places.frames i op Write
      → IsFound p h (op.depth - 1) (last (before 1 (values p.runner.has))) → IsFound p h op.depth (last (values p.runner.has))
      → (IsShared (last (before 1 (values p.runner.has))) ⊎ ((false ≡ false) × IsPrivate (last (before 1 (values p.runner.has)))))
      → (s : Commons) → Commits core image places i op Write setting p (write_block op.depth) h (walk_straight (told_of t (number_of p)) (write_block op.depth).before h) s
  write_commits en fits first second (inl at) s =
      let b = write_block op.depth in
      let committing = walk_straight (told_of t (number_of p)) b.before h in
      let stands = en.at.stands in
      let vs = values p.runner.has in
      let a = last (before 1 vs) in
      let v = last vs in
      let aligned = at.aligned in
      let below = at.below in
      let address = first.value in
      let same : word_sum (committing.registers t0) 0 ≡ a = omega arith in
      let x = shared_index a in
      record {
        hart = moves committing;
        store = record s { words = put s.words x v };
        owner = went places p (suc i) (v ∷ before 1 (before 1 vs)) p.heap.words p.runner.has.top;
        part = ap (λ st. written s st v) (write_shared (found s p.heap) (number_of p) a v at);
        goes = λ t' earlier sh shows. (
          _,
          sw-shared t' (number_of p) 5 6 0 x committing sh (omega arith) (ap place_of same ∙ shared_place a at),
          record { words = ap (λ w. put w x (committing.registers t1)) shows.words ∙ ap (put s.words x) second.value; output = shows.output; common = shows.common },
          refl,
        );
        pc = refl;
        live = en.at.live;
        can = λ told. (first.place, tt);
        at = refl;
        stands = λ told. replaced (suc i) op.depth p.runner.has.top (committing.registers t1) v p.heap.words (moves committing) stands en.index fits.room en.ready.depth (let l = first.some in omega arith)
            (fits.goes_on true)
            (record { nought = refl; frame = refl; behind = refl; number = refl; rank = refl; size = refl; local = refl; shared_data = refl; private_heap = refl; shared_mask = refl; devices = refl; heap_mask = refl; node = refl; body = refl; frames = refl; blocks = refl; group_frame = refl })
            stands.top (λ k lt. refl) stands.heap first.calls second.value _ first.index;
      }
  write_commits en fits first second (inr (_, at)) s =
      let b = write_block op.depth in
      let committing = walk_straight (told_of t (number_of p)) b.before h in
      let stands = en.at.stands in
      let vs = values p.runner.has in
      let a = last (before 1 vs) in
      let v = last vs in
      let aligned = at.aligned in
      let below = at.below in
      let address = first.value in
      let same : word_sum (committing.registers t0) 0 ≡ a = omega arith in
      let x = private_index a in
      let m : Hart = record (moves committing) { local = put h.local (16384 + x) (committing.registers t1) } in
      record {
        hart = m;
        store = s;
        owner = went places p (suc i) (v ∷ before 1 (before 1 vs)) (put p.heap.words x v) p.runner.has.top;
        part = write_part_private s a v at;
        goes = λ t' earlier sh shows. (
          _,
          sw-local t' (number_of p) 5 6 0 (16384 + x) committing sh (omega arith) (ap place_of same ∙ private_place a at),
          record { words = shows.words; output = shows.output; common = shows.common },
          refl,
        );
        pc = refl;
        live = en.at.live;
        can = λ told. (first.place, tt);
        at = refl;
        stands = λ told. replaced (suc i) op.depth p.runner.has.top (committing.registers t1) v (put p.heap.words x v) m stands en.index fits.room en.ready.depth (let l = first.some in omega arith)
            (fits.goes_on true)
            (record { nought = refl; frame = refl; behind = refl; number = refl; rank = refl; size = refl; local = refl; shared_data = refl; private_heap = refl; shared_mask = refl; devices = refl; heap_mask = refl; node = refl; body = refl; frames = refl; blocks = refl; group_frame = refl })
            stands.top (λ k lt. other_word h.local (16384 + x) (committing.registers t1) k (λ e. omega arith))
            (λ k lt. heap_put h.local p.heap.words x (committing.registers t1) stands.heap k lt ∙ ap (λ w. put p.heap.words x w k) second.value)
            first.calls second.value _ first.index;
      }

  pub write_does : (bound : ℕ → ℕ) → OpAt core i op Write → Enters core image places setting t i op Write p h → Fits core places.frames i op Write
      → HasBlock image bound places i (lines (write_block op.depth)) → DoesAnd core image places setting t 1 p h 2 1 (Keeps places (length p.runner.has.callers) op.depth nothing h)
  write_does bound op_at en fits has =
      let first = earlier_found core image places i op Write setting t p h en fits (let l = fits.values in omega arith) in
      let second = last_found core image places i op Write setting t p h en fits (let l = fits.values in omega arith) in
      does core image places i op Write setting p (write_block op.depth) bound t h op_at en has (omega arith) (omega arith) (first.place, (second.place, tt))
      (λ s. inl (write_commits en fits first second (used false (last (before 1 (values p.runner.has))) en.ready.may) s))

  -- a multiprefix
  abbrev combined_part : Multiprefix → Commons → Store → (former : ℕ) → Part Commons Doing
  combined_part by s st former = as_part s.asked p (answered (step_of core i op (Combine by) p.runner.left.callers) p.runner.has (Served st former))

  abbrev after_combine : Multiprefix → Commons → (a v : ℕ) → Commons
  after_combine by s a v = record s { words = put s.words (shared_index a) (applied (operator_of by) (s.words (shared_index a)) v) }

  multiprefix_part : (by : Multiprefix) (s : Commons) → part_of core image places i op (Combine by) setting p s
      ≡ combined_part by s
      (write (found s p.heap) (number_of p) (last (before 1 (values p.runner.has)))
      (applied (operator_of by) (read (found s p.heap) (number_of p) (last (before 1 (values p.runner.has)))) (last (values p.runner.has))))
      (read (found s p.heap) (number_of p) (last (before 1 (values p.runner.has))))
  multiprefix_part MpAdd s = refl
  multiprefix_part MpMax s = refl
  multiprefix_part MpAnd s = refl
  multiprefix_part MpOr s = refl

  shared_part : (by : Multiprefix) (s : Commons) (a v : ℕ) → IsShared a
      → combined_part by s (write (found s p.heap) (number_of p) a (applied (operator_of by) (read (found s p.heap) (number_of p) a) v)) (read (found s p.heap) (number_of p) a)
      ≡ Passes (after_combine by s a v) (idle (went places p (suc i) (s.words (shared_index a) ∷ before 1 (before 1 (values p.runner.has))) p.heap.words p.runner.has.top))
  shared_part by s a v at =
      ap (λ x. combined_part by s (write (found s p.heap) (number_of p) a (applied (operator_of by) x v)) x) (read_shared (found s p.heap) (number_of p) a at)
      ∙ ap (λ st. combined_part by s st (s.words (shared_index a))) (write_shared (found s p.heap) (number_of p) a (applied (operator_of by) (s.words (shared_index a)) v) at)

  combine_commits : (by : Multiprefix) → Enters core image places setting t i op (Combine by) p h → Fits core places.frames i op (Combine by)
      → IsFound p h (op.depth - 1) (last (before 1 (values p.runner.has))) → IsFound p h op.depth (last (values p.runner.has))
      → Flows core places.frames nothing i (suc i) → IsShared (last (before 1 (values p.runner.has)))
      → (s : Commons) → Commits core image places i op (Combine by) setting p (combine_block by op.depth) h (walk_straight (told_of t (number_of p)) (combine_block by op.depth).before h) s
  combine_commits by en fits first second flows at s =
      let b = combine_block by op.depth in
      let committing = walk_straight (told_of t (number_of p)) b.before h in
      let stands = en.at.stands in
      let vs = values p.runner.has in
      let a = last (before 1 vs) in
      let v = last vs in
      let x = shared_index a in
      record {
        hart = writes committing t0 (s.words x);
        store = after_combine by s a v;
        owner = went places p (suc i) (s.words x ∷ before 1 (before 1 vs)) p.heap.words p.runner.has.top;
        part = multiprefix_part by s ∙ shared_part by s a v at;
        goes = λ t' earlier sh shows. (
          after_amo by committing sh x,
          amo by t' (number_of p) a committing sh first.value at ∙ ap (λ w. Goes (writes committing t0 (w x)) (after_amo by committing sh x)) shows.words,
          record {
            words = ap (λ w. put w x (applied (operator_of by) (w x) (committing.registers t1))) shows.words
                ∙ ap (λ w. put s.words x (applied (operator_of by) (s.words x) w)) second.value;
            output = shows.output;
            common = shows.common;
          },
          refl,
        );
        pc = refl;
        live = en.at.live;
        can = λ told. (first.place, tt);
        at = refl;
        stands = λ told. replaced (suc i) op.depth p.runner.has.top (s.words x) (s.words x) p.heap.words (writes committing t0 (s.words x)) stands en.index fits.room en.ready.depth (let l = first.some in omega arith)
            flows
            (record { nought = refl; frame = refl; behind = refl; number = refl; rank = refl; size = refl; local = refl; shared_data = refl; private_heap = refl; shared_mask = refl; devices = refl; heap_mask = refl; node = refl; body = refl; frames = refl; blocks = refl; group_frame = refl })
            stands.top (λ k lt. refl) stands.heap first.calls refl _ first.index;
      }

  of_shared_alone : (a : ℕ) → (IsShared a ⊎ ((true ≡ false) × IsPrivate a)) → IsShared a
  of_shared_alone a (inl at) = at
  of_shared_alone a (inr (e, at)) = absurd (cc)

  pub combine_does : (by : Multiprefix) (bound : ℕ → ℕ) → OpAt core i op (Combine by) → Enters core image places setting t i op (Combine by) p h
      → Fits core places.frames i op (Combine by)
      → HasBlock image bound places i (lines (combine_block by op.depth)) → DoesAnd core image places setting t 1 p h 2 1 (Keeps places (length p.runner.has.callers) op.depth nothing h)
  combine_does by bound op_at en fits has =
      let first = earlier_found core image places i op (Combine by) setting t p h en fits (let l = fits.values in omega arith) in
      let second = last_found core image places i op (Combine by) setting t p h en fits (let l = fits.values in omega arith) in
      let a = last (before 1 (values p.runner.has)) in
      does core image places i op (Combine by) setting p (combine_block by op.depth) bound t h op_at en has (omega arith) (omega arith) (first.place, (second.place, tt))
      (λ s. inl (combine_commits by en fits first second (fits.goes_on true) (of_shared_alone a (used true a en.ready.may)) s))
