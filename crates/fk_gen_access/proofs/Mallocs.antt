-- The block of `malloc` does so.
use Rattle.std.proofs.Common.{◌≡◌, ℕ, suc, ◌+◌, ◌-◌, ◌*◌, List, ◌∷◌, length, true, ap, ◌∙◌, arith, refl, inl}
use Rattle.fk_num.specs.Word.{word_sum}
use Rattle.fk_num.specs.Op.{applied}
use Rattle.fk_num.specs.declared.operator.Op.TheVariants.{Sub, And, Shl, LtU}
use Rattle.fk_meaning_operation.specs.declared.operation.Operation.TheVariants.{Take}
use Rattle.fk_meaning.specs.Processor.{Processor, Setting, values, last, before}
use Rattle.fk_core.specs.declared.op.CoreOp.{CoreOp}
use Rattle.fk_core.specs.Next.{position}
use Rattle.fk_image.specs.declared.Image.{Image}
use Rattle.fk_machine.specs.Hart.{Hart, Setting as MachineSetting}
use Rattle.fk_sim_nodes.specs.Source.{Part, Passes}
use Rattle.fk_sim_block.specs.Owner.{Commons, Owner, Doing, number_of, idle}
use Rattle.fk_sim_block.specs.Stands.{Places, zero_register, end_register, top_register, value_in}
use Rattle.fk_sim_block.specs.Next.{OpAt}
use Rattle.fk_sim_block.specs.Suits.{Fits, nothing}
use Rattle.fk_sim_block.specs.Block.{Enters}
use Rattle.fk_gen.specs.Lines.{at_value}
use Rattle.fk_gen_access.specs.Blocks.{lines, take_block}
use Rattle.fk_gen_access.proofs.Takes.{size_word, left_word, take_word, top_word, takes}
use Rattle.fk_gen.specs.InPlace.{HasBlock}
use Rattle.fk_gen.specs.Keeps.{Keeps, DoesAnd}
use Rattle.fk_gen.proofs.Walk.{told_of, after, can_run_goes}
use Rattle.fk_gen.proofs.Values.{other_word, values_before, length_before}
use Rattle.fk_gen_access.proofs.Walk.{local_index, reached, walk_straight}
use Rattle.fk_gen_access.proofs.Does.{does}
use Rattle.fk_gen_access.proofs.Kept.{went, below_put, stands_on}
use Rattle.fk_gen_access.proofs.Found.{value_put}
use Rattle.fk_gen_access.proofs.Operands.{last_found}
use Rattle.fk_gen_access.proofs.Refusals.{last_is_word}
use Rattle.fk_gen.proofs.ValueLines.{place_word}

-- as the instructions have it, of a size, of the top and of register 0
abbrev mask_by : (nought bytes top : ℕ) → ℕ
mask_by nought bytes top = applied Sub nought (applied LtU (word_sum (size_word bytes) 0xffffffff) (left_word top))

abbrev answer_by : (nought bytes top : ℕ) → ℕ
answer_by nought bytes top = applied And (word_sum (applied Shl top 2) (0x20010 * 4096)) (mask_by nought bytes top)

abbrev top_by : (nought bytes top : ℕ) → ℕ
top_by nought bytes top = word_sum top (applied And (size_word bytes) (mask_by nought bytes top))

module _ (core : List CoreOp) (image : Image) (places : Places) (i : ℕ) (op : CoreOp) (setting : Setting) (t : MachineSetting) (p : Owner) (h : Hart) where
  abbrev took : Commons → Processor → Part Commons Doing
  took s q = Passes s (idle (record { runner = record { left = position (suc i) p.runner.left.callers; has = q }; heap = p.heap }))

  pub take_does : (bound : ℕ → ℕ) → OpAt core i op Take → Enters core image places setting t i op Take p h → Fits core places.frames i op Take
      → HasBlock image bound places i (lines (take_block op.depth)) → DoesAnd core image places setting t 1 p h 0 14 (Keeps places (length p.runner.has.callers) op.depth nothing h)
  take_does bound op_at en fits has =
      let b = take_block op.depth in
      let stands = en.at.stands in
      let n = length p.runner.has.callers in
      let vs = values p.runner.has in
      let top = p.runner.has.top in
      let some = last_found core image places i op Take setting t p h en fits (let l = fits.values in omega arith) in
      let found_at = local_index (word_sum (h.registers end_register) (at_value op.depth)) in
      let x = h.local found_at in
      let hart = after (told_of t (number_of p)) b.commit (reached b.commit h) h in
      let m = walk_straight (told_of t (number_of p)) b.behind hart in
      let v = answer_by (h.registers zero_register) x (h.registers top_register) in
      let index = some.index in
      let depth = en.ready.depth in
      let shorter = length_before 1 vs in
      let calls = some.calls in
      let pos = some.some in
      let deep = some.few in
      let answer : v ≡ take_word (last vs) top =
      ap (λ z. answer_by z x (h.registers top_register)) stands.nought ∙ ap (λ y. answer_by 0 y (h.registers top_register)) some.value ∙ ap (λ y. answer_by 0 (last vs) y) stands.top in
      let more : m.registers top_register ≡ top_word (last vs) top =
      ap (λ z. top_by z x (h.registers top_register)) stands.nought ∙ ap (λ y. top_by 0 y (h.registers top_register)) some.value ∙ ap (λ y. top_by 0 (last vs) y) stands.top in
      does core image places i op Take setting p b bound t h op_at en has (omega arith) (omega arith) tt (λ s. inl (record {
        hart = hart;
        store = s;
        owner = went places p (suc i) (take_word (last vs) top ∷ before 1 vs) p.heap.words (top_word (last vs) top);
        part = ap (took s) (takes (last vs) p.runner.has (last_is_word vs en.ready.in_range.values) en.ready.in_range.top).processor;
        goes = λ t' earlier sh shows.
            let alone = can_run_goes b.commit (reached b.commit h) h some.place t' (number_of p) sh in
            (record sh { reserved = alone.0 }, alone.1, record { words = shows.words; output = shows.output; common = shows.common }, refl);
        pc = refl;
        live = en.at.live;
        can = λ told. (tt, (tt, (tt, (tt, (tt, (tt, (tt, (tt, (tt, (tt, (tt, (some.place, (tt, (tt, tt))))))))))))));
        at = refl;
        stands = λ told. stands_on places p i (suc i) op.depth (top_word (last vs) top) (take_word (last vs) top ∷ before 1 vs) p.heap.words h m stands en.index fits.room some.some core (fits.goes_on true)
            (record { nought = refl; frame = refl; behind = refl; number = refl; rank = refl; size = refl; local = refl; shared_data = refl; private_heap = refl; shared_mask = refl; devices = refl; heap_mask = refl; node = refl; body = refl; frames = refl; blocks = refl; group_frame = refl })
            more (below_put h.local (place_word n op.depth) found_at v (omega arith))
            (value_put h.local n found_at v (take_word (last vs) top) (before 1 vs) (omega arith) (omega arith) answer (values_before 1 (value_in h n) vs stands.running.values))
            (λ k lt. other_word h.local found_at v (16384 + k) (λ e. omega arith) ∙ stands.heap k lt);
      }))
