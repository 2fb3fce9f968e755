-- A block of the group's space is taken, or there is none.
use Rattle.std.proofs.Common.{◌≡◌, ℕ, suc, ◌+◌, ◌-◌, ◌*◌, ◌/◌, ◌%◌, ◌^◌, ◌<◌, ◌≤◌, List, [], ◌∷◌, length, All, true, Some, None, sym, ap, subst, ◌∙◌, arith, refl, ◌⊎◌, inl, inr}
use Rattle.std.specs.Prelude.{if◌then◌else◌}
use Rattle.std.specs.Int.{from_bool}
use Rattle.std.specs.Int.Bits.{and_zero_r}
use Rattle.std.proofs.lemmas.List.Elements.{All-head}
use Rattle.std.proofs.lemmas.Nat.Bits.{and_high_mask}
use Rattle.std.proofs.lemmas.Bool.{cases_lt, lt-ltb, le-ltb, eq-eqb, ne_eqb}
use Rattle.fk_num.specs.Word.{put, word_sum}
use Rattle.fk_num.specs.Op.{applied}
use Rattle.fk_num.specs.declared.operator.Op.TheVariants.{Sub, And, LtU}
use Rattle.fk_space.specs.Space.{Space, IsSpace, free, block}
use Rattle.fk_meaning_operation.specs.declared.operation.Operation.TheVariants.{Block}
use Rattle.fk_meaning_store.specs.Store.{address_of}
use Rattle.fk_meaning_store.specs.Serve.{words_of}
use Rattle.fk_meaning.specs.Processor.{Level, Processor, Setting, values, last, before, in_place, with_space}
use Rattle.fk_meaning.specs.Group.{with_block, allotted}
use Rattle.fk_core.specs.declared.op.CoreOp.{CoreOp}
use Rattle.fk_core.specs.Next.{position}
use Rattle.fk_image.specs.declared.Image.{Image}
use Rattle.fk_isa.specs.declared.instruction.Instruction.TheVariants as isa
use Rattle.fk_machine.specs.Hart.{Hart, Setting as MachineSetting}
use Rattle.fk_machine.specs.Run.{count_in}
use Rattle.fk_machine.proofs.Performs.{writes}
use Rattle.fk_sim_nodes.specs.Node.{Member}
use Rattle.fk_sim_nodes.specs.Alone.{later}
use Rattle.fk_sim_nodes.specs.OneHart.{OneDoes}
use Rattle.fk_sim_nodes.proofs.InPlace.{step_at}
use Rattle.fk_sim_block.specs.Owner.{Owner, number_of, core_source}
use Rattle.fk_sim_block.specs.Stands.{Places, zero_register, value_in, group_frame_register}
use Rattle.fk_sim_block.specs.Suits.{Flows, nothing}
use Rattle.fk_sim_block.specs.Block.{Enters}
use Rattle.fk_sim_block.specs.Node.{Nestings, KnowsSpace, HasOuter, first_word, control_address, frames_register, blocks_register}
use Rattle.fk_sim_block.specs.Lockstep.{IsMember, IsInGroup, is_due}
use Rattle.fk_gen.proofs.Difference.{difference}
use Rattle.fk_gen.proofs.Values.{other_word, values_put}
use Rattle.fk_gen.proofs.Sizes.{ones, words_small, words_large}
use Rattle.fk_gen.proofs.Walk.{Quiets, Plain, walk, walked, can_run_goes, told_of}
use Rattle.fk_gen.proofs.Standing.{InMemory, in_memory, stands_with, stands_in_space, with_list, value_written}
use Rattle.fk_gen.specs.Registers.{t0, t1, t2}
use Rattle.fk_gen_group.specs.Laws.{IsInPlace, GroupsTakeBlocks}
use Rattle.fk_gen_group.proofs.Members.{due_part}
use Rattle.fk_gen_group.proofs.Levels.{below_values, lies_below, outer_on, many_callers}
use Rattle.fk_gen_group.proofs.Taking.{Takes, step_together}
use Rattle.fk_gen.proofs.ValueLines.{place_word, operand_is, operand_runs, result_line, place_reached}
use Rattle.fk_gen.specs.Operands.{operand}

-- ---- what the instructions come to, of a size and of where the free words begin and end

-- the bytes of the size, rounded up to words; all ones where they are free, and else 0
abbrev size_word : (bytes : ℕ) → ℕ
size_word bytes = applied And (word_sum bytes 3) 0xfffffffc

abbrev mask_by : (nought bytes low high : ℕ) → ℕ
mask_by nought bytes low high = applied Sub nought (applied LtU (word_sum (size_word bytes) 0xffffffff) (applied Sub high low))

-- where the free words end then, and the answer
abbrev end_by : (nought bytes low high : ℕ) → ℕ
end_by nought bytes low high = applied Sub high (applied And (size_word bytes) (mask_by nought bytes low high))

abbrev answer_by : (nought bytes low high : ℕ) → ℕ
answer_by nought bytes low high = applied And (word_sum (0xf8000 * 4096) (end_by nought bytes low high)) (mask_by nought bytes low high)

rounded : (bytes : ℕ) → size_word bytes ≡ (bytes + 3) % 2 ^ 32 / 4 * 4
rounded bytes = and_high_mask 32 2 (omega arith) (word_sum bytes 3) (omega arith)

-- what `shalloc` makes of a processor
record Allots (bytes low high : ℕ) (p : Processor) : Type 0 where
  pub index : ℕ
  pub processor : with_block (words_of bytes) p ≡ in_place (answer_by 0 bytes low high) (with_space p (record (p.level.space) { blocks = index }))
  pub end : end_by 0 bytes low high ≡ control_address index

allotted_none : (words : ℕ) (p : Processor) → words ≡ 0 → with_block words p ≡ in_place 0 p
allotted_none words p e = ap (λ b. if b then in_place 0 p else allotted p (block p.level.space words)) (eq-eqb words 0 e)

by_words : (words : ℕ) (p : Processor) → 0 < words → with_block words p ≡ allotted p (block p.level.space words)
by_words words p pos = ap (λ b. if b then in_place 0 p else allotted p (block p.level.space words)) (ne_eqb words 0 (λ e. omega arith))

allotted_few : (words : ℕ) (p : Processor) → 0 < words → free p.level.space < words → with_block words p ≡ in_place 0 p
allotted_few words p pos lt =
    let s = p.level.space in
    by_words words p pos ∙ ap (λ b. allotted p (if b then None else Some (s.blocks - words, record s { blocks = s.blocks - words }))) (lt-ltb (free s) words lt)

allotted_all : (words : ℕ) (p : Processor) → 0 < words → words ≤ free p.level.space
    → with_block words p ≡ in_place (address_of (p.level.space.blocks - words)) (with_space p (record (p.level.space) { blocks = p.level.space.blocks - words }))
allotted_all words p pos le =
    let s = p.level.space in
    by_words words p pos ∙ ap (λ b. allotted p (if b then None else Some (s.blocks - words, record s { blocks = s.blocks - words }))) (le-ltb (free s) words le)

module _ (bytes low high : ℕ) (p : Processor) (is : IsSpace p.level.space) (small : bytes < 2 ^ 32) (lows : low ≡ control_address p.level.space.frames)
    (highs : high ≡ control_address p.level.space.blocks) where
  abbrev s : Space
  s = p.level.space

  abbrev left : ℕ
  left = applied Sub high low

  left_is : left ≡ 4 * free s
  left_is =
      let ordered = is.ordered in
      let within = is.within in
      let shared = is.shared in
      difference high low (omega arith) ∙ omega arith

  -- no words are taken
  none : left ≤ word_sum (size_word bytes) 0xffffffff → with_block (words_of bytes) p ≡ in_place 0 p → Allots bytes low high p
  none le e =
      let within = is.within in
      let shared = is.shared in
      let mask : mask_by 0 bytes low high ≡ 0 = ap (λ b. applied Sub 0 (from_bool b)) (le-ltb (word_sum (size_word bytes) 0xffffffff) left le) in
      let end : end_by 0 bytes low high ≡ high =
      ap (λ m. applied Sub high (applied And (size_word bytes) m)) mask ∙ ap (applied Sub high) (and_zero_r (size_word bytes)) ∙ difference high 0 (omega arith) ∙ omega arith in
      let answer : answer_by 0 bytes low high ≡ 0 =
      ap (applied And (word_sum (0xf8000 * 4096) (end_by 0 bytes low high))) mask ∙ and_zero_r (word_sum (0xf8000 * 4096) (end_by 0 bytes low high)) in
      record { index = s.blocks; processor = e ∙ ap (λ a. in_place a p) (sym answer); end = end ∙ highs }

  some : word_sum (size_word bytes) 0xffffffff < left → bytes < 2 ^ 31 → Allots bytes low high p
  some lt fits =
      let header = is.header in
      let ordered = is.ordered in
      let within = is.within in
      let shared = is.shared in
      let l = left_is in
      let r = rounded bytes in
      let words = words_small bytes fits in
      let mask : mask_by 0 bytes low high ≡ 2 ^ 32 - 1 = ap (λ b. applied Sub 0 (from_bool b)) (lt-ltb (word_sum (size_word bytes) 0xffffffff) left lt) in
      let index = s.blocks - words_of bytes in
      let end : end_by 0 bytes low high ≡ control_address index =
      ap (λ m. applied Sub high (applied And (size_word bytes) m)) mask ∙ ap (applied Sub high) (ones (size_word bytes) (omega arith)) ∙ difference high (size_word bytes) (omega arith) ∙ omega arith in
      let answer : answer_by 0 bytes low high ≡ address_of index =
      ap (applied And (word_sum (0xf8000 * 4096) (end_by 0 bytes low high))) mask ∙ ones (word_sum (0xf8000 * 4096) (end_by 0 bytes low high)) (omega arith) ∙ omega arith in
      record {
        index = index;
        processor = allotted_all (words_of bytes) p (omega arith) (omega arith) ∙ ap (λ a. in_place a (with_space p (record s { blocks = index }))) (sym answer);
        end = end;
      }

  by_size : (bytes < 2 ^ 31) ⊎ (2 ^ 31 ≤ bytes) → (word_sum (size_word bytes) 0xffffffff < left) ⊎ (left ≤ word_sum (size_word bytes) 0xffffffff) → Allots bytes low high p
  by_size (inl fits) (inl lt) = some lt fits
  by_size (inr large) (inl lt) =
      let within = is.within in
      let shared = is.shared in
      let l = left_is in
      let r = rounded bytes in
      absurd (omega arith)
  by_size (inr large) (inr le) = none le (allotted_none (words_of bytes) p (words_large bytes large))
  by_size (inl fits) (inr le) =
      let l = left_is in
      let r = rounded bytes in
      let words = words_small bytes fits in
      none le (elim (cases_lt 0 (words_of bytes)) [
        | inl pos ↦ allotted_few (words_of bytes) p pos (omega arith)
        | inr not_any ↦ allotted_none (words_of bytes) p (omega arith)
      ])

  allots : Allots bytes low high p
  allots = by_size (cases_lt bytes (2 ^ 31)) (cases_lt (word_sum (size_word bytes) 0xffffffff) left)

last_is_word : (vs : List ℕ) → All (λ v. v < 2 ^ 32) vs → last vs < 2 ^ 32
last_is_word [] all = omega arith
last_is_word (v ∷ vs) all = All-head (λ v. v < 2 ^ 32) v vs all

-- ---- one member

module _ (core : List CoreOp) (image : Image) (bound : ℕ → ℕ) (places : Places) (nestings : Nestings) (i : ℕ) (op : CoreOp) (place : IsInPlace core image bound places nestings i op Block)
    (setting : Setting) (first highest lowest size : ℕ) (t : MachineSetting) (m : Member) (p : Owner)
    (en : Enters core image places setting t i op Block p m.hart) (member : IsMember places nestings setting None first m p) (inside : IsInGroup p) where
  abbrev n : ℕ
  n = length p.runner.has.callers

  abbrev vs : List ℕ
  vs = values p.runner.has

  abbrev space : Space
  space = p.runner.has.level.space

  abbrev h : Hart
  h = m.hart

  -- the word of the last value
  abbrev w : ℕ
  w = place_word n op.depth

  known : (h.registers frames_register ≡ control_address space.frames) × (h.registers blocks_register ≡ control_address space.blocks)
  known = subst (λ o. KnowsSpace p.runner.has.level o h) inside.outer member.node.space

  value_is : value_in h n op.depth ≡ last vs
  value_is =
      let depth = en.ready.depth in
      let positive = place.fits.values in
      operand_is (value_in h n) op.depth vs en.at.stands.running.values depth (omega arith)

  abbrev first_hart : Hart
  first_hart = writes h t0 (h.local w)

  abbrev rest : Quiets
  rest =
      (isa.Addi t0 t0 3, Plain) ∷ (isa.Andi t0 t0 0xfffffffc, Plain) ∷ (isa.Sub t1 blocks_register frames_register, Plain) ∷ (isa.Addi t2 t0 0xffffffff, Plain) ∷ (isa.Sltu t2 t2 t1, Plain) ∷
      (isa.Sub t2 zero_register t2, Plain) ∷ (isa.And t0 t0 t2, Plain) ∷ (isa.Sub blocks_register blocks_register t0, Plain) ∷ (isa.Lui t1 0xf8000, Plain) ∷ (isa.Add t1 t1 blocks_register, Plain) ∷ (isa.And t1 t1 t2, Plain) ∷
      result_line t1 n op.depth ∷ []

  abbrev last_hart : Hart
  last_hart = walk (told_of (later t) m.number) rest first_hart

  -- what becomes of its processor
  abbrev behind : Processor → Owner
  behind q = record { runner = record { left = position (suc i) p.runner.left.callers; has = q }; heap = p.heap }

  stands_behind : last_hart.pc ≡ 4 * places.block (suc i) → IsMember places nestings setting None first (record m { hart = last_hart }) (behind (with_block (words_of (last vs)) p.runner.has))
  stands_behind pc =
      let few = place.few in
      let calls = en.ready.in_range.waiting in
      let depth = en.ready.depth in
      let positive = place.fits.values in
      let header = place.fits.room.header in
      let stands = en.at.stands in
      let here = en.index in
      let flows : Flows core places.frames nothing i (suc i) = place.fits.goes_on true in
      let callers = p.runner.left.callers in
      let many = many_callers places nestings h.local callers p.runner.has.callers stands.waiting in
      let home = ap places.frames.is_main (sym here) ∙ stands.running.home in
      let below = lies_below places nestings n i op.depth home place.levels in
      let a = allots (last vs) (h.registers frames_register) (h.registers blocks_register) p.runner.has en.ready.may (last_is_word vs en.ready.in_range.values) known.0 known.1 in
      let answer = answer_by 0 (last vs) (h.registers frames_register) (h.registers blocks_register) in
      let smaller : Space = record space { blocks = a.index } in
      let level' : Level = record (p.runner.has.level) { space = smaller } in
      let found = ap (λ z. answer_by z (h.local w) (h.registers frames_register) (h.registers blocks_register)) stands.nought ∙ ap (λ x. answer_by 0 x (h.registers frames_register) (h.registers blocks_register)) value_is in
      let blocks' : last_hart.registers blocks_register ≡ control_address a.index =
      ap (λ z. end_by z (h.local w) (h.registers frames_register) (h.registers blocks_register)) stands.nought ∙ ap (λ x. end_by 0 x (h.registers frames_register) (h.registers blocks_register)) value_is ∙ a.end in
      let local : put h.local w answer ≡ last_hart.local = sym (ap (put h.local w) found) in
      let listed = with_list core places (suc i) (answer ∷ before 1 vs) p in
      let memory : InMemory places last_hart.local (h.registers group_frame_register) listed =
      subst (λ l. InMemory places l (h.registers group_frame_register) listed) local
      (value_written core places h.local (h.registers group_frame_register) p i (suc i) op.depth answer (answer ∷ before 1 vs) few calls here place.fits.room (omega arith) flows (in_memory places p h stands)
      (values_put 1 op.depth h.local n answer vs (omega arith) (omega arith) (omega arith) stands.running.values)) in
      let outer =
      outer_on places nestings setting.processors (number_of p) h.local last_hart.local i (suc i) op.depth callers p.runner.has.outer few place.stay
      (subst (λ k. below_values places nestings k i op.depth) (sym many) below)
      (λ x lt. ap (λ l. l x) (sym local) ∙ other_word h.local w answer x (λ e. omega arith))
      (omega arith)
      (subst (λ j. HasOuter places nestings setting.processors (number_of p) h.local (j ∷ callers) p.runner.has.outer) here member.node.outer.0) in
      let first_same : first_word level' p.runner.has.outer ≡ first_word p.runner.has.level p.runner.has.outer =
      ap (first_word level') inside.outer ∙ sym (ap (first_word p.runner.has.level) inside.outer) in
      subst (λ q. IsMember places nestings setting None first (record m { hart = last_hart }) (behind q)) (sym a.processor)
      (record {
        number = member.number;
        at = record {
          live = en.at.live;
          at = pc;
          stands =
              stands_in_space places listed last_hart smaller
              (stands_with places p listed h last_hart stands (refl, refl, refl, refl, refl, refl, refl, refl, refl, refl, refl, refl, refl) refl refl stands.top memory);
        };
        node = record {
          node = member.node.node ∙ sym (ap control_address first_same);
          body = tt;
          space = subst (λ o. KnowsSpace level' o last_hart) (sym inside.outer) (known.0, blocks');
          outer = (outer, member.node.outer.1);
        };
        words = first_same ∙ member.words;
      })

  pub shalloc_does : OneDoes (core_source core setting) image t 1 0 12 m p (Takes core image places nestings i op Block setting first highest lowest size m.number p)
  shalloc_does =
      let k = places.block i in
      let positive = place.fits.values in
      let header = place.fits.room.header in
      let calls = en.ready.in_range.waiting in
      let at_word = operand_runs t0 n op.depth h en.at.stands.behind calls (omega arith) (omega arith) in
      let pc : h.pc ≡ 4 * k = en.at.at ∙ ap (λ j. 4 * places.block j) en.index in
      let l0 = place.block.lines.0 in
      let near = l0.within in
      let pc1 : first_hart.pc ≡ 4 * suc k = omega arith in
      let walks =
      walked image bound (later t) m.number en.running.code rest (suc k) first_hart place.block.lines.1 pc1 en.at.live
      (tt, (tt, (tt, (tt, (tt, (tt, (tt, (tt, (tt, (tt, (tt, (at_word, tt)))))))))))) in
      let next = place.block.next in
      let long : suc k + 12 ≡ places.block (suc i) = omega arith in
      record {
        committing = h;
        runs = refl;
        commits = record {
          live = en.at.live;
          counted = ap (count_in image.commits.items) pc ∙ l0.counted;
          does = λ s. inl (record {
            hart = first_hart;
            store = s;
            done = is_due core i op Block p;
            part = due_part core setting i op Block s p place.stands refl refl en.index;
            goes = λ earlier sh shows.
                let alone = can_run_goes (operand t0 op.depth) (place_reached n op.depth) h at_word t m.number sh in (
                  record sh { reserved = alone.0 },
                  step_at image k 1 (operand t0 op.depth) l0 t en.running.code m.number h sh pc ∙ alone.1,
                  record { words = shows.words; output = shows.output; common = shows.common },
                  λ j e. refl,
                );
            follows = (last_hart, walks.runs, (refl, stands_behind (walks.pc ∙ ap (λ x. 4 * x) long)));
          });
        };
      }

pub groups_take_blocks : GroupsTakeBlocks
groups_take_blocks core image bound places nestings i op lowest size place =
    step_together core image places nestings i op Block 0 12 lowest size
    (λ setting first highest t m p en member inside. shalloc_does core image bound places nestings i op place setting first highest lowest size t m p en member inside)
