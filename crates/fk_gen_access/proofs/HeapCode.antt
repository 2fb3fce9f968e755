-- The code of `shmalloc` does what it should.
use Rattle.std.proofs.Common.{◌≡◌, ℕ, suc, ◌+◌, ◌*◌, ◌/◌, ◌%◌, ◌^◌, ◌≤◌, List, [], ◌∷◌, ◌++◌, length, Bool, true, false, ap, ◌∙◌, arith, refl}
use Rattle.std.specs.Prelude.{◌==◌, ◌||◌}
use Rattle.std.specs.Int.{from_bool}
use Rattle.fk_num.specs.Word.{word, word_sum, put}
use Rattle.fk_num.specs.Op.{applied}
use Rattle.fk_num.specs.declared.operator.Op.TheVariants.{Shl}
use Rattle.fk_image.specs.declared.Image.{Image}
use Rattle.fk_isa.specs.declared.instruction.Instruction.TheVariants.{Lui, Jalr, Lw, Sw, Addi, Sltiu, Slli, Srli, Add, Sub, Sltu, Mul}
use Rattle.fk_asm.specs.Block.{MarkedLine}
use Rattle.fk_meaning_store.specs.Store.{heap_start}
use Rattle.fk_meaning_store.specs.Serve.{words_of}
use Rattle.fk_machine.specs.Hart.{Hart, Setting, Goes}
use Rattle.fk_machine.specs.Reach.{cleared}
use Rattle.fk_machine.specs.Run.{count_in}
use Rattle.fk_machine.proofs.Performs.{writes}
use Rattle.fk_machine.proofs.Places.{place_of-control}
use Rattle.fk_sim_nodes.specs.Alone.{Holds, RunsPrivately, later, in_cycles}
use Rattle.fk_sim_nodes.proofs.InPlace.{step_at, amoadd-control}
use Rattle.fk_sim_heap.specs.Count.{asked_word, added_by, is_past, block_at}
use Rattle.fk_gen.specs.Lines.{quiet, commits, high_part, low_part}
use Rattle.fk_gen.specs.InPlace.{LinesAt}
use Rattle.fk_gen.proofs.Values.{other_word, number_of_parts}
use Rattle.fk_gen.proofs.Walk.{Quiets, Plain, LocalAt, TellsInputs, CanWalk, Told, quiet_lines, walk, told_of, walked, lines_split, runs_join, private}
use Rattle.fk_gen.proofs.Jumps.{jumps, jalr_goes}
use Rattle.fk_gen.proofs.Does.{holds_in_cycles}
use Rattle.fk_sim_block.specs.Stands.{zero_register, local_register, shared_register, device_register}
use Rattle.fk_gen.specs.Registers.{ra, t0, t1, t2, t3}
use Rattle.fk_gen_access.specs.Heap.{HasHeap, heap_label, tell, back as return}
use Rattle.fk_gen_access.specs.HeapLaw.{ComesToHeap, GoesOnWithBlock, AddsToCount, HeapCodeHires, is_free}
use Rattle.fk_gen_access.proofs.Hires.{added, added_is, begins_at, begins_is, at_word, past_word, past_is, answer_of, answer_from, answer_is}

-- ---- the lines

abbrev before_code : Quiets
before_code =
    (Lw t1 local_register 8, LocalAt 2) ∷ (Srli t2 t0 31, Plain) ∷ (Add t1 t1 t2, Plain) ∷ (Sltiu t1 t1 1, Plain) ∷ (Mul t0 t0 t1, Plain) ∷ (Addi t0 t0 3, Plain) ∷
    (Srli t0 t0 2, Plain) ∷ (Lui t1 0x100, Plain) ∷ (Sltu t2 t1 t0, Plain) ∷ (Sub t1 t1 t0, Plain) ∷ (Mul t1 t1 t2, Plain) ∷ (Add t0 t0 t1, Plain) ∷
    (Lui t1 0x18400, Plain) ∷ (Addi t1 t1 32, Plain) ∷ []

abbrev behind_code : (words : ℕ) → Quiets
behind_code words =
    (Lw t2 device_register 28, TellsInputs) ∷ (Lui t3 (high_part words), Plain) ∷ (Addi t3 t3 (low_part words), Plain) ∷ (Add t2 t2 t3, Plain) ∷
    (Srli t2 t2 1, Plain) ∷ (Add t1 t1 t2, Plain) ∷ (Add t3 t1 t0, Plain) ∷ (Lui t2 0x100, Plain) ∷ (Sltu t3 t2 t3, Plain) ∷ (Sw local_register t3 8, LocalAt 2) ∷
    (Sltiu t0 t0 1, Plain) ∷ (Add t0 t0 t3, Plain) ∷ (Sltiu t0 t0 1, Plain) ∷ (Slli t1 t1 2, Plain) ∷ (Add t1 t1 shared_register, Plain) ∷ (Mul t0 t0 t1, Plain) ∷ []

abbrev end_lines : (words : ℕ) → List MarkedLine
end_lines words = quiet_lines (behind_code words) ++ quiet return ∷ []

-- ---- what they make of a hart

-- the answer, by what they find
abbrev answer_in : (count begins added origin : ℕ) → ℕ
answer_in count begins a origin =
    answer_from a (past_word (at_word count begins) a) (word_sum (applied Shl (at_word count begins) 2) origin)

answer_here : (first count a : ℕ) → answer_in count first a 0x10000000 ≡ block_at first count a
answer_here first count a =
    ap (λ p. answer_of a p (at_word count first)) (past_is first count a) ∙ answer_is first count a

-- a register that is none of four
other_register : (r : ℕ) → is_free r ≡ false → ((r == 5) ≡ false) × ((r == 6) ≡ false) × ((r == 7) ≡ false) × ((r == 28) ≡ false)
other_register r e = by (r == 5) (r == 6) (r == 7) (r == 28) e
  where
    by : (a b c d : Bool) → (a || b || c || d) ≡ false → (a ≡ false) × (b ≡ false) × (c ≡ false) × (d ≡ false)
    by false false false false e = (refl, refl, refl, refl)
    by true b c d e = absurd (cc)
    by false true c d e = absurd (cc)
    by false false true d e = absurd (cc)
    by false false false true e = absurd (cc)

before_registers : (told : Told) (h : Hart) (r : ℕ) → is_free r ≡ false → (walk told before_code h).registers r ≡ h.registers r
before_registers told h r e =
    let n = other_register r e in
    let a = n.0 in
    let b = n.1 in
    let c = n.2 in
    rw (a, b, c)

behind_registers : (told : Told) (words count : ℕ) (h : Hart) (r : ℕ) → is_free r ≡ false → (walk told (behind_code words) (writes h t1 count)).registers r ≡ h.registers r
behind_registers told words count h r e =
    let n = other_register r e in
    let a = n.0 in
    let b = n.1 in
    let c = n.2 in
    let d = n.3 in
    rw (a, b, c, d)

module _ (image : Image) (bound : ℕ → ℕ) (t : Setting) (number bytes back : ℕ) (full : Bool) (h : Hart) (shared : HasHeap image bound)
    (holds : Holds image t) (few : t.inputs ≤ 65536) (comes : ComesToHeap bound bytes back full h) where
  abbrev base : ℕ
  base = bound heap_label

  abbrev globals : ℕ
  globals = length image.globals.items

  abbrev all : ℕ
  all = 2 ^ 20 + globals

  abbrev first : ℕ
  first = heap_start (globals + t.inputs)

  abbrev adding : ℕ
  adding = added_by full (words_of bytes)

  abbrev told : Told
  told = told_of t number

  abbrev committing : Hart
  committing = walk told before_code h

  abbrev committed : (count : ℕ) → Hart
  committed count = writes committing t1 count

  abbrev answering : (count : ℕ) → Hart
  answering count = walk told (behind_code all) (committed count)

  parts : LinesAt image bound base (quiet_lines before_code) × LinesAt image bound (base + 14) (commits 1 tell ∷ end_lines all)
  parts = lines_split image bound base (quiet_lines before_code) (commits 1 tell ∷ end_lines all) shared.lines

  ends : LinesAt image bound (suc (base + 14)) (quiet_lines (behind_code all)) × LinesAt image bound (suc (base + 14) + 16) (quiet return ∷ [])
  ends = lines_split image bound (suc (base + 14)) (quiet_lines (behind_code all)) (quiet return ∷ []) parts.1.1

  can_before : CanWalk told before_code h
  can_before =
      let local : h.registers local_register ≡ 0x20000000 = comes.local in
      ((omega arith, ap (λ a. word_sum a 8) local), (tt, (tt, (tt, (tt, (tt, (tt, (tt, (tt, (tt, (tt, (tt, (tt, (tt, tt))))))))))))))

  can_behind : (count : ℕ) → CanWalk told (behind_code all) (committed count)
  can_behind count =
      let local : h.registers local_register ≡ 0x20000000 = comes.local in
      let devices : h.registers device_register ≡ 0x30000000 = comes.devices in
      (ap (λ a. word_sum a 28) devices, (tt, (tt, (tt, (tt, (tt, (tt, (tt, (tt, ((omega arith, ap (λ a. word_sum a 8) local), (tt, (tt, (tt, (tt, (tt, (tt, tt))))))))))))))))

  -- what is added
  adds_words : committing.registers t0 ≡ adding
  adds_words =
      ap (λ n. added n (h.registers t0)) comes.noted
      ∙ ap (added (from_bool full)) comes.size
      ∙ added_is full bytes comes.is_word

  -- where the heap begins
  begins : begins_at (word_sum (high_part all * 4096) (low_part all)) t.inputs ≡ first
  begins =
      let number = number_of_parts all in
      let least = shared.few in
      let e : word all ≡ all = omega arith in
      ap (λ n. begins_at n t.inputs) (number ∙ e) ∙ begins_is globals t.inputs (omega arith)

  block_is : (count : ℕ) → (answering count).registers t0 ≡ block_at first count adding
  block_is count =
      ap (λ d. answer_in count (begins_at (word_sum (high_part all * 4096) (low_part all)) t.inputs) (committing.registers t0) d) comes.shared_data
      ∙ ap (λ n. answer_in count n (committing.registers t0) 0x10000000) begins
      ∙ ap (λ a. answer_in count first a 0x10000000) adds_words
      ∙ answer_here first count adding

  note_is : (count : ℕ) → (answering count).local 2 ≡ from_bool (is_past first (word_sum count adding))
  note_is count =
      ap (λ n. past_word (at_word count n) (committing.registers t0)) begins
      ∙ ap (λ a. past_word (at_word count first) a) adds_words
      ∙ past_is first count adding

  -- ---- the way behind the commit

  abbrev cycle1 : Setting
  cycle1 = later (in_cycles 14 t)

  returns : (count : ℕ) → (committed count).pc ≡ 4 * suc (base + 14) → (committed count).ended ≡ false
      → RunsPrivately image cycle1 number 17 (committed count) (jumps (answering count) 0 (4 * back))
  returns count pc live =
      let holds1 = holds_in_cycles image 15 t holds in
      let w = walked image bound cycle1 number holds1 (behind_code all) (suc (base + 14)) (committed count) ends.0 pc live (can_behind count) in
      let holds2 = holds_in_cycles image 16 cycle1 holds1 in
      let link : (answering count).registers ra ≡ 4 * back = comes.link in
      let near = comes.within in
      let target : word_sum ((answering count).registers ra) 0 / 2 * 2 ≡ 4 * back = omega arith in
      let aligned : 4 * back % 4 ≡ 0 = omega arith in
      let cycle2 = in_cycles 16 cycle1 in
      runs_join image cycle1 number 16 1 (committed count) (answering count) (jumps (answering count) 0 (4 * back)) w.runs (
        jumps (answering count) 0 (4 * back),
        private image cycle2 number (suc (base + 14) + 16) (Jalr zero_register ra 0) (answering count) (jumps (answering count) 0 (4 * back)) holds2 ends.1.0 w.pc w.live
            (λ s. (s.reserved, jalr_goes cycle2 number 0 1 0 (4 * back) (answering count) s target aligned)),
        refl,
      )

  goes_on : (count : ℕ) → (answering count).ended ≡ false → GoesOnWithBlock first count adding back h (jumps (answering count) 0 (4 * back))
  goes_on count live = record {
    live = live;
    at = refl;
    block = block_is count;
    noted = note_is count;
    registers = λ r free. behind_registers told all count committing r free ∙ before_registers told h r free;
    words = λ j apart. other_word h.local 2 ((answering count).local 2) j apart;
  }

  hires : (committing : Hart) × RunsPrivately image t number 14 h committing
      × AddsToCount image (in_cycles 14 t) number adding committing
      (λ count h1. (h' : Hart) × RunsPrivately image (later (in_cycles 14 t)) number 17 h1 h' × GoesOnWithBlock first count adding back h h')
  hires =
      let w = walked image bound t number holds before_code base h parts.0 comes.at comes.live can_before in
      let w-pc = w.pc in
      let at = parts.1.0 in
      let within = at.within in
      let pc : committing.pc ≡ 4 * (base + 14) = w-pc in
      let pc1 : word_sum committing.pc 4 ≡ 4 * suc (base + 14) = omega arith in
      let t' = in_cycles 14 t in
      let holds' = holds_in_cycles image 14 t holds in (
        committing,
        w.runs,
        record {
          live = w.live;
          counted = ap (count_in image.commits.items) pc ∙ at.counted;
          hart = committed;
          adds = λ sh. (
            cleared sh.reserved (committing.registers t1),
            step_at image (base + 14) 1 tell at t' holds' number committing sh pc
                ∙ amoadd-control t' number 6 6 5 asked_word committing sh refl (place_of-control 0x18400020 asked_word (omega arith) refl)
                ∙ ap (λ a. Goes (committed (sh.control asked_word)) (record sh { control = put sh.control asked_word (word_sum (sh.control asked_word) a); reserved = cleared sh.reserved (committing.registers t1) })) adds_words,
          );
          follows = λ count. (jumps (answering count) 0 (4 * back), returns count pc1 w.live, goes_on count w.live);
        },
      )

pub heap_code_hires : HeapCodeHires
heap_code_hires image bound t number bytes back full h shared holds few comes = hires image bound t number bytes back full h shared holds few comes
