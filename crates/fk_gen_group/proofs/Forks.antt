-- The members of a group that a `fork` divides.
use Rattle.std.proofs.Common.{◌≡◌, ◌≢◌, ℕ, zero, suc, ◌+◌, ◌-◌, ◌*◌, ◌^◌, ◌<◌, ◌≤◌, List, [], ◌∷◌, ◌++◌, length, true, false, Option, Some, None, sym, ap, subst, ◌∙◌, arith, refl}
use Rattle.std.specs.Prelude.{nat_lt, is_some}
use Rattle.std.specs.Int.{from_bool}
use Rattle.std.proofs.Math.Nat.{mul_left_comm}
use Rattle.std.proofs.lemmas.Bool.{le-leb, ne_eqb}
use Rattle.fk_num.specs.Word.{word, word_sum}
use Rattle.fk_num.specs.Op.{applied, quotient}
use Rattle.fk_num.specs.declared.operator.Op.TheVariants as num
use Rattle.fk_space.specs.Space.{Space, IsSpace, free, equal_part}
use Rattle.fk_meaning_operation.specs.declared.operation.SplitKind.TheVariants.{Fork}
use Rattle.fk_meaning_operation.specs.declared.operation.Operation.TheVariants.{Split}
use Rattle.fk_meaning.specs.Processor.{Setting, values, last, before}
use Rattle.fk_meaning.specs.Group.{has_parts}
use Rattle.fk_core.specs.declared.op.CoreOp.{CoreOp}
use Rattle.fk_image.specs.declared.Image.{Image}
use Rattle.fk_isa.specs.declared.instruction.Instruction.TheVariants.{Jal, Addi, Add, Sub, Mul, Slli, Srli, Sltiu, Sltu, Divu}
use Rattle.fk_machine.specs.Hart.{Hart, Setting as MachineSetting}
use Rattle.fk_sim_nodes.specs.Node.{Member}
use Rattle.fk_sim_nodes.specs.Alone.{RunsPrivately, later, in_cycles}
use Rattle.fk_sim_block.specs.Owner.{Owner}
use Rattle.fk_sim_block.specs.Stands.{Places, value_in, frame_end, local_address, zero_register, frame_register, end_register}
use Rattle.fk_sim_block.specs.Block.{Enters}
use Rattle.fk_sim_block.specs.Node.{Nestings, KnowsSpace, first_word, control_address, node_register, frames_register, blocks_register}
use Rattle.fk_sim_block.specs.Lockstep.{IsMember}
use Rattle.fk_sim_block.specs.Parts.{IsToDivide, part_of, parts_of}
use Rattle.fk_gen.specs.Registers.{ra, t0, t1, t2, t3, t4, t5, t6}
use Rattle.fk_gen.specs.Lines.{goes_to, at_private, at_value, label_of}
use Rattle.fk_gen.specs.Operands.{operand}
use Rattle.fk_gen.specs.InPlace.{LinesAt}
use Rattle.fk_gen.proofs.Difference.{difference}
use Rattle.fk_gen.proofs.Values.{value_place, values_before, length_before}
use Rattle.fk_gen.proofs.ValueLines.{operand_is}
use Rattle.fk_gen.proofs.Walk.{Quiets, Plain, LocalAt, walk, told_of, walked, lines_split, runs_join}
use Rattle.fk_gen.proofs.Jumps.{jumps, goes_to_pc, jal_private, bgeu_taken}
use Rattle.fk_gen.proofs.Does.{holds_in_cycles}
use Rattle.fk_gen_group.specs.Splits.{HasParts, fork_label, fork_room, fork_place, counting_lines, waiting_lines, fork_saving, into_one_part, no_parts, heading_by}
use Rattle.fk_gen_group.specs.Laws.{IsInPlace}
use Rattle.fk_gen_group.proofs.Last.{value_word}
use Rattle.fk_gen_group.proofs.Sizes.{positive, positive_is}
use Rattle.fk_gen_group.proofs.PartSizes.{word_at}
use Rattle.fk_gen_group.proofs.ForkSizes.{entry, entry_of, room_of, share_of, part_ends, ends_in, number_of_part}

-- ---- the values

module _ (core : List CoreOp) (image : Image) (bound : ℕ → ℕ) (places : Places) (nestings : Nestings) (i : ℕ) (op : CoreOp)
    (place : IsInPlace core image bound places nestings i op (Split Fork)) (setting : Setting) (t : MachineSetting) (m : Member) (p : Owner)
    (en : Enters core image places setting t i op (Split Fork) p m.hart) where
  abbrev vs : List ℕ
  vs = values p.runner.has

  abbrev n : ℕ
  n = length p.runner.has.callers

  -- the word behind the jump to the shared code
  abbrev pub fork_link : ℕ
  fork_link = places.block i + 5

  -- the hart at that code
  pub record Fronted : Type 0 where
    pub hart : Hart
    pub runs : RunsPrivately image t m.number 5 m.hart hart
    pub at : hart.pc ≡ 4 * bound fork_label
    pub live : hart.ended ≡ false
    pub count : hart.registers t3 ≡ last (before 2 vs)
    pub part : hart.registers t4 ≡ last (before 1 vs)
    pub rank : hart.registers t5 ≡ last vs
    pub slot : hart.registers t2 ≡ word_sum (m.hart.registers frame_register) (at_private (nestings.behind i + 4 * nestings.levels i))
    pub link : hart.registers ra ≡ 4 * fork_link
    pub local : hart.local ≡ m.hart.local
    pub others : (r : ℕ) → r ≢ 1 → r ≢ 7 → r ≢ 28 → r ≢ 29 → r ≢ 30 → hart.registers r ≡ m.hart.registers r
    pub back : LinesAt image bound fork_link (goes_to (Jal zero_register 0) (label_of op.target) ∷ no_parts op.site)
    pub heading : LinesAt image bound (fork_link + 4) (heading_by (nestings.levels i))
    pub next : places.block (suc i) ≡ fork_link + 4 + length (heading_by (nestings.levels i))

  -- the value before some of the last ones
  value_at : (place' k : ℕ) → place' ≡ op.depth - k → k < 3 → (value_word place' m.hart < 32768) × (word_sum (m.hart.registers end_register) (at_value place') ≡ local_address (value_word place' m.hart))
      × (m.hart.local (value_word place' m.hart) ≡ last (before k vs))
  value_at place' k e lt =
      let header = place.fits.room.header in
      let filled = place.values in
      let calls = en.ready.in_range.waiting in
      let depth = en.ready.depth in
      let at = value_place (m.hart.registers end_register) n place' en.at.stands.behind calls (omega arith) (omega arith) in
      let within = at.0 in
      let address = at.1 in
      let index : value_word place' m.hart ≡ frame_end n - place' = omega arith in
      let many = length_before k vs in (
        omega arith,
        address ∙ ap local_address (sym index),
        ap m.hart.local index ∙ operand_is (value_in m.hart n) place' (before k vs) (values_before k (value_in m.hart n) vs en.at.stands.running.values) (omega arith) (omega arith),
      )

  pub fork_fronted : Fronted
  fork_fronted =
      let k = places.block i in
      let told = told_of t m.number in
      let pc : m.hart.pc ≡ 4 * k = en.at.at ∙ ap (λ j. 4 * places.block j) en.index in
      let three = value_at (op.depth - 2) 2 refl (omega arith) in
      let two = value_at (op.depth - 1) 1 refl (omega arith) in
      let one = value_at op.depth 0 (omega arith) (omega arith) in
      let quiets : Quiets =
      (operand t3 (op.depth - 2), LocalAt (value_word (op.depth - 2) m.hart)) ∷ (operand t4 (op.depth - 1), LocalAt (value_word (op.depth - 1) m.hart)) ∷
      (operand t5 op.depth, LocalAt (value_word op.depth m.hart)) ∷ (Addi t2 frame_register (at_private (nestings.behind i + 4 * nestings.levels i)), Plain) ∷ [] in
      let lines = place.block.lines in
      let w = walked image bound t m.number en.running.code quiets k m.hart (lines.0, (lines.1.0, (lines.1.1.0, (lines.1.1.1.0, tt)))) pc en.at.live
      ((three.0, three.1), ((two.0, two.1), ((one.0, one.1), (tt, tt)))) in
      let h = walk told quiets m.hart in
      let rest = lines.1.1.1.1 in
      let within = rest.0.within in
      let k4 = suc (suc (suc (suc k))) in
      let at : h.pc ≡ 4 * k4 = w.pc ∙ omega arith in
      let five : suc k4 ≡ fork_link = omega arith in
      let nine : suc (suc (suc (suc (suc k4)))) ≡ fork_link + 4 = omega arith in
      let next = place.block.next in
      record {
        hart = jumps h 1 (4 * bound fork_label);
        runs = runs_join image t m.number 4 1 m.hart h (jumps h 1 (4 * bound fork_label)) w.runs (
          jumps h 1 (4 * bound fork_label),
          jal_private image bound (in_cycles 4 t) m.number k4 1 fork_label h (holds_in_cycles image 4 t en.running.code) rest.0 (place.block.labels.within fork_label) at w.live,
          refl,
        );
        at = refl;
        live = w.live;
        count = three.2;
        part = two.2;
        rank = one.2;
        slot = refl;
        link = omega arith;
        local = refl;
        others = λ r a b c d e. rw (ne_eqb r 1 a, ne_eqb r 7 b, ne_eqb r 30 e, ne_eqb r 29 d, ne_eqb r 28 c);
        back = subst (λ j. LinesAt image bound j (goes_to (Jal zero_register 0) (label_of op.target) ∷ no_parts op.site)) five (rest.1.0, (rest.1.1.0, (rest.1.1.1.0, (rest.1.1.1.1.0, tt))));
        heading = subst (λ j. LinesAt image bound j (heading_by (nestings.levels i))) nine rest.1.1.1.1.1;
        next = omega arith;
      }

  -- ---- where a member comes to count

  module _ (shared : HasParts image bound) (space : Space) (count : ℕ) (is_space : IsSpace space) (first : ℕ) (member : IsMember places nestings setting None first m p)
      (divides : IsToDivide nestings Fork space count p) (front : Fronted) where
    abbrev h1 : Hart
    h1 = front.hart

    pub known : (h1.registers frames_register ≡ control_address space.frames) × (h1.registers blocks_register ≡ control_address space.blocks)
    known =
        let k = subst (λ o. KnowsSpace p.runner.has.level o m.hart) divides.group.outer member.node.space in (
          front.others 12 (λ e. omega arith) (λ e. omega arith) (λ e. omega arith) (λ e. omega arith) (λ e. omega arith) ∙ k.0 ∙ ap (λ (s : Space). control_address s.frames) divides.space_is,
          front.others 13 (λ e. omega arith) (λ e. omega arith) (λ e. omega arith) (λ e. omega arith) (λ e. omega arith) ∙ k.1 ∙ ap (λ (s : Space). control_address s.blocks) divides.space_is,
        )

    node_is : h1.registers node_register ≡ control_address first
    node_is = front.others 10 (λ e. omega arith) (λ e. omega arith) (λ e. omega arith) (λ e. omega arith) (λ e. omega arith) ∙ member.node.node ∙ ap control_address member.words

    low_is : first ≡ space.low
    low_is = sym member.words ∙ ap (first_word p.runner.has.level) divides.group.outer ∙ ap (λ (s : Space). s.low) divides.space_is

    zero_is : h1.registers zero_register ≡ 0
    zero_is = front.others 0 (λ e. omega arith) (λ e. omega arith) (λ e. omega arith) (λ e. omega arith) (λ e. omega arith) ∙ en.at.stands.nought

    -- the number of parts
    parts_is : positive (h1.registers t3) ≡ count
    parts_is = ap positive front.count ∙ positive_is (last (before 2 vs)) ∙ divides.count_is

    left_is : applied num.Sub (h1.registers blocks_register) (h1.registers frames_register) ≡ 4 * free space
    left_is =
        let frames = known.0 in
        let blocks = known.1 in
        let ordered = is_space.ordered in
        let within = is_space.within in
        let top = is_space.shared in
        difference (h1.registers blocks_register) (h1.registers frames_register) (omega arith) ∙ omega arith

    -- what the first lines come to
    abbrev room_lines : Quiets
    room_lines =
        (Srli t0 t3 31, Plain) ∷ (Sltiu t0 t0 1, Plain) ∷ (Mul t3 t3 t0, Plain) ∷ (Sub t0 blocks_register frames_register, Plain) ∷ (Srli t0 t0 2, Plain) ∷ (Divu t0 t0 t3, Plain) ∷
        (Addi t1 zero_register 20, Plain) ∷ []

    abbrev pub roomed : Hart
    roomed = walk (told_of (in_cycles 5 t) m.number) room_lines h1

    pub quotient_is : roomed.registers t0 ≡ quotient (free space) count
    quotient_is =
        let few = left_is in
        let words : applied num.ShrU (applied num.Sub (h1.registers blocks_register) (h1.registers frames_register)) 2 ≡ free space = omega arith in
        ap (λ x. quotient x (positive (h1.registers t3))) words ∙ ap (quotient (free space)) parts_is

    pub twenty_is : roomed.registers t1 ≡ 20
    twenty_is = ap (λ z. word_sum z 20) zero_is

    pub room_runs : RunsPrivately image t m.number 12 m.hart roomed × (roomed.pc ≡ 4 * (bound fork_label + 7))
    room_runs =
        let k = bound fork_label in
        let cycle5 = in_cycles 5 t in
        let l = shared.fork in
        let w = walked image bound cycle5 m.number (holds_in_cycles image 5 t en.running.code) room_lines k h1
        (l.0, (l.1.0, (l.1.1.0, (l.1.1.1.0, (l.1.1.1.1.0, (l.1.1.1.1.1.0, (l.1.1.1.1.1.1.0, tt))))))) front.at front.live (tt, (tt, (tt, (tt, (tt, (tt, (tt, tt))))))) in
        (runs_join image t m.number 5 7 m.hart h1 roomed front.runs w.runs, w.pc)

    -- with room it goes on to the lines that find its part
    abbrev place_lines : Quiets
    place_lines =
        (Addi t0 t0 (2 ^ 32 - 4), Plain) ∷ (Slli t6 t0 2, Plain) ∷ (Mul t1 t4 t6, Plain) ∷ (Slli t0 t3 4, Plain) ∷ (Add t1 t1 t0, Plain) ∷ (Add t1 t1 frames_register, Plain) ∷
        (Sltu t3 t4 t3, Plain) ∷ (Sub t1 t1 node_register, Plain) ∷ (Mul t1 t1 t3, Plain) ∷ (Add t1 t1 node_register, Plain) ∷ []

    abbrev passed : Hart
    passed = goes_to_pc roomed (word_sum roomed.pc 8)

    abbrev pub placed : Hart
    placed = walk (told_of (in_cycles 13 t) m.number) place_lines passed

    abbrev bytes : ℕ
    bytes = applied num.Shl (word_sum (quotient (free space) count) (2 ^ 32 - 4)) 2

    -- the address of a part, and of its own node for who waits, by what these lines find
    abbrev reached : (i k bytes frames flag node : ℕ) → ℕ
    reached i k bytes frames flag node =
        word_sum (applied num.Mul (applied num.Sub (word_sum (word_sum (applied num.Mul i bytes) (applied num.Shl k 4)) frames) node) flag) node

    pub flag_is : placed.registers t3 ≡ entry p
    flag_is =
        let parts : roomed.registers t3 ≡ count = parts_is in
        ap (λ x. from_bool (nat_lt x (roomed.registers t3))) front.part ∙ ap (λ k. from_bool (nat_lt (last (before 1 vs)) k)) (parts ∙ sym divides.count_is)

    bytes_is : placed.registers t6 ≡ bytes
    bytes_is = ap (λ x. applied num.Shl (word_sum x (2 ^ 32 - 4)) 2) quotient_is

    reached_is : placed.registers t1 ≡ reached (last (before 1 vs)) count bytes (control_address space.frames) (entry p) (control_address first)
    reached_is =
        let parts : roomed.registers t3 ≡ count = parts_is in
        ap (λ b. reached (h1.registers t4) (roomed.registers t3) b (h1.registers frames_register) (placed.registers t3) (h1.registers node_register)) bytes_is
        ∙ ap (λ x. reached x (roomed.registers t3) bytes (h1.registers frames_register) (placed.registers t3) (h1.registers node_register)) front.part
        ∙ ap (λ x. reached (last (before 1 vs)) x bytes (h1.registers frames_register) (placed.registers t3) (h1.registers node_register)) parts
        ∙ ap (λ x. reached (last (before 1 vs)) count bytes x (placed.registers t3) (h1.registers node_register)) known.0
        ∙ ap (λ x. reached (last (before 1 vs)) count bytes (control_address space.frames) x (h1.registers node_register)) flag_is
        ∙ ap (reached (last (before 1 vs)) count bytes (control_address space.frames) (entry p)) node_is

    -- ---- there is room

    module _ (room : has_parts space count ≡ true) where
      -- the bytes of a part, where there is one
      pub share_bytes : (j : ℕ) → j < count → bytes ≡ 4 * equal_part space count
      share_bytes j lt = by count room lt
        where
          by : (c : ℕ) → has_parts space c ≡ true → j < c → applied num.Shl (word_sum (quotient (free space) c) (2 ^ 32 - 4)) 2 ≡ 4 * equal_part space c
          by zero e less = absurd (omega arith)
          by (suc c) e less =
              let q = share_of space c e in
              let ends = part_ends space c j e less in
              let within = is_space.within in
              let top = is_space.shared in
              let few : equal_part space (suc c) ≤ 2 ^ 20 = omega (arith, ends, within, top) in
              ap (λ x. applied num.Shl (word_sum x (2 ^ 32 - 4)) 2) q ∙ omega (arith, few)

      -- who enters comes to its part
      enters_word : (j : ℕ) → j < count → reached j count bytes (control_address space.frames) 1 (control_address first) ≡ control_address (word_at space first count (Some j))
      enters_word j lt =
          let b = share_bytes j lt in
          let ends = ends_in space first count is_space low_is room j lt in
          let header = is_space.header in
          let ordered = is_space.ordered in
          let within = is_space.within in
          let top = is_space.shared in
          let low = low_is in
          let four : j * (4 * equal_part space count) ≡ 4 * (j * equal_part space count) = mul_left_comm j 4 (equal_part space count) in
          let product : applied num.Mul j (4 * equal_part space count) ≡ 4 * (j * equal_part space count) = ap word four ∙ omega (arith, ends, within, top) in
          let sum : word_sum (word_sum (4 * (j * equal_part space count)) (applied num.Shl count 4)) (control_address space.frames) ≡ control_address (word_at space first count (Some j)) =
          omega (arith, ends, within, top) in
          let distance : applied num.Sub (control_address (word_at space first count (Some j))) (control_address first) ≡ 4 * (word_at space first count (Some j) - first) =
          difference (control_address (word_at space first count (Some j))) (control_address first) (omega (arith, low, header, ordered, within, top)) ∙ omega (arith, ends, low, header, ordered, within, top) in
          ap (λ x. reached j count x (control_address space.frames) 1 (control_address first)) b
          ∙ ap (λ x. word_sum (applied num.Mul (applied num.Sub (word_sum (word_sum x (applied num.Shl count 4)) (control_address space.frames)) (control_address first)) 1) (control_address first)) product
          ∙ ap (λ x. word_sum (applied num.Mul (applied num.Sub x (control_address first)) 1) (control_address first)) sum
          ∙ ap (λ x. word_sum (applied num.Mul x 1) (control_address first)) distance
          ∙ omega (arith, ends, low, header, ordered, within, top)

      waits_word : (i k : ℕ) → reached i k bytes (control_address space.frames) 0 (control_address first) ≡ control_address first
      waits_word i k =
          let header = is_space.header in
          let ordered = is_space.ordered in
          let within = is_space.within in
          let top = is_space.shared in
          let low = low_is in
          let none : (x : ℕ) → word_sum (applied num.Mul x 0) (control_address first) ≡ control_address first = λ x. omega (arith, low, header, ordered, within, top) in
          none (applied num.Sub (word_sum (word_sum (applied num.Mul i bytes) (applied num.Shl k 4)) (control_address space.frames)) (control_address first))

      pub word_is : placed.registers t1 ≡ control_address (word_at space first count (part_of Fork p))
      word_is = reached_is ∙ by (part_of Fork p) refl
        where
          entry_is : (o : Option ℕ) → part_of Fork p ≡ o → entry p ≡ from_bool (is_some o)
          entry_is o e = entry_of (last (before 1 vs)) (parts_of Fork p) o e

          by : (o : Option ℕ) → part_of Fork p ≡ o
              → reached (last (before 1 vs)) count bytes (control_address space.frames) (entry p) (control_address first) ≡ control_address (word_at space first count o)
          by None e =
              ap (λ x. reached (last (before 1 vs)) count bytes (control_address space.frames) x (control_address first)) (entry_is None e) ∙ waits_word (last (before 1 vs)) count
          by (Some j) e =
              let number = number_of_part p j e in
              ap (λ x. reached (last (before 1 vs)) count bytes (control_address space.frames) x (control_address first)) (entry_is (Some j) e)
              ∙ ap (λ x. reached x count bytes (control_address space.frames) 1 (control_address first)) number.0
              ∙ enters_word j (subst (λ c. j < c) divides.count_is number.1)

      -- the hart at the lines that count
      pub record IsPlaced : Type 0 where
        pub hart : Hart
        pub runs : RunsPrivately image t m.number 23 m.hart hart
        pub at : hart.pc ≡ 4 * (bound fork_label + 19)
        pub live : hart.ended ≡ false
        pub address : hart.registers t1 ≡ control_address (word_at space first count (part_of Fork p))
        pub flag : hart.registers t3 ≡ entry p
        pub share : (j : ℕ) → j < count → hart.registers t6 ≡ 4 * equal_part space count
        pub local : hart.local ≡ h1.local
        pub others : (r : ℕ) → r ≢ 5 → r ≢ 6 → r ≢ 28 → r ≢ 31 → hart.registers r ≡ h1.registers r

      pub is_placed : IsPlaced
      is_placed =
          let k = bound fork_label in
          let k7 = suc (suc (suc (suc (suc (suc (suc k)))))) in
          let holds = holds_in_cycles image 12 t en.running.code in
          let cycle12 = in_cycles 12 t in
          let a = lines_split image bound k fork_room (fork_place ++ (counting_lines t3 ++ (waiting_lines ++ (fork_saving ++ into_one_part)))) shared.fork in
          let b = lines_split image bound (k + 9) fork_place (counting_lines t3 ++ (waiting_lines ++ (fork_saving ++ into_one_part))) a.1 in
          let line = a.0.1.1.1.1.1.1.1.0 in
          let near = a.0.1.1.1.1.1.1.1.1.0.within in
          let there = room_runs.1 in
          let at : roomed.pc ≡ 4 * k7 = there ∙ omega arith in
          let large = room_of space count room in
          let q = quotient_is in
          let e = twenty_is in
          let aligned : passed.pc ≡ 4 * (k + 9) = omega arith in
          let w = walked image bound (later cycle12) m.number (holds_in_cycles image 13 t en.running.code) place_lines (k + 9) passed
          b.0 aligned front.live (tt, (tt, (tt, (tt, (tt, (tt, (tt, (tt, (tt, (tt, tt)))))))))) in
          record {
            hart = placed;
            runs = runs_join image t m.number 12 11 m.hart roomed placed room_runs.0 (
              passed,
              bgeu_taken image cycle12 m.number k7 5 6 8 roomed holds line at front.live (le-leb (roomed.registers t1) (roomed.registers t0) (omega arith)) (omega arith),
              w.runs,
            );
            at = w.pc ∙ omega arith;
            live = w.live;
            address = word_is;
            flag = flag_is;
            share = λ j lt. bytes_is ∙ share_bytes j lt;
            local = refl;
            others = λ r a b c d. rw (ne_eqb r 5 a, ne_eqb r 6 b, ne_eqb r 28 c, ne_eqb r 31 d);
          }
