-- Where the members of a group come to count themselves at a split, and how they enter parts.
use Rattle.std.proofs.Common.{◌≡◌, ◌≢◌, ℕ, zero, suc, ◌+◌, ◌-◌, ◌*◌, ◌/◌, ◌%◌, ◌^◌, ◌<◌, ◌≤◌, List, [], ◌∷◌, ◌++◌, length, true, false, None, sym, ap, subst, ◌∙◌, arith, refl, ◌⊎◌, inl, inr, eq-eqb}
use Rattle.std.specs.Prelude.{◌==◌}
use Rattle.std.proofs.lemmas.Bool.{le-leb, ne_eqb}
use Rattle.fk_num.specs.Word.{Memory, put, word_sum}
use Rattle.fk_num.specs.Op.{applied}
use Rattle.fk_num.specs.declared.operator.Op.TheVariants as num
use Rattle.fk_space.specs.Space.{Space, IsSpace, free, equal_part}
use Rattle.fk_meaning_operation.specs.declared.operation.SplitKind.{SplitKind}
use Rattle.fk_meaning_operation.specs.declared.operation.SplitKind.TheVariants.{OrElse}
use Rattle.fk_meaning_operation.specs.declared.operation.Operation.TheVariants.{Split}
use Rattle.fk_meaning.specs.Processor.{Level, Setting, values, before, drop_last, enter_level}
use Rattle.fk_meaning.specs.Group.{taken_by}
use Rattle.fk_core.specs.declared.op.CoreOp.{CoreOp}
use Rattle.fk_core.specs.Next.{position}
use Rattle.fk_image.specs.declared.Image.{Image}
use Rattle.fk_isa.specs.declared.instruction.Instruction.TheVariants.{Jal, Jalr, Addi, Add, Sub, Mul, Slli, Srli, Sw}
use Rattle.fk_machine.specs.Hart.{Hart, Setting as MachineSetting}
use Rattle.fk_machine.proofs.Performs.{writes}
use Rattle.fk_sim_nodes.specs.Node.{Member}
use Rattle.fk_sim_nodes.specs.Alone.{Holds, RunsPrivately, later, in_cycles}
use Rattle.fk_sim_block.specs.Owner.{Owner, number_of}
use Rattle.fk_sim_block.specs.Stands.{Places, HasValues, FrameInMemory, local_address, frame_start, frame_end, group_word, value_of, zero_register, size_register, group_frame_register, HaveGroupFrames, number_register, rank_register}
use Rattle.fk_sim_block.specs.Suits.{Flows, nothing}
use Rattle.fk_sim_block.specs.Block.{Enters}
use Rattle.fk_sim_block.specs.Node.{Nestings, HasLevelRoom, HasSaved, HasOuter, KnowsSpace, saved_at, first_word, past_levels, control_address, node_register, frames_register, blocks_register, HasLevelBy, frames_word}
use Rattle.fk_sim_block.specs.Lockstep.{IsMember, IsInGroup, LevelOpens}
use Rattle.fk_sim_block.specs.Parts.{IsToDivide}
use Rattle.fk_gen.proofs.Difference.{difference}
use Rattle.fk_gen.proofs.Values.{same_word, other_word, values_kept, values_before, length_before}
use Rattle.fk_gen.specs.Registers.{t0, t3, ra, t1, t2, t4}
use Rattle.fk_gen.specs.Lines.{goes_to, label_of}
use Rattle.fk_gen.specs.InPlace.{LinesAt, HasLabels}
use Rattle.fk_gen.proofs.Walk.{Quiets, Plain, LocalAt, CanWalk, Told, walk, told_of, walked, lines_split, private, runs_join}
use Rattle.fk_gen.proofs.Jumps.{jumps, goes_to_pc, jalr_goes, jal_private, bne_taken, bne_on, bgeu_taken}
use Rattle.fk_gen.proofs.Does.{holds_in_cycles}
use Rattle.fk_gen.proofs.Standing.{InMemory, in_memory, groups_on, waiting_kept, with_list}
use Rattle.fk_gen_group.specs.Splits.{HasParts, no_parts, part_lines, parts_label, one_part_label, two_parts_label, one_part_place, two_parts_place, counting_lines, waiting_lines, saving_lines, into_one_part, into_two_parts}
use Rattle.fk_gen_group.specs.Laws.{IsInPlace}
use Rattle.fk_gen_group.proofs.Last.{value_word, is_value}
use Rattle.fk_gen_group.proofs.Levels.{below_values, lies_below, many_callers, saved_kept, saved_by, outer_kept}
use Rattle.fk_gen_group.proofs.Fronts.{Fronted, memory_by}

-- ---- a part is at its place

module _ (core : List CoreOp) (image : Image) (bound : ℕ → ℕ) (places : Places) (nestings : Nestings) (i : ℕ) (op : CoreOp) (by : SplitKind)
    (place : IsInPlace core image bound places nestings i op (Split by)) (shared : HasParts image bound)
    (setting : Setting) (space : Space) (count : ℕ) (is_space : IsSpace space)
    (cycle0 : MachineSetting) (first : ℕ) (m : Member) (p : Owner) (en : Enters core image places setting cycle0 i op (Split by) p m.hart)
    (member : IsMember places nestings setting None first m p) (divides : IsToDivide nestings by space count p) (front : Fronted core image bound places nestings i op by place setting cycle0 m p en) where
  abbrev n : ℕ
  n = length (part_lines by op.depth) + 2

  abbrev h1 : Hart
  h1 = front.hart

  kept : (r : ℕ) → r ≢ 1 → r ≢ 5 → r ≢ 7 → r ≢ 28 → h1.registers r ≡ m.hart.registers r
  kept = front.others

  known : (h1.registers frames_register ≡ control_address space.frames) × (h1.registers blocks_register ≡ control_address space.blocks)
  known =
      let k = subst (λ o. KnowsSpace p.runner.has.level o m.hart) divides.group.outer member.node.space in (
        kept 12 (λ e. omega arith) (λ e. omega arith) (λ e. omega arith) (λ e. omega arith) ∙ k.0 ∙ ap (λ (s : Space). control_address s.frames) divides.space_is,
        kept 13 (λ e. omega arith) (λ e. omega arith) (λ e. omega arith) (λ e. omega arith) ∙ k.1 ∙ ap (λ (s : Space). control_address s.blocks) divides.space_is,
      )

  node_is : h1.registers node_register ≡ control_address first
  node_is = kept 10 (λ e. omega arith) (λ e. omega arith) (λ e. omega arith) (λ e. omega arith) ∙ member.node.node ∙ ap control_address member.words

  -- its group's space begins at its node's words
  low_is : first ≡ space.low
  low_is = sym member.words ∙ ap (first_word p.runner.has.level) divides.group.outer ∙ ap (λ (s : Space). s.low) divides.space_is

  -- the hart at the lines that count
  pub record IsPlaced (label offset steps word : ℕ) : Type 0 where
    pub hart : Hart
    pub runs : RunsPrivately image cycle0 m.number steps m.hart hart
    pub at : hart.pc ≡ 4 * (bound label + offset)
    pub live : hart.ended ≡ false
    pub word_is : hart.registers t1 ≡ control_address word
    pub local : hart.local ≡ h1.local
    pub others : (r : ℕ) → r ≢ 5 → r ≢ 6 → r ≢ 29 → hart.registers r ≡ h1.registers r

  -- ---- one part

  abbrev one_lines : Quiets
  one_lines = (Addi t1 t1 (2 ^ 32 - 64), Plain) ∷ (Sub t1 t1 node_register, Plain) ∷ (Mul t1 t1 t3, Plain) ∷ (Add t1 t1 node_register, Plain) ∷ []

  -- what the lines come to, by whether it enters
  abbrev pub one_word : ℕ → ℕ
  one_word flag = word_sum (applied num.Mul (applied num.Sub (word_sum (word_sum (h1.registers frames_register) 80) (2 ^ 32 - 64)) (h1.registers node_register)) flag) (h1.registers node_register)

  distance_is : applied num.Sub (word_sum (word_sum (h1.registers frames_register) 80) (2 ^ 32 - 64)) (h1.registers node_register) ≡ 4 * (space.frames + 4 - first)
  distance_is =
      let frames = known.0 in
      let node = node_is in
      let low = low_is in
      let header = is_space.header in
      let ordered = is_space.ordered in
      let within = is_space.within in
      let top = is_space.shared in
      difference (word_sum (word_sum (h1.registers frames_register) 80) (2 ^ 32 - 64)) (h1.registers node_register) (omega arith) ∙ omega arith

  pub enters_word : one_word 1 ≡ control_address (space.frames + 4)
  enters_word =
      let node = node_is in
      let low = low_is in
      let header = is_space.header in
      let ordered = is_space.ordered in
      let within = is_space.within in
      let top = is_space.shared in
      ap (λ d. word_sum (applied num.Mul d 1) (h1.registers node_register)) distance_is ∙ omega arith

  pub waits_word : one_word 0 ≡ control_address first
  waits_word =
      let node = node_is in
      let low = low_is in
      let header = is_space.header in
      let ordered = is_space.ordered in
      let within = is_space.within in
      let top = is_space.shared in
      ap (λ d. word_sum (applied num.Mul d 0) (h1.registers node_register)) distance_is ∙ omega arith

  pub placed_one : (flag word : ℕ) → parts_label by ≡ one_part_label → 20 ≤ free space → h1.registers t3 ≡ flag → one_word flag ≡ control_address word → IsPlaced one_part_label 7 (n + 6) word
  placed_one flag word label many e is =
      let k = bound one_part_label in
      let holds = holds_in_cycles image n cycle0 en.running.code in
      let frames = known.0 in
      let blocks = known.1 in
      let ordered = is_space.ordered in
      let within = is_space.within in
      let top = is_space.shared in
      let cycle1 = in_cycles n cycle0 in
      let cycle2 = later cycle1 in
      let cycle3 = later cycle2 in
      let l1 = shared.one.0 in
      let l2 = shared.one.1.0 in
      let rest = shared.one.1.1.1 in
      let last = rest.1.1.1.0 in
      let near = last.within in
      let e1 : h1.pc ≡ 4 * k = front.at ∙ ap (λ l. 4 * bound l) label in
      let h2 = writes h1 t1 (word_sum (h1.registers frames_register) 80) in
      let e2 : h2.pc ≡ 4 * suc k = omega arith in
      let h3 = goes_to_pc h2 (word_sum h2.pc 8) in
      let e3 : h3.pc ≡ 4 * (k + 3) = omega arith in
      let there : suc (suc (suc k)) ≡ k + 3 = omega arith in
      let w = walked image bound cycle3 m.number holds one_lines (suc (suc (suc k))) h3 (rest.0, (rest.1.0, (rest.1.1.0, (rest.1.1.1.0, tt)))) (e3 ∙ ap (λ j. 4 * j) (sym there)) front.live (tt, (tt, (tt, (tt, tt)))) in
      let h7 = walk (told_of cycle3 m.number) one_lines h3 in
      let pc = w.pc in
      record {
        hart = h7;
        runs = runs_join image cycle0 m.number n 6 m.hart h1 h7 front.runs (
          h2,
          private image cycle1 m.number k (Addi t1 frames_register 80) h1 h2 holds l1 e1 front.live (λ s. (s.reserved, refl)),
          (
            h3,
            bgeu_taken image cycle2 m.number (suc k) 13 6 8 h2 holds l2 e2 front.live (le-leb (h2.registers t1) (h2.registers blocks_register) (omega arith)) (omega arith),
            w.runs,
          ),
        );
        at = omega arith;
        live = w.live;
        word_is = ap one_word e ∙ is;
        local = refl;
        others = λ r a b c. rw (ne_eqb r 6 b);
      }

  -- ---- two parts

  abbrev two_lines : Quiets
  two_lines =
      (Srli t0 t0 3, Plain) ∷ (Slli t0 t0 2, Plain) ∷ (Addi t4 t0 (2 ^ 32 - 16), Plain) ∷ (Mul t1 t3 t4, Plain) ∷ (Add t1 t1 frames_register, Plain) ∷ (Addi t1 t1 32, Plain) ∷ (Addi t0 zero_register 1, Plain) ∷ []

  abbrev left : ℕ
  left = applied num.Sub (h1.registers blocks_register) (h1.registers frames_register)

  abbrev share_word : ℕ
  share_word = word_sum (applied num.Shl (applied num.ShrU left 3) 2) (2 ^ 32 - 16)

  abbrev pub two_word : ℕ → ℕ
  two_word flag = word_sum (word_sum (applied num.Mul flag share_word) (h1.registers frames_register)) 32

  left_is : left ≡ 4 * free space
  left_is =
      let frames = known.0 in
      let blocks = known.1 in
      let ordered = is_space.ordered in
      let within = is_space.within in
      let top = is_space.shared in
      difference (h1.registers blocks_register) (h1.registers frames_register) (omega arith) ∙ omega arith

  share_is : 40 ≤ free space → share_word ≡ 4 * equal_part space 2
  share_is many =
      let within = is_space.within in
      let top = is_space.shared in
      ap (λ x. word_sum (applied num.Shl (applied num.ShrU x 3) 2) (2 ^ 32 - 16)) left_is ∙ omega arith

  pub first_word_is : 40 ≤ free space → two_word 0 ≡ control_address (space.frames + 8)
  first_word_is many =
      let frames = known.0 in
      let ordered = is_space.ordered in
      let within = is_space.within in
      let top = is_space.shared in
      ap (λ x. word_sum (word_sum (applied num.Mul 0 x) (h1.registers frames_register)) 32) (share_is many) ∙ omega arith

  pub second_word_is : 40 ≤ free space → two_word 1 ≡ control_address (space.frames + 8 + equal_part space 2)
  second_word_is many =
      let frames = known.0 in
      let ordered = is_space.ordered in
      let within = is_space.within in
      let top = is_space.shared in
      ap (λ x. word_sum (word_sum (applied num.Mul 1 x) (h1.registers frames_register)) 32) (share_is many) ∙ omega arith

  -- with the bytes of each part in t4, and 1 in t0
  pub record IsHalved (word : ℕ) : Type 0 where
    pub placed : IsPlaced two_parts_label 11 (n + 10) word
    pub one : placed.hart.registers t0 ≡ 1
    pub share : placed.hart.registers t4 ≡ 4 * equal_part space 2

  pub placed_two : (flag word : ℕ) → parts_label by ≡ two_parts_label → 40 ≤ free space → h1.registers t3 ≡ flag → two_word flag ≡ control_address word → IsHalved word
  placed_two flag word label many e is =
      let k = bound two_parts_label in
      let holds = holds_in_cycles image n cycle0 en.running.code in
      let within = is_space.within in
      let top = is_space.shared in
      let free_is = left_is in
      let cycle1 = in_cycles n cycle0 in
      let cycle2 = later cycle1 in
      let cycle3 = later cycle2 in
      let cycle4 = later cycle3 in
      let l1 = shared.two.0 in
      let l2 = shared.two.1.0 in
      let l3 = shared.two.1.1.0 in
      let rest = shared.two.1.1.1.1 in
      let last = rest.1.1.1.1.1.1.0 in
      let near = last.within in
      let zero_is : h1.registers zero_register ≡ 0 = kept 0 (λ e. omega arith) (λ e. omega arith) (λ e. omega arith) (λ e. omega arith) ∙ en.at.stands.nought in
      let e1 : h1.pc ≡ 4 * k = front.at ∙ ap (λ l. 4 * bound l) label in
      let h2 = writes h1 t0 left in
      let e2 : h2.pc ≡ 4 * suc k = omega arith in
      let h3 = writes h2 t1 (word_sum (h1.registers zero_register) 160) in
      let e3 : h3.pc ≡ 4 * suc (suc k) = omega arith in
      let h4 = goes_to_pc h3 (word_sum h3.pc 8) in
      let e4 : h4.pc ≡ 4 * suc (suc (suc (suc k))) = omega arith in
      let w = walked image bound cycle4 m.number holds two_lines (suc (suc (suc (suc k)))) h4
      (rest.0, (rest.1.0, (rest.1.1.0, (rest.1.1.1.0, (rest.1.1.1.1.0, (rest.1.1.1.1.1.0, (rest.1.1.1.1.1.1.0, tt))))))) e4 front.live (tt, (tt, (tt, (tt, (tt, (tt, (tt, tt))))))) in
      let h11 = walk (told_of cycle4 m.number) two_lines h4 in
      let pc = w.pc in
      record {
        placed = record {
          hart = h11;
          runs = runs_join image cycle0 m.number n 10 m.hart h1 h11 front.runs (
            h2,
            private image cycle1 m.number k (Sub t0 blocks_register frames_register) h1 h2 holds l1 e1 front.live (λ s. (s.reserved, refl)),
            (
              h3,
              private image cycle2 m.number (suc k) (Addi t1 zero_register 160) h2 h3 holds l2 e2 front.live (λ s. (s.reserved, refl)),
              (
                h4,
                bgeu_taken image cycle3 m.number (suc (suc k)) 5 6 8 h3 holds l3 e3 front.live (le-leb (h3.registers t1) (h3.registers t0) (omega arith)) (omega arith),
                w.runs,
              ),
            ),
          );
          at = omega arith;
          live = w.live;
          word_is = ap two_word e ∙ is;
          local = refl;
          others = λ r a b c. rw (ne_eqb r 5 a, ne_eqb r 6 b, ne_eqb r 29 c);
        };
        one = ap (λ z. word_sum z 1) zero_is;
        share = share_is many;
      }

-- ---- a level is saved

-- a frame begins behind those below it
pub starts_in : (places : Places) (n : ℕ) → places.frames.of_file ≤ 56 → (64 * n ≤ frame_start places n) × (places.frames.of_file ≤ frame_start places n)
starts_in places zero few = (omega arith, omega arith)
starts_in places (suc n) few = (omega arith, omega arith)

-- words of a frame are written from a level's first word on: those below are kept, and values above
pub part_in_memory : (core : List CoreOp) (places : Places) (m m' : Memory) (a : ℕ) (p : Owner) (i i' low : ℕ) (vs : List ℕ) → places.frames.of_file ≤ 56 → length p.runner.has.callers < 256
    → p.runner.left.at ≡ i → Flows core places.frames nothing i i' → InMemory places m a p
    → frame_start places (length p.runner.has.callers) + 7 ≤ low
    → ((word : ℕ) → places.frames.keeps i' word ≡ true → frame_start places (length p.runner.has.callers) + 7 + word < low)
    → ((j : ℕ) → j < low → (j ≡ frames_word (length p.runner.has.callers) → ⊥) → m' j ≡ m j) → ((j : ℕ) → frame_end (length p.runner.has.callers) ≤ j → m' j ≡ m j)
    → HasValues (value_of m' (length p.runner.has.callers)) vs
    → InMemory places m' a (with_list core places i' vs p)
part_in_memory core places m m' a p i i' low vs few waiting at flows held start words below above values' =
    let n = length p.runner.has.callers in
    let running = subst (λ x. FrameInMemory places m n x p.runner.has.call) at held.running in
    let groups = subst (λ x. HaveGroupFrames places.frames m a (x ∷ p.runner.left.callers) (p.runner.has.call ∷ p.runner.has.callers)) at held.groups in
    let begins = starts_in places n few in
    record {
      running = record {
        home = flows.main ∙ running.home;
        values = values';
        privates = λ x e. below (frame_start places n + 7 + x) (words x e) (λ f. omega (arith, begins, f)) ∙ running.privates x (flows.kept x e refl);
      };
      waiting = waiting_kept places m m' p.runner.left.callers p.runner.has.callers few (λ j le lt. below j (omega arith) (λ f. omega arith)) held.waiting;
      groups = groups_on core places nothing m m' a i i' p.runner.has.call (with_list core places i' vs p).runner.has.call p.runner.left.callers p.runner.has.callers flows refl
          (λ k le. let g = group_at n in below (group_word k) (omega (arith, g, le, start)) (λ f. omega (arith, le, f))) groups;
      own = λ x lt. below (7 + x) (omega arith) (λ f. omega (arith, few, lt, f)) ∙ held.own x lt;
      heap = λ x lt. above (16384 + x) (omega arith) ∙ held.heap x lt;
      full = below 2 (omega arith) (λ f. omega arith) ∙ held.full;
    }
  where
    group_at : (n : ℕ) → group_word n < frame_start places n + 7
    group_at zero = omega arith
    group_at (suc n) = omega arith

-- who waits at an `||` has another value, and else nothing is written
pub memory_other : (by : SplitKind) (depth : ℕ) (h : Hart) (j : ℕ) → (taken_by by ≡ 1 → j ≡ value_word depth h → ⊥) → memory_by by depth h j ≡ h.local j
memory_other OrElse depth h j ne = other_word h.local (value_word depth h) (applied num.LtU (h.registers zero_register) (h.local (value_word depth h))) j (ne refl)
memory_other by depth h j ne = refl

-- four words from one on
abbrev pub with_level : Memory → (at size node blocks frames : ℕ) → Memory
with_level m at size node blocks frames = put (put (put (put m at size) (at + 1) node) (at + 2) blocks) (at + 3) frames

pub record IsWritten (m : Memory) (at size node blocks frames : ℕ) : Type 0 where
  pub one : with_level m at size node blocks frames at ≡ size
  pub two : with_level m at size node blocks frames (at + 1) ≡ node
  pub three : with_level m at size node blocks frames (at + 2) ≡ blocks
  pub four : with_level m at size node blocks frames (at + 3) ≡ frames
  pub below : (j : ℕ) → j < at → with_level m at size node blocks frames j ≡ m j
  pub above : (j : ℕ) → at + 4 ≤ j → with_level m at size node blocks frames j ≡ m j

pub is_written : (m : Memory) (at size node blocks frames : ℕ) → IsWritten m at size node blocks frames
is_written m at size node blocks frames =
    let m1 = put m at size in
    let m2 = put m1 (at + 1) node in
    let m3 = put m2 (at + 2) blocks in
    record {
      one =
          other_word m3 (at + 3) frames at (λ e. omega arith) ∙ other_word m2 (at + 2) blocks at (λ e. omega arith) ∙ other_word m1 (at + 1) node at (λ e. omega arith) ∙ same_word m at size;
      two = other_word m3 (at + 3) frames (at + 1) (λ e. omega arith) ∙ other_word m2 (at + 2) blocks (at + 1) (λ e. omega arith) ∙ same_word m1 (at + 1) node;
      three = other_word m3 (at + 3) frames (at + 2) (λ e. omega arith) ∙ same_word m2 (at + 2) blocks;
      four = same_word m3 (at + 3) frames;
      below = λ j lt.
          other_word m3 (at + 3) frames j (λ e. omega arith) ∙ other_word m2 (at + 2) blocks j (λ e. omega arith) ∙ other_word m1 (at + 1) node j (λ e. omega arith)
          ∙ other_word m at size j (λ e. omega arith);
      above = λ j le.
          other_word m3 (at + 3) frames j (λ e. omega arith) ∙ other_word m2 (at + 2) blocks j (λ e. omega arith) ∙ other_word m1 (at + 1) node j (λ e. omega arith)
          ∙ other_word m at size j (λ e. omega arith);
    }

-- ---- a member enters a part

-- registers that stay where a member enters a part
pub record HasKept (first h : Hart) : Type 0 where
  pub nought : h.registers 0 ≡ first.registers 0
  pub frame : h.registers 8 ≡ first.registers 8
  pub behind : h.registers 9 ≡ first.registers 9
  pub group : h.registers 14 ≡ first.registers 14
  pub top : h.registers 21 ≡ first.registers 21
  pub local : h.registers 22 ≡ first.registers 22
  pub shared_data : h.registers 23 ≡ first.registers 23
  pub private_heap : h.registers 24 ≡ first.registers 24
  pub shared_mask : h.registers 25 ≡ first.registers 25
  pub devices : h.registers 26 ≡ first.registers 26
  pub heap_mask : h.registers 27 ≡ first.registers 27

pub has_kept : (first h : Hart)
    → ((r : ℕ) → r ≢ 1 → r ≢ 5 → r ≢ 6 → r ≢ 7 → r ≢ 10 → r ≢ 12 → r ≢ 13 → r ≢ 18 → r ≢ 19 → r ≢ 20 → r ≢ 28 → r ≢ 29 → r ≢ 30 → r ≢ 31 → h.registers r ≡ first.registers r) → HasKept first h
has_kept first h others = record {
  nought = others 0 (λ e. omega arith) (λ e. omega arith) (λ e. omega arith) (λ e. omega arith) (λ e. omega arith) (λ e. omega arith) (λ e. omega arith) (λ e. omega arith) (λ e. omega arith) (λ e. omega arith) (λ e. omega arith) (λ e. omega arith) (λ e. omega arith) (λ e. omega arith);
  frame = others 8 (λ e. omega arith) (λ e. omega arith) (λ e. omega arith) (λ e. omega arith) (λ e. omega arith) (λ e. omega arith) (λ e. omega arith) (λ e. omega arith) (λ e. omega arith) (λ e. omega arith) (λ e. omega arith) (λ e. omega arith) (λ e. omega arith) (λ e. omega arith);
  behind = others 9 (λ e. omega arith) (λ e. omega arith) (λ e. omega arith) (λ e. omega arith) (λ e. omega arith) (λ e. omega arith) (λ e. omega arith) (λ e. omega arith) (λ e. omega arith) (λ e. omega arith) (λ e. omega arith) (λ e. omega arith) (λ e. omega arith) (λ e. omega arith);
  group = others 14 (λ e. omega arith) (λ e. omega arith) (λ e. omega arith) (λ e. omega arith) (λ e. omega arith) (λ e. omega arith) (λ e. omega arith) (λ e. omega arith) (λ e. omega arith) (λ e. omega arith) (λ e. omega arith) (λ e. omega arith) (λ e. omega arith) (λ e. omega arith);
  top = others 21 (λ e. omega arith) (λ e. omega arith) (λ e. omega arith) (λ e. omega arith) (λ e. omega arith) (λ e. omega arith) (λ e. omega arith) (λ e. omega arith) (λ e. omega arith) (λ e. omega arith) (λ e. omega arith) (λ e. omega arith) (λ e. omega arith) (λ e. omega arith);
  local = others 22 (λ e. omega arith) (λ e. omega arith) (λ e. omega arith) (λ e. omega arith) (λ e. omega arith) (λ e. omega arith) (λ e. omega arith) (λ e. omega arith) (λ e. omega arith) (λ e. omega arith) (λ e. omega arith) (λ e. omega arith) (λ e. omega arith) (λ e. omega arith);
  shared_data = others 23 (λ e. omega arith) (λ e. omega arith) (λ e. omega arith) (λ e. omega arith) (λ e. omega arith) (λ e. omega arith) (λ e. omega arith) (λ e. omega arith) (λ e. omega arith) (λ e. omega arith) (λ e. omega arith) (λ e. omega arith) (λ e. omega arith) (λ e. omega arith);
  private_heap = others 24 (λ e. omega arith) (λ e. omega arith) (λ e. omega arith) (λ e. omega arith) (λ e. omega arith) (λ e. omega arith) (λ e. omega arith) (λ e. omega arith) (λ e. omega arith) (λ e. omega arith) (λ e. omega arith) (λ e. omega arith) (λ e. omega arith) (λ e. omega arith);
  shared_mask = others 25 (λ e. omega arith) (λ e. omega arith) (λ e. omega arith) (λ e. omega arith) (λ e. omega arith) (λ e. omega arith) (λ e. omega arith) (λ e. omega arith) (λ e. omega arith) (λ e. omega arith) (λ e. omega arith) (λ e. omega arith) (λ e. omega arith) (λ e. omega arith);
  devices = others 26 (λ e. omega arith) (λ e. omega arith) (λ e. omega arith) (λ e. omega arith) (λ e. omega arith) (λ e. omega arith) (λ e. omega arith) (λ e. omega arith) (λ e. omega arith) (λ e. omega arith) (λ e. omega arith) (λ e. omega arith) (λ e. omega arith) (λ e. omega arith);
  heap_mask = others 27 (λ e. omega arith) (λ e. omega arith) (λ e. omega arith) (λ e. omega arith) (λ e. omega arith) (λ e. omega arith) (λ e. omega arith) (λ e. omega arith) (λ e. omega arith) (λ e. omega arith) (λ e. omega arith) (λ e. omega arith) (λ e. omega arith) (λ e. omega arith);
}

module _ (core : List CoreOp) (image : Image) (bound : ℕ → ℕ) (places : Places) (nestings : Nestings) (i : ℕ) (op : CoreOp) (by : SplitKind)
    (place : IsInPlace core image bound places nestings i op (Split by)) (setting : Setting) (cycle0 : MachineSetting) (first : ℕ) (m : Member) (p : Owner)
    (en : Enters core image places setting cycle0 i op (Split by) p m.hart) (member : IsMember places nestings setting None first m p) (inside : IsInGroup p)
    (j : ℕ) (flows : Flows core places.frames nothing i j) (opens : LevelOpens nestings i j) (room : HasLevelRoom places.frames nestings j (op.depth - taken_by by)) where
  abbrev waiting : ℕ
  waiting = length p.runner.has.callers

  abbrev callers : List ℕ
  callers = p.runner.left.callers

  -- the first word of the level that it saves
  abbrev pub saved_word : ℕ
  saved_word = frame_start places waiting + 7 + nestings.behind i + 4 * nestings.levels i

  abbrev left_values : List ℕ
  left_values = before (taken_by by) (values p.runner.has)

  -- its processor in the part
  abbrev pub entered : Level → Owner
  entered level = record {
    runner = record { left = position j callers; has = enter_level level (drop_last (taken_by by) p.runner.has) };
    heap = p.heap;
  }

  -- where an implicit split has saved the level, the hart has what the part is
  pub record HasSavedHere (level : Level) (h : Hart) : Type 0 where
    pub live : h.ended ≡ false
    pub at : h.pc ≡ 4 * places.block j
    pub local : h.local
        ≡ with_level (memory_by by op.depth m.hart) saved_word (m.hart.registers size_register) (m.hart.registers node_register) (m.hart.registers blocks_register) (m.hart.registers frames_register)
    pub node : h.registers node_register ≡ control_address level.space.low
    pub size : h.registers size_register ≡ level.size
    pub frames : h.registers frames_register ≡ control_address level.space.frames
    pub blocks : h.registers blocks_register ≡ control_address level.space.blocks
    pub number : level.number ≡ p.runner.has.level.number
    pub rank : level.rank ≡ p.runner.has.level.rank
    pub others : (r : ℕ) → r ≢ 1 → r ≢ 5 → r ≢ 6 → r ≢ 7 → r ≢ 10 → r ≢ 12 → r ≢ 13 → r ≢ 20 → r ≢ 28 → r ≢ 29 → h.registers r ≡ m.hart.registers r

  -- the hart has saved the level, and has what the part is
  pub record HasEntered (level : Level) (h : Hart) : Type 0 where
    pub live : h.ended ≡ false
    pub at : h.pc ≡ 4 * places.block j
    pub low : (x : ℕ) → x < saved_word → (x ≡ frames_word waiting → ⊥) → h.local x ≡ m.hart.local x
    pub head : 0 < nestings.levels i → h.local (frames_word waiting) ≡ m.hart.local (frames_word waiting)
    pub high : (x : ℕ) → frame_end waiting - (op.depth - taken_by by) ≤ x → h.local x ≡ m.hart.local x
    pub saved : HasLevelBy (nestings.forks j (nestings.levels i)) h.local (frames_word waiting) saved_word (nestings.levels i) p.runner.has.level p.runner.has.outer
    pub node : h.registers node_register ≡ control_address level.space.low
    pub size : h.registers size_register ≡ level.size
    pub frames : h.registers frames_register ≡ control_address level.space.frames
    pub blocks : h.registers blocks_register ≡ control_address level.space.blocks
    pub number : h.registers number_register ≡ level.number
    pub rank : h.registers rank_register ≡ level.rank
    pub kept : HasKept m.hart h

  pub enters_part : (level : Level) (h : Hart) → HasEntered level h
      → IsMember places nestings setting None (first_word level (p.runner.has.level ∷ p.runner.has.outer)) (record m { hart = h }) (entered level)
  enters_part level h e =
      let stands = en.at.stands in
      let calls = en.ready.in_range.waiting in
      let depth = en.ready.depth in
      let few = place.few in
      let header = place.fits.room.header in
      let n = waiting in
      let vs = left_values in
      let m' = h.local in
      let home : places.frames.is_main j ≡ (n == 0) = flows.main ∙ ap places.frames.is_main (sym en.index) ∙ stands.running.home in
      let below : below_values places nestings n j (op.depth - taken_by by) = lies_below places nestings n j (op.depth - taken_by by) home room in
      let levels = opens.levels in
      let from = opens.behind in
      let here = ap places.frames.is_main (sym en.index) ∙ stands.running.home in
      let below_here : below_values places nestings n i op.depth = lies_below places nestings n i op.depth here place.levels in
      let taken : length vs ≡ length (values p.runner.has) - taken_by by = length_before (taken_by by) (values p.runner.has) in
      let filled = place.values in
      let held : HasValues (value_of m' n) vs =
      values_kept m.hart.local m' n vs (λ x le lt. e.high x (omega arith)) (values_before (taken_by by) (value_of m.hart.local n) (values p.runner.has) stands.running.values) in
      let listed = with_list core places j vs p in
      let starts = starts_in places n few in
      let memory : InMemory places m' (m.hart.registers group_frame_register) listed =
      part_in_memory core places m.hart.local m' (m.hart.registers group_frame_register) p i j saved_word vs few calls en.index flows (in_memory places p m.hart stands) (omega arith)
      (λ word keeps. let apart = room.apart (omega arith) word keeps in omega arith)
      e.low (λ x le. e.high x (omega arith)) held in
      let many = many_callers places nestings m.hart.local callers p.runner.has.callers stands.waiting in
      let outer = subst (λ a. HasOuter places nestings setting.processors (number_of p) m.hart.local (a ∷ callers) p.runner.has.outer) en.index member.node.outer.0 in
      let k = length callers in
      let same_start = ap (frame_start places) many in
      let at_word : saved_at places nestings k i + 4 * nestings.levels i ≡ saved_word = omega arith in
      let header = ap frames_word many in
      let kept_levels : HasSaved m' (nestings.forks i) (frames_word k) (saved_at places nestings k i) (nestings.levels i) p.runner.has.outer =
      kept_by (nestings.levels i) (λ n lt. subst (λ c. m' (frames_word c) ≡ m.hart.local (frames_word c)) (sym many) (e.head (omega arith)))
      (λ x le lt. e.low x (omega arith) (λ f. omega arith)) outer.1 in
      let saved : HasLevelBy (nestings.forks j (nestings.levels i)) m' (frames_word k) (saved_at places nestings k i + 4 * nestings.levels i) (nestings.levels i) p.runner.has.level p.runner.has.outer =
      subst (λ w. HasLevelBy (nestings.forks j (nestings.levels i)) m' (frames_word k) w (nestings.levels i) p.runner.has.level p.runner.has.outer) (sym at_word)
      (subst (λ c. HasLevelBy (nestings.forks j (nestings.levels i)) m' (frames_word c) saved_word (nestings.levels i) p.runner.has.level p.runner.has.outer) (sym many) e.saved) in
      let all : HasSaved m' (nestings.forks j) (frames_word k) (saved_at places nestings k i) (suc (nestings.levels i)) (p.runner.has.level ∷ p.runner.has.outer) =
      (saved, saved_by m' (nestings.forks i) (nestings.forks j) (frames_word k) (saved_at places nestings k i) (nestings.levels i) p.runner.has.outer opens.forks kept_levels) in
      let rest : HasOuter places nestings setting.processors (number_of p) m' callers (past_levels (nestings.levels i) p.runner.has.outer) =
      outer_kept places nestings setting.processors (number_of p) m.hart.local m' callers (past_levels (nestings.levels i) p.runner.has.outer) few
      (λ lt. e.low 4 (omega arith) (λ f. omega arith)) (λ x le lt. e.low x (omega arith) (λ f. omega arith)) outer.2 in
      record {
        number = member.number;
        at = record {
          live = e.live;
          at = e.at;
          stands = record {
            nought = e.kept.nought ∙ stands.nought;
            frame = e.kept.frame ∙ stands.frame;
            behind = e.kept.behind ∙ stands.behind;
            number = e.number;
            rank = e.rank;
            size = e.size;
            top = e.kept.top ∙ stands.top;
            local = e.kept.local ∙ stands.local;
            shared_data = e.kept.shared_data ∙ stands.shared_data;
            private_heap = e.kept.private_heap ∙ stands.private_heap;
            shared_mask = e.kept.shared_mask ∙ stands.shared_mask;
            devices = e.kept.devices ∙ stands.devices;
            heap_mask = e.kept.heap_mask ∙ stands.heap_mask;
            running = memory.running;
            waiting = memory.waiting;
            groups =
                subst (λ a. HaveGroupFrames places.frames m' a (j ∷ callers) (listed.runner.has.call ∷ p.runner.has.callers)) (sym e.kept.group)
                memory.groups;
            own = memory.own;
            heap = memory.heap;
            full = memory.full;
          };
        };
        node = record {
          node = e.node;
          body = tt;
          space = (e.frames, e.blocks);
          outer = (
            (
              omega arith,
              subst (λ c. HasSaved m' (nestings.forks j) (frames_word k) (saved_at places nestings k j) c (p.runner.has.level ∷ p.runner.has.outer)) (sym levels)
                  (subst (λ b. HasSaved m' (nestings.forks j) (frames_word k) (frame_start places k + 7 + b) (suc (nestings.levels i)) (p.runner.has.level ∷ p.runner.has.outer)) (sym from) all),
              subst (λ c. HasOuter places nestings setting.processors (number_of p) m' callers (past_levels c (p.runner.has.level ∷ p.runner.has.outer))) (sym levels) rest,
            ),
            member.node.outer.1,
          );
        };
        words = refl;
      }
    where
      -- without a level nothing is saved
      kept_by : (count : ℕ) → ((n : ℕ) → n < count → h.local (frames_word (length callers)) ≡ m.hart.local (frames_word (length callers)))
          → ((x : ℕ) → saved_at places nestings (length callers) i ≤ x → x < saved_at places nestings (length callers) i + 4 * count → h.local x ≡ m.hart.local x)
          → HasSaved m.hart.local (nestings.forks i) (frames_word (length callers)) (saved_at places nestings (length callers) i) count p.runner.has.outer
          → HasSaved h.local (nestings.forks i) (frames_word (length callers)) (saved_at places nestings (length callers) i) count p.runner.has.outer
      kept_by zero head same held = tt
      kept_by (suc n) head same held =
          saved_kept m.hart.local h.local (nestings.forks i) (frames_word (length callers)) (saved_at places nestings (length callers) i) (suc n) p.runner.has.outer (head 0 (omega arith)) same held

  -- who is in a part of an implicit split
  pub has_entered_by : nestings.forks j (nestings.levels i) ≡ None → (level : Level) (h : Hart) → HasSavedHere level h → HasEntered level h
  has_entered_by plain level h e =
      let stands = en.at.stands in
      let header = place.fits.room.header in
      let depth = en.ready.depth in
      let filled = place.values in
      let n = waiting in
      let written = is_written (memory_by by op.depth m.hart) saved_word (m.hart.registers size_register) (m.hart.registers node_register) (m.hart.registers blocks_register) (m.hart.registers frames_register) in
      let here = ap places.frames.is_main (sym en.index) ∙ stands.running.home in
      let below_here : below_values places nestings n i op.depth = lies_below places nestings n i op.depth here place.levels in
      let home : places.frames.is_main j ≡ (n == 0) = flows.main ∙ ap places.frames.is_main (sym en.index) ∙ stands.running.home in
      let below : below_values places nestings n j (op.depth - taken_by by) = lies_below places nestings n j (op.depth - taken_by by) home room in
      let levels = opens.levels in
      let from = opens.behind in
      let begins = starts_in places n place.few in
      let known = subst (λ o. KnowsSpace p.runner.has.level o m.hart) inside.outer member.node.space in
      let low : (x : ℕ) → x < saved_word → h.local x ≡ m.hart.local x =
      λ x lt. ap (λ l. l x) e.local ∙ written.below x lt ∙ memory_other by op.depth m.hart x (λ one f. value_apart x one (inl (omega arith)) f) in
      record {
        live = e.live;
        at = e.at;
        low = λ x lt ne. low x lt;
        head = λ some. low (frames_word n) (omega arith);
        high = λ x le. ap (λ l. l x) e.local ∙ written.above x (omega arith) ∙ memory_other by op.depth m.hart x (λ one f. value_apart x one (inr (let same : op.depth - taken_by by ≡ op.depth - 1 = omega arith in omega arith)) f);
        saved = subst (λ f. HasLevelBy f h.local (frames_word n) saved_word (nestings.levels i) p.runner.has.level p.runner.has.outer) (sym plain)
            (record {
              size = ap (λ l. l saved_word) e.local ∙ written.one ∙ stands.size;
              node = ap (λ l. l (saved_word + 1)) e.local ∙ written.two ∙ member.node.node;
              blocks = ap (λ l. l (saved_word + 2)) e.local ∙ written.three ∙ known.1;
              frames = ap (λ l. l (saved_word + 3)) e.local ∙ written.four ∙ known.0;
            });
        node = e.node;
        size = e.size;
        frames = e.frames;
        blocks = e.blocks;
        number = e.others 18 (λ z. omega arith) (λ z. omega arith) (λ z. omega arith) (λ z. omega arith) (λ z. omega arith) (λ z. omega arith) (λ z. omega arith) (λ z. omega arith) (λ z. omega arith) (λ z. omega arith) ∙ stands.number ∙ sym e.number;
        rank = e.others 19 (λ z. omega arith) (λ z. omega arith) (λ z. omega arith) (λ z. omega arith) (λ z. omega arith) (λ z. omega arith) (λ z. omega arith) (λ z. omega arith) (λ z. omega arith) (λ z. omega arith) ∙ stands.rank ∙ sym e.rank;
        kept = has_kept m.hart h (λ r a b c d f g k l x y z u v w. e.others r a b c d f g k y z u);
      }
    where
      -- the value that is taken is above the words below the level, and below the other values
      value_apart : (x : ℕ) → taken_by by ≡ 1 → (x < frame_end waiting - op.depth) ⊎ (frame_end waiting - (op.depth - 1) ≤ x) → x ≡ value_word op.depth m.hart → ⊥
      value_apart x one (inl lt) f =
          let filled = place.values in
          let header = place.fits.room.header in
          let v = is_value core image bound places nestings i op (Split by) place setting cycle0 p m.hart m.hart (omega arith) en refl in
          let index = v.index in
          omega arith
      value_apart x one (inr le) f =
          let filled = place.values in
          let header = place.fits.room.header in
          let v = is_value core image bound places nestings i op (Split by) place setting cycle0 p m.hart m.hart (omega arith) en refl in
          let index = v.index in
          omega arith

-- ---- the lines that save a level

abbrev pub saving : (at : ℕ) → Quiets
saving s =
    (Sw t2 size_register 0, LocalAt s) ∷ (Sw t2 node_register 4, LocalAt (s + 1)) ∷ (Sw t2 blocks_register 8, LocalAt (s + 2)) ∷ (Sw t2 frames_register 12, LocalAt (s + 3)) ∷
    (Addi node_register t1 0, Plain) ∷ (Addi size_register t0 0, Plain) ∷ (Addi frames_register t1 32, Plain) ∷ []

-- what a member has behind its commit
pub record IsBehind (first h : Hart) (memory : Memory) (saved word size : ℕ) : Type 0 where
  pub live : h.ended ≡ false
  pub slot : h.registers t2 ≡ local_address saved
  pub inside : saved + 4 ≤ 32768
  pub word_is : h.registers t1 ≡ control_address word
  pub within : word + 8 ≤ 2 ^ 20
  pub size_is : h.registers t0 ≡ size
  pub small : size < 2 ^ 32
  pub local : h.local ≡ memory
  pub others : (r : ℕ) → r ≢ 1 → r ≢ 5 → r ≢ 6 → r ≢ 7 → r ≢ 28 → r ≢ 29 → h.registers r ≡ first.registers r

can_save : (told : Told) (first h : Hart) (memory : Memory) (s word size : ℕ) → IsBehind first h memory s word size → CanWalk told (saving s) h
can_save told first h memory s word size b =
    let slot = b.slot in
    let inside = b.inside in
    ((omega arith, omega arith), ((omega arith, omega arith), ((omega arith, omega arith), ((omega arith, omega arith), (tt, (tt, (tt, tt)))))))

-- the hart behind these lines
pub record HasSavedLevel (first h : Hart) (memory : Memory) (saved word size : ℕ) : Type 0 where
  pub local : h.local ≡ with_level memory saved (first.registers size_register) (first.registers node_register) (first.registers blocks_register) (first.registers frames_register)
  pub node : h.registers node_register ≡ control_address word
  pub size_is : h.registers size_register ≡ size
  pub frames : h.registers frames_register ≡ control_address (word + 8)
  pub blocks : h.registers blocks_register ≡ first.registers blocks_register
  pub others : (r : ℕ) → r ≢ 1 → r ≢ 5 → r ≢ 6 → r ≢ 7 → r ≢ 10 → r ≢ 12 → r ≢ 20 → r ≢ 28 → r ≢ 29 → h.registers r ≡ first.registers r

pub saves : (told : Told) (first h : Hart) (memory : Memory) (s word size : ℕ) → IsBehind first h memory s word size
    → HasSavedLevel first (walk told (saving s) h) memory s word size
saves told first h memory s word size b =
    let word_is = b.word_is in
    let size_is = b.size_is in
    let within = b.within in
    let small = b.small in
    let size20 = b.others 20 (λ e. omega arith) (λ e. omega arith) (λ e. omega arith) (λ e. omega arith) (λ e. omega arith) (λ e. omega arith) in
    let node = b.others 10 (λ e. omega arith) (λ e. omega arith) (λ e. omega arith) (λ e. omega arith) (λ e. omega arith) (λ e. omega arith) in
    let blocks = b.others 13 (λ e. omega arith) (λ e. omega arith) (λ e. omega arith) (λ e. omega arith) (λ e. omega arith) (λ e. omega arith) in
    let frames = b.others 12 (λ e. omega arith) (λ e. omega arith) (λ e. omega arith) (λ e. omega arith) (λ e. omega arith) (λ e. omega arith) in
    record {
      local =
          ap (λ (l : Memory). with_level l s (h.registers size_register) (h.registers node_register) (h.registers blocks_register) (h.registers frames_register)) b.local
          ∙ ap (λ v. with_level memory s v (h.registers node_register) (h.registers blocks_register) (h.registers frames_register)) size20
          ∙ ap (λ v. with_level memory s (first.registers size_register) v (h.registers blocks_register) (h.registers frames_register)) node
          ∙ ap (λ v. with_level memory s (first.registers size_register) (first.registers node_register) v (h.registers frames_register)) blocks
          ∙ ap (with_level memory s (first.registers size_register) (first.registers node_register) (first.registers blocks_register)) frames;
      node = omega arith;
      size_is = omega arith;
      frames = omega arith;
      blocks = blocks;
      others = λ r a b' c d e f g i j. rw (ne_eqb r 12 f, ne_eqb r 20 g, ne_eqb r 10 e) (b.others r a b' c d i j);
    }

-- ---- the ways behind the commit

module _ (image : Image) (bound : ℕ → ℕ) (shared : HasParts image bound) where
  behind_one : LinesAt image bound (bound one_part_label + 7 + 5) (waiting_lines ++ (saving_lines ++ into_one_part))
  behind_one =
      let k = bound one_part_label in
      let a = lines_split image bound k one_part_place (counting_lines t3 ++ (waiting_lines ++ (saving_lines ++ into_one_part))) shared.one in
      (lines_split image bound (k + 7) (counting_lines t3) (waiting_lines ++ (saving_lines ++ into_one_part)) a.1).1

  behind_two : LinesAt image bound (bound two_parts_label + 11 + 5) (saving_lines ++ into_two_parts)
  behind_two =
      let k = bound two_parts_label in
      let a = lines_split image bound k two_parts_place (counting_lines t0 ++ (saving_lines ++ into_two_parts)) shared.two in
      (lines_split image bound (k + 11) (counting_lines t0) (saving_lines ++ into_two_parts) a.1).1

-- who waits goes to where those wait
module _ (image : Image) (bound : ℕ → ℕ) (places : Places) (shared : HasParts image bound) (t : MachineSetting) (number link target site : ℕ)
    (holds : Holds image t) (labels : HasLabels bound places) (back : LinesAt image bound link (goes_to (Jal zero_register 0) (label_of target) ∷ no_parts site))
    (h : Hart) (live : h.ended ≡ false) (linked : h.registers ra ≡ 4 * link) (zero_is : h.registers zero_register ≡ 0) where
  abbrev pub wait_hart : Hart
  wait_hart = jumps (jumps (goes_to_pc h (word_sum h.pc 4)) 0 (4 * link)) 0 (4 * bound (label_of target))

  pub wait_runs : h.pc ≡ 4 * (bound one_part_label + 7 + 5) → h.registers t3 ≡ 0 → RunsPrivately image t number 3 h wait_hart
  wait_runs pc flag =
      let cycle1 = later t in
      let cycle2 = later cycle1 in
      let k = bound one_part_label + 7 + 5 in
      let lines = behind_one image bound shared in
      let bne = lines.0 in
      let jalr = lines.1.0 in
      let near = jalr.within in
      let near' = back.0.within in
      let ha = goes_to_pc h (word_sum h.pc 4) in
      let hb = jumps ha 0 (4 * link) in
      let to : word_sum (h.registers ra) 0 / 2 * 2 ≡ 4 * link = omega arith in
      let aligned : 4 * link % 4 ≡ 0 = omega arith in (
        ha,
        bne_on image t number k 28 0 8 h holds bne pc live (eq-eqb (h.registers t3) (h.registers zero_register) (flag ∙ sym zero_is)),
        (
          hb,
          private image cycle1 number (suc k) (Jalr zero_register ra 0) ha hb holds jalr (omega arith) live (λ x. (x.reserved, jalr_goes cycle1 number 0 1 0 (4 * link) ha x to aligned)),
          (wait_hart, jal_private image bound cycle2 number link 0 (label_of target) hb holds back.0 (labels.within (label_of target)) refl live, refl),
        ),
      )

-- who enters a part
module _ (image : Image) (bound : ℕ → ℕ) (places : Places) (shared : HasParts image bound) (t : MachineSetting) (number link target next : ℕ) (site : ℕ)
    (holds : Holds image t) (labels : HasLabels bound places) (back : LinesAt image bound link (goes_to (Jal zero_register 0) (label_of target) ∷ no_parts site)) (here : next ≡ link + 4)
    (first h : Hart) (memory : Memory) (s word size : ℕ) (behind : IsBehind first h memory s word size) (linked : h.registers ra ≡ 4 * link)
    (zero_is : h.registers zero_register ≡ 0) where
  abbrev k1 : ℕ
  k1 = bound one_part_label

  abbrev k2 : ℕ
  k2 = bound two_parts_label

  -- who enters the one part
  abbrev pub one_hart : Hart
  one_hart = jumps (walk (told_of (later t) number) (saving s) (goes_to_pc h (word_sum h.pc 8))) 0 (4 * next)

  moved_behind : (h' : Hart) → h'.ended ≡ h.ended → h'.local ≡ h.local → ((r : ℕ) → h'.registers r ≡ h.registers r) → IsBehind first h' memory s word size
  moved_behind h' live local same = record {
    live = live ∙ behind.live;
    slot = same 7 ∙ behind.slot;
    inside = behind.inside;
    word_is = same 6 ∙ behind.word_is;
    within = behind.within;
    size_is = same 5 ∙ behind.size_is;
    small = behind.small;
    local = local ∙ behind.local;
    others = λ r a b c d e f. same r ∙ behind.others r a b c d e f;
  }

  pub one_runs : h.pc ≡ 4 * (k1 + 7 + 5) → h.registers t3 ≡ 1 → RunsPrivately image t number 9 h one_hart
  one_runs pc flag =
      let k = k1 + 7 + 5 in
      let cycle1 = later t in
      let lines = behind_one image bound shared in
      let bne = lines.0 in
      let rest = lines_split image bound (suc (suc k)) saving_lines into_one_part lines.1.1 in
      let jalr = rest.1.0 in
      let near = jalr.within in
      let near' = back.0.within in
      let ha = goes_to_pc h (word_sum h.pc 8) in
      let b = moved_behind ha refl refl (λ r. refl) in
      let w = walked image bound cycle1 number holds (saving s) (suc (suc k)) ha rest.0 (omega arith) b.live (can_save (told_of cycle1 number) first ha memory s word size b) in
      let hb = walk (told_of cycle1 number) (saving s) ha in
      let there = w.pc in
      let linked' : hb.registers ra ≡ 4 * link = linked in
      let to : word_sum (hb.registers ra) 16 / 2 * 2 ≡ 4 * next = omega arith in
      let aligned : 4 * next % 4 ≡ 0 = omega arith in
      let differ : (h.registers t3 == h.registers zero_register) ≡ false = ne_eqb (h.registers t3) (h.registers zero_register) (λ f. omega (arith, f, flag, zero_is)) in (
        ha,
        bne_taken image t number k 28 0 8 h holds bne pc behind.live differ (omega arith),
        runs_join image cycle1 number 7 1 ha hb one_hart w.runs (
          one_hart,
          private image (in_cycles 7 cycle1) number (suc (suc k) + 7) (Jalr zero_register ra 16) hb one_hart holds jalr there w.live
              (λ x. (x.reserved, jalr_goes (in_cycles 7 cycle1) number 0 1 16 (4 * next) hb x to aligned)),
          refl,
        ),
      )

  pub one_has : HasSavedLevel first one_hart memory s word size
  one_has =
      let ha = goes_to_pc h (word_sum h.pc 8) in
      let e = saves (told_of (later t) number) first ha memory s word size (moved_behind ha refl refl (λ r. refl)) in
      record { local = e.local; node = e.node; size_is = e.size_is; frames = e.frames; blocks = e.blocks; others = e.others }

  -- who enters the first of two parts, or the second
  abbrev pub both_hart : Hart
  both_hart =
      let hb = walk (told_of t number) (saving s) h in
      writes hb blocks_register (word_sum (hb.registers t1) (hb.registers t4))

  abbrev pub first_hart : Hart
  first_hart = jumps (goes_to_pc both_hart (word_sum both_hart.pc 4)) 0 (4 * next)

  abbrev pub second_hart : Hart
  second_hart = jumps (jumps (goes_to_pc both_hart (word_sum both_hart.pc 8)) 0 (4 * link)) 0 (4 * bound (label_of target))

  both_runs : h.pc ≡ 4 * (k2 + 11 + 5) → RunsPrivately image t number 8 h both_hart × (both_hart.pc ≡ 4 * (k2 + 11 + 5 + 8)) × (both_hart.ended ≡ false)
  both_runs pc =
      let k = k2 + 11 + 5 in
      let rest = lines_split image bound k saving_lines into_two_parts (behind_two image bound shared) in
      let add = rest.1.0 in
      let near = add.within in
      let w = walked image bound t number holds (saving s) k h rest.0 pc behind.live (can_save (told_of t number) first h memory s word size behind) in
      let hb = walk (told_of t number) (saving s) h in
      let there = w.pc in (
        runs_join image t number 7 1 h hb both_hart w.runs (
          both_hart,
          private image (in_cycles 7 t) number (k + 7) (Add blocks_register t1 t4) hb both_hart holds add there w.live (λ x. (x.reserved, refl)),
          refl,
        ),
        omega arith,
        w.live,
      )

  pub first_runs : h.pc ≡ 4 * (k2 + 11 + 5) → h.registers t3 ≡ 0 → RunsPrivately image t number 10 h first_hart
  first_runs pc flag =
      let k = k2 + 11 + 5 in
      let cycle8 = in_cycles 8 t in
      let rest = lines_split image bound k saving_lines into_two_parts (behind_two image bound shared) in
      let bne = rest.1.1.0 in
      let jalr = rest.1.1.1.0 in
      let near = jalr.within in
      let near' = back.0.within in
      let b = both_runs pc in
      let there = b.1 in
      let hc = goes_to_pc both_hart (word_sum both_hart.pc 4) in
      let to : word_sum (h.registers ra) 16 / 2 * 2 ≡ 4 * next = omega arith in
      let aligned : 4 * next % 4 ≡ 0 = omega arith in
      runs_join image t number 8 2 h both_hart first_hart b.0 (
        hc,
        bne_on image cycle8 number (suc (k + 7)) 28 0 8 both_hart (holds_in_cycles image 8 t holds) bne (omega arith) b.2 (eq-eqb (h.registers t3) (h.registers zero_register) (flag ∙ sym zero_is)),
        (
          first_hart,
          private image (later cycle8) number (suc (suc (k + 7))) (Jalr zero_register ra 16) hc first_hart (holds_in_cycles image 9 t holds) jalr (omega arith) b.2
              (λ x. (x.reserved, jalr_goes (later cycle8) number 0 1 16 (4 * next) hc x to aligned)),
          refl,
        ),
      )

  pub second_runs : h.pc ≡ 4 * (k2 + 11 + 5) → h.registers t3 ≡ 1 → RunsPrivately image t number 11 h second_hart
  second_runs pc flag =
      let k = k2 + 11 + 5 in
      let cycle8 = in_cycles 8 t in
      let rest = lines_split image bound k saving_lines into_two_parts (behind_two image bound shared) in
      let bne = rest.1.1.0 in
      let jalr = rest.1.1.1.1.0 in
      let near = jalr.within in
      let near' = back.0.within in
      let b = both_runs pc in
      let there = b.1 in
      let hc = goes_to_pc both_hart (word_sum both_hart.pc 8) in
      let hd = jumps hc 0 (4 * link) in
      let to : word_sum (h.registers ra) 0 / 2 * 2 ≡ 4 * link = omega arith in
      let aligned : 4 * link % 4 ≡ 0 = omega arith in
      let differ : (h.registers t3 == h.registers zero_register) ≡ false = ne_eqb (h.registers t3) (h.registers zero_register) (λ f. omega (arith, f, flag, zero_is)) in
      runs_join image t number 8 3 h both_hart second_hart b.0 (
        hc,
        bne_taken image cycle8 number (suc (k + 7)) 28 0 8 both_hart (holds_in_cycles image 8 t holds) bne (omega arith) b.2 differ (omega arith),
        (
          hd,
          private image (later cycle8) number (suc (suc (suc (k + 7)))) (Jalr zero_register ra 0) hc hd (holds_in_cycles image 9 t holds) jalr (omega arith) b.2
              (λ x. (x.reserved, jalr_goes (later cycle8) number 0 1 0 (4 * link) hc x to aligned)),
          (second_hart, jal_private image bound (later (later cycle8)) number link 0 (label_of target) hd (holds_in_cycles image 10 t holds) back.0 (labels.within (label_of target)) refl b.2, refl),
        ),
      )

  -- what both have of the level and of their part, but where its blocks begin
  pub both_has : HasSavedLevel first (walk (told_of t number) (saving s) h) memory s word size
  both_has = saves (told_of t number) first h memory s word size behind
