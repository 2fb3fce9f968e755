-- How members go on after they have divided by a `fork`.
use Rattle.std.proofs.Common.{◌≡◌, ◌≢◌, ℕ, zero, suc, ◌+◌, ◌*◌, ◌/◌, ◌%◌, ◌^◌, ◌<◌, ◌≤◌, List, [], ◌∷◌, ◌++◌, length, false, sym, ap, subst, ◌∙◌, arith, refl, eq-eqb}
use Rattle.std.specs.Prelude.{◌==◌, if◌then◌else◌}
use Rattle.std.proofs.lemmas.Bool.{ne_eqb}
use Rattle.fk_num.specs.Word.{Memory, word_sum}
use Rattle.fk_num.specs.Op.{applied}
use Rattle.fk_num.specs.declared.operator.Op.TheVariants as num
use Rattle.fk_image.specs.declared.Image.{Image}
use Rattle.fk_isa.specs.declared.instruction.Instruction.TheVariants.{Jal, Jalr, Addi, Add, Slli, Sw}
use Rattle.fk_machine.specs.Hart.{Hart, Setting as MachineSetting}
use Rattle.fk_sim_nodes.specs.Alone.{Holds, RunsPrivately, later, in_cycles}
use Rattle.fk_sim_block.specs.Stands.{Places, local_address, zero_register, end_register, number_register, rank_register, size_register}
use Rattle.fk_sim_block.specs.Node.{control_address, node_register, frames_register, blocks_register}
use Rattle.fk_gen.specs.Registers.{ra, t0, t1, t2, t3, t4, t5, t6}
use Rattle.fk_asm.specs.Block.{MarkedLine}
use Rattle.fk_gen.specs.Lines.{quiet, goes_to, at_value, label_of}
use Rattle.fk_gen.specs.InPlace.{LinesAt, HasLabels}
use Rattle.fk_gen.proofs.Walk.{Quiets, Plain, LocalAt, CanWalk, Told, walk, told_of, walked, lines_split, private, runs_join}
use Rattle.fk_gen.proofs.Jumps.{jumps, goes_to_pc, jalr_goes, jal_private, bne_taken, bne_on}
use Rattle.fk_gen_group.specs.Splits.{HasParts, fork_label, fork_room, fork_place, counting_lines, waiting_lines, fork_saving, into_one_part, no_parts, heading_by}
use Rattle.fk_gen_group.proofs.Last.{value_word}
use Rattle.fk_gen_group.proofs.Parting.{with_level}

-- ---- the lines behind the commit

abbrev pub saving : (at : ℕ) → Quiets
saving s =
    (Slli t3 number_register 11, Plain) ∷ (Add t3 t3 size_register, Plain) ∷ (Sw t2 t3 0, LocalAt s) ∷ (Sw t2 node_register 4, LocalAt (s + 1)) ∷ (Sw t2 blocks_register 8, LocalAt (s + 2)) ∷
    (Sw t2 rank_register 12, LocalAt (s + 3)) ∷ (Addi node_register t1 0, Plain) ∷ (Addi size_register t0 0, Plain) ∷ (Addi t3 frames_register 0, Plain) ∷ (Addi frames_register t1 32, Plain) ∷
    (Add blocks_register t1 t6, Plain) ∷ (Addi number_register t4 0, Plain) ∷ (Addi rank_register t5 0, Plain) ∷ []

module _ (image : Image) (bound : ℕ → ℕ) (shared : HasParts image bound) where
  behind_fork : LinesAt image bound (bound fork_label + 24) (waiting_lines ++ (fork_saving ++ into_one_part))
  behind_fork =
      let k = bound fork_label in
      let rest = waiting_lines ++ (fork_saving ++ into_one_part) in
      let a = lines_split image bound k fork_room (fork_place ++ (counting_lines t3 ++ rest)) shared.fork in
      let b = lines_split image bound (k + 9) fork_place (counting_lines t3 ++ rest) a.1 in
      let c = lines_split image bound (k + 9 + 10) (counting_lines t3) rest b.1 in
      subst (λ j. LinesAt image bound j rest) there c.1
    where
      there : bound fork_label + 9 + 10 + 5 ≡ bound fork_label + 24
      there = omega arith

-- what a member has that is to go on
pub record IsBehind (first h : Hart) (saved word size share index rank : ℕ) : Type 0 where
  pub live : h.ended ≡ false
  pub slot : h.registers t2 ≡ local_address saved
  pub inside : saved + 4 ≤ 32768
  pub word_is : h.registers t1 ≡ control_address word
  pub within : word + share ≤ 2 ^ 20
  pub some : 8 ≤ share
  pub size_is : h.registers t0 ≡ size
  pub small : size < 2 ^ 32
  pub share_is : h.registers t6 ≡ 4 * share
  pub part : h.registers t4 ≡ index
  pub few : index < 2 ^ 32
  pub rank_is : h.registers t5 ≡ rank
  pub word_rank : rank < 2 ^ 32
  pub ends : ℕ
  pub frames_is : first.registers frames_register ≡ control_address ends
  pub ends_in : ends ≤ 2 ^ 20
  pub local : h.local ≡ first.local
  pub others : (r : ℕ) → r ≢ 1 → r ≢ 5 → r ≢ 6 → r ≢ 7 → r ≢ 28 → r ≢ 29 → r ≢ 30 → r ≢ 31 → h.registers r ≡ first.registers r

-- `@` beside the size
abbrev pub size_word : Hart → ℕ
size_word first = word_sum (applied num.Shl (first.registers number_register) 11) (first.registers size_register)

-- what the lines that save leave
pub record HasSavedFork (first h : Hart) (saved word size share index rank : ℕ) : Type 0 where
  pub live : h.ended ≡ false
  pub local : h.local
      ≡ with_level first.local saved (size_word first) (first.registers node_register) (first.registers blocks_register) (first.registers rank_register)
  pub node : h.registers node_register ≡ control_address word
  pub size_is : h.registers size_register ≡ size
  pub frames : h.registers frames_register ≡ control_address (word + 8)
  pub blocks : h.registers blocks_register ≡ control_address (word + share)
  pub number : h.registers number_register ≡ index
  pub rank_is : h.registers rank_register ≡ rank
  pub heading : h.registers t3 ≡ first.registers frames_register
  pub others : (r : ℕ) → r ≢ 1 → r ≢ 5 → r ≢ 6 → r ≢ 7 → r ≢ 10 → r ≢ 12 → r ≢ 13 → r ≢ 18 → r ≢ 19 → r ≢ 20 → r ≢ 28 → r ≢ 29 → r ≢ 30 → r ≢ 31 → h.registers r ≡ first.registers r

can_save : (told : Told) (first h : Hart) (s word size share index rank : ℕ) → IsBehind first h s word size share index rank → CanWalk told (saving s) h
can_save told first h s word size share index rank b =
    let slot = b.slot in
    let inside = b.inside in
    (tt, (tt, ((omega arith, omega arith), ((omega arith, omega arith), ((omega arith, omega arith), ((omega arith, omega arith), (tt, (tt, (tt, (tt, (tt, (tt, (tt, tt)))))))))))))

saves : (told : Told) (first h : Hart) (s word size share index rank : ℕ) → IsBehind first h s word size share index rank
    → HasSavedFork first (walk told (saving s) h) s word size share index rank
saves told first h s word size share index rank b =
    let word_is = b.word_is in
    let size_is = b.size_is in
    let within = b.within in
    let some = b.some in
    let small = b.small in
    let share_is = b.share_is in
    let part = b.part in
    let few = b.few in
    let rank_is = b.rank_is in
    let word_rank = b.word_rank in
    let ends = b.frames_is in
    let ends_in = b.ends_in in
    let number18 = stays 18 (omega arith) (omega arith) in
    let rank19 = stays 19 (omega arith) (omega arith) in
    let size20 = stays 20 (omega arith) (omega arith) in
    let node = stays 10 (omega arith) (omega arith) in
    let blocks = stays 13 (omega arith) (omega arith) in
    let frames = stays 12 (omega arith) (omega arith) in
    record {
      live = b.live;
      local =
          ap (λ (l : Memory). with_level l s (word_sum (applied num.Shl (h.registers number_register) 11) (h.registers size_register)) (h.registers node_register) (h.registers blocks_register) (h.registers rank_register)) b.local
          ∙ ap (λ v. with_level first.local s (word_sum (applied num.Shl v 11) (h.registers size_register)) (h.registers node_register) (h.registers blocks_register) (h.registers rank_register)) number18
          ∙ ap (λ v. with_level first.local s (word_sum (applied num.Shl (first.registers number_register) 11) v) (h.registers node_register) (h.registers blocks_register) (h.registers rank_register)) size20
          ∙ ap (λ v. with_level first.local s (size_word first) v (h.registers blocks_register) (h.registers rank_register)) node
          ∙ ap (λ v. with_level first.local s (size_word first) (first.registers node_register) v (h.registers rank_register)) blocks
          ∙ ap (with_level first.local s (size_word first) (first.registers node_register) (first.registers blocks_register)) rank19;
      node = omega arith;
      size_is = omega arith;
      frames = omega arith;
      blocks = omega arith;
      number = omega arith;
      rank_is = omega arith;
      heading = omega arith;
      others = λ r a b' c d e f g i j k l x y z. rw (ne_eqb r 19 j, ne_eqb r 18 i, ne_eqb r 13 g, ne_eqb r 12 f, ne_eqb r 28 l, ne_eqb r 20 k, ne_eqb r 10 e) (b.others r a b' c d l x y z);
    }
  where
    stays : (r : ℕ) → 7 < r → r < 28 → h.registers r ≡ first.registers r
    stays r lt less = b.others r (λ e. omega arith) (λ e. omega arith) (λ e. omega arith) (λ e. omega arith) (λ e. omega arith) (λ e. omega arith) (λ e. omega arith) (λ e. omega arith)

-- ---- the ways

module _ (image : Image) (bound : ℕ → ℕ) (places : Places) (shared : HasParts image bound) (t : MachineSetting) (number link target site : ℕ)
    (holds : Holds image t) (labels : HasLabels bound places) (back : LinesAt image bound link (goes_to (Jal zero_register 0) (label_of target) ∷ no_parts site))
    (h : Hart) (live : h.ended ≡ false) (linked : h.registers ra ≡ 4 * link) (zero_is : h.registers zero_register ≡ 0) where
  -- who waits goes to where those wait
  abbrev pub wait_hart : Hart
  wait_hart = jumps (jumps (goes_to_pc h (word_sum h.pc 4)) 0 (4 * link)) 0 (4 * bound (label_of target))

  pub wait_runs : h.pc ≡ 4 * (bound fork_label + 24) → h.registers t3 ≡ 0 → RunsPrivately image t number 3 h wait_hart
  wait_runs pc flag =
      let cycle1 = later t in
      let cycle2 = later cycle1 in
      let k = bound fork_label + 24 in
      let lines = behind_fork image bound shared in
      let bne = lines.0 in
      let jalr = lines.1.0 in
      let near = jalr.within in
      let near' = back.0.within in
      let ha = goes_to_pc h (word_sum h.pc 4) in
      let hb = jumps ha 0 (4 * link) in
      let to : word_sum (h.registers ra) 0 / 2 * 2 ≡ 4 * link = omega arith in
      let aligned : 4 * link % 4 ≡ 0 = omega arith in (
        ha,
        bne_on image t number k 28 0 8 h holds bne pc live (eq-eqb (h.registers t3) (h.registers zero_register) (flag ∙ sym zero_is)),
        (
          hb,
          private image cycle1 number (suc k) (Jalr zero_register ra 0) ha hb holds jalr (omega arith) live (λ x. (x.reserved, jalr_goes cycle1 number 0 1 0 (4 * link) ha x to aligned)),
          (wait_hart, jal_private image bound cycle2 number link 0 (label_of target) hb holds back.0 (labels.within (label_of target)) refl live, refl),
        ),
      )

  -- who enters comes to the lines behind the way without room
  module _ (first : Hart) (s word size share index rank : ℕ) (behind : IsBehind first h s word size share index rank) where
    abbrev pub saved_hart : Hart
    saved_hart = walk (told_of (later t) number) (saving s) (goes_to_pc h (word_sum h.pc 8))

    abbrev pub entering : Hart
    entering = jumps saved_hart 0 (4 * (link + 4))

    moved_behind : IsBehind first (goes_to_pc h (word_sum h.pc 8)) s word size share index rank
    moved_behind = record {
      live = behind.live;
      slot = behind.slot;
      inside = behind.inside;
      word_is = behind.word_is;
      within = behind.within;
      some = behind.some;
      size_is = behind.size_is;
      small = behind.small;
      share_is = behind.share_is;
      part = behind.part;
      few = behind.few;
      rank_is = behind.rank_is;
      word_rank = behind.word_rank;
      ends = behind.ends;
      frames_is = behind.frames_is;
      ends_in = behind.ends_in;
      local = behind.local;
      others = behind.others;
    }

    pub entering_has : HasSavedFork first entering s word size share index rank
    entering_has =
        let e = saves (told_of (later t) number) first (goes_to_pc h (word_sum h.pc 8)) s word size share index rank moved_behind in
        record {
          live = e.live;
          local = e.local;
          node = e.node;
          size_is = e.size_is;
          frames = e.frames;
          blocks = e.blocks;
          number = e.number;
          rank_is = e.rank_is;
          heading = e.heading;
          others = e.others;
        }

    pub enter_runs : h.pc ≡ 4 * (bound fork_label + 24) → h.registers t3 ≡ 1 → RunsPrivately image t number 15 h entering
    enter_runs pc flag =
        let k = bound fork_label + 24 in
        let cycle1 = later t in
        let lines = behind_fork image bound shared in
        let bne = lines.0 in
        let rest = lines_split image bound (suc (suc k)) fork_saving into_one_part lines.1.1 in
        let jalr = rest.1.0 in
        let near = jalr.within in
        let near' = back.0.within in
        let ha = goes_to_pc h (word_sum h.pc 8) in
        let w = walked image bound cycle1 number holds (saving s) (suc (suc k)) ha rest.0 (omega arith) behind.live (can_save (told_of cycle1 number) first ha s word size share index rank moved_behind) in
        let there = w.pc in
        let linked' : saved_hart.registers ra ≡ 4 * link = linked in
        let to : word_sum (saved_hart.registers ra) 16 / 2 * 2 ≡ 4 * (link + 4) = omega arith in
        let aligned : 4 * (link + 4) % 4 ≡ 0 = omega arith in
        let differ : (h.registers t3 == h.registers zero_register) ≡ false = ne_eqb (h.registers t3) (h.registers zero_register) (λ f. omega (arith, f, flag, zero_is)) in (
          ha,
          bne_taken image t number k 28 0 8 h holds bne pc live differ (omega arith),
          runs_join image cycle1 number 13 1 ha saved_hart entering w.runs (
            entering,
            private image (in_cycles 13 cycle1) number (suc (suc k) + 13) (Jalr zero_register ra 16) saved_hart entering holds jalr there w.live
                (λ x. (x.reserved, jalr_goes (in_cycles 13 cycle1) number 0 1 16 (4 * (link + 4)) saved_hart x to aligned)),
            refl,
          ),
        )

-- ---- the header

pub no_heading : (n : ℕ) → heading_by (suc n) ≡ []
no_heading n = ap (λ b. if b then quiet (Sw end_register t3 (at_value 60)) ∷ [] else []) (ne_eqb (suc n) 0 (λ e. omega arith))

-- who enters from the first level stores where the frames of its group end
module _ (image : Image) (bound : ℕ → ℕ) (t : MachineSetting) (number k waiting : ℕ) (holds : Holds image t) (h : Hart) (live : h.ended ≡ false) (pc : h.pc ≡ 4 * k)
    (within : value_word 60 h < 32768) (address : word_sum (h.registers end_register) (at_value 60) ≡ local_address (value_word 60 h)) where
  abbrev pub headed : (count : ℕ) → Hart
  headed zero = walk (told_of t number) ((Sw end_register t3 (at_value 60), LocalAt (value_word 60 h)) ∷ []) h
  headed (suc n) = h

  pub heading_runs : (count : ℕ) → LinesAt image bound k (heading_by count) → RunsPrivately image t number (length (heading_by count)) h (headed count)
      × ((headed count).pc ≡ 4 * (k + length (heading_by count)))
  heading_runs zero lines =
      let quiets : Quiets = (Sw end_register t3 (at_value 60), LocalAt (value_word 60 h)) ∷ [] in
      let w = walked image bound t number holds quiets k h lines pc live ((within, address), tt) in
      (w.runs, w.pc)
  heading_runs (suc n) lines =
      subst (λ (l : List MarkedLine). RunsPrivately image t number (length l) h h × (h.pc ≡ 4 * (k + length l))) (sym (no_heading n)) (refl, pc ∙ omega arith)
