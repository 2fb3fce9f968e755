-- A split without room for its parts.
use Rattle.std.proofs.Common.{◌≡◌, ℕ, suc, ◌+◌, ◌*◌, ◌/◌, ◌%◌, ◌^◌, ◌<◌, ◌≤◌, List, [], ◌∷◌, length, false, None, ap, subst, ◌∙◌, arith, refl, inr}
use Rattle.std.proofs.lemmas.Bool.{lt-leb}
use Rattle.fk_num.specs.Word.{Memory, word, word_sum}
use Rattle.fk_num.specs.Op.{applied}
use Rattle.fk_num.specs.declared.operator.Op.TheVariants as num
use Rattle.fk_space.specs.Space.{Space, IsSpace, free}
use Rattle.fk_meaning_operation.specs.declared.operation.SplitKind.{SplitKind}
use Rattle.fk_meaning_operation.specs.declared.operation.SplitKind.TheVariants.{IfAlone, IfElse, AndThen, OrElse, Loop, Fork}
use Rattle.fk_meaning_operation.specs.declared.operation.Operation.TheVariants.{Split}
use Rattle.fk_meaning.specs.Processor.{Setting, values}
use Rattle.fk_meaning.specs.Group.{parts, has_parts}
use Rattle.fk_core.specs.declared.op.CoreOp.{CoreOp}
use Rattle.fk_image.specs.declared.Image.{Image}
use Rattle.fk_isa.specs.declared.instruction.Instruction.TheVariants.{Lui, Jal, Jalr, Sw, Addi, Sub}
use Rattle.fk_machine.specs.declared.stand.Stand.TheVariants.{Faulted}
use Rattle.fk_machine.specs.Place.{place_of}
use Rattle.fk_machine.specs.Hart.{Hart, Stops, Setting as MachineSetting}
use Rattle.fk_machine.specs.Run.{count_in}
use Rattle.fk_machine.proofs.Performs.{writes, sw-fault}
use Rattle.fk_machine.proofs.Places.{place_of-fault}
use Rattle.fk_sim_nodes.specs.Node.{Member, Words}
use Rattle.fk_sim_nodes.specs.Alone.{RunsPrivately, NodeRun, later, in_cycles}
use Rattle.fk_sim_nodes.specs.Together.{Together}
use Rattle.fk_sim_nodes.specs.OneHart.{OneDoes, EachDoes, AllReach}
use Rattle.fk_sim_nodes.proofs.InPlace.{step_at}
use Rattle.fk_sim_nodes.proofs.Members.{together_map}
use Rattle.fk_sim_nodes.proofs.OneHart.{each_does}
use Rattle.fk_sim_block.specs.Owner.{Owner, Doing, core_source}
use Rattle.fk_sim_block.specs.Stands.{Places, zero_register, device_register}
use Rattle.fk_sim_block.specs.Block.{Enters}
use Rattle.fk_sim_block.specs.Node.{Nestings, OwnsHeader, KnowsSpace, control_address, frames_register, blocks_register}
use Rattle.fk_sim_block.specs.Lockstep.{IsMember, AllEnter}
use Rattle.fk_sim_block.specs.Parts.{IsToDivide, AllAreToDivide}
use Rattle.fk_gen.specs.Registers.{ra, t0, t1}
use Rattle.fk_gen.specs.Lines.{goes_to, label_of, high_part, low_part}
use Rattle.fk_gen.specs.InPlace.{LinesAt}
use Rattle.fk_gen.proofs.Difference.{difference}
use Rattle.fk_gen.proofs.Values.{number_of_parts}
use Rattle.fk_gen.proofs.Walk.{private, runs_join}
use Rattle.fk_gen.proofs.Jumps.{jumps, goes_to_pc, jalr_goes, bgeu_on}
use Rattle.fk_gen.proofs.Does.{holds_in_cycles}
use Rattle.fk_gen_group.specs.Splits.{HasParts, part_lines, parts_label, one_part_label, two_parts_label, fork_label, no_parts, split_faults_in}
use Rattle.fk_gen_group.specs.Laws.{IsInPlace, IsSplitInPlace, GroupsLackRoom}
use Rattle.fk_gen_group.proofs.Members.{fault_part}
use Rattle.fk_gen_group.proofs.ForkSizes.{full_of}
use Rattle.fk_gen_group.proofs.Forks as forks
use Rattle.fk_gen_group.proofs.Fronts.{Fronted, fronted, full_of_one, full_of_two, link_at}

module _ (core : List CoreOp) (image : Image) (bound : ℕ → ℕ) (places : Places) (nestings : Nestings) (i : ℕ) (op : CoreOp) (by : SplitKind)
    (place : IsInPlace core image bound places nestings i op (Split by)) (small : op.site < 2 ^ 32)
    (setting : Setting) (space : Space) (count : ℕ) (full : has_parts space count ≡ false)
    (cycle0 : MachineSetting) (m : Member) (p : Owner) (en : Enters core image places setting cycle0 i op (Split by) p m.hart)
    (divides : IsToDivide nestings by space count p) (link : ℕ) (back : LinesAt image bound link (goes_to (Jal zero_register 0) (label_of op.target) ∷ no_parts op.site)) where
  abbrev pub Faulting : ℕ → Type 0
  Faulting before = OneDoes (core_source core setting) image cycle0 1 before 0 m p (λ h d. ⊥)

  -- ---- the lines that fault

  pub faults_from : (c : ℕ) (h4 : Hart) → RunsPrivately image cycle0 m.number c m.hart h4 → h4.pc ≡ 4 * suc link → h4.ended ≡ false → h4.registers device_register ≡ 0x30000000 → Faulting (c + 2)
  faults_from c h4 runs e4 live device =
      let k = suc link in
      let holds = en.running.code in
      let cycle4 = in_cycles c cycle0 in
      let cycle5 = later cycle4 in
      let cycle6 = in_cycles (c + 2) cycle0 in
      let l4 = back.1.0 in
      let l5 = back.1.1.0 in
      let l6 = back.1.1.1.0 in
      let near = l6.within in
      let v4 = high_part op.site * 4096 in
      let v5 = word_sum v4 (low_part op.site) in
      let h5 = writes h4 t1 v4 in
      let h6 = writes h5 t1 v5 in
      let holds4 = holds_in_cycles image c cycle0 holds in
      let e5 : h5.pc ≡ 4 * suc k = omega arith in
      let e6 : h6.pc ≡ 4 * suc (suc k) = omega arith in
      let full_is = ap (λ (s : Space). has_parts s (parts by (values p.runner.has))) divides.space_is ∙ ap (has_parts space) divides.count_is ∙ full in
      let site_is : word op.site ≡ op.site = omega arith in
      record {
        committing = h6;
        runs = runs_join image cycle0 m.number c 2 m.hart h4 h6 runs (
          h5,
          private image cycle4 m.number k (Lui t1 (high_part op.site)) h4 h5 holds4 l4 e4 live (λ s. (s.reserved, refl)),
          (h6, private image cycle5 m.number (suc k) (Addi t1 t1 (low_part op.site)) h5 h6 holds4 l5 e5 live (λ s. (s.reserved, refl)), refl),
        );
        commits = record {
          live = live;
          counted = ap (count_in image.commits.items) e6 ∙ l6.counted;
          does = λ s. inr (record {
            site = op.site;
            part = fault_part core setting i op (Split by) s p place.stands refl full_is en.index;
            stops = λ earlier sh shows.
                step_at image (suc (suc k)) 1 (Sw device_register t1 8) l6 cycle6 (holds_in_cycles image (c + 2) cycle0 holds) m.number h6 sh e6
                ∙ sw-fault cycle6 m.number 26 6 8 h6 sh (omega (arith, device)) (ap (λ a. place_of (word_sum a 8)) device ∙ place_of-fault)
                ∙ ap (λ v. Stops (Faulted v m.number)) (number_of_parts op.site ∙ site_is);
          });
        };
      }

module _ (core : List CoreOp) (image : Image) (bound : ℕ → ℕ) (places : Places) (nestings : Nestings) (i : ℕ) (op : CoreOp) (by : SplitKind)
    (place : IsInPlace core image bound places nestings i op (Split by)) (shared : HasParts image bound) (small : op.site < 2 ^ 32)
    (setting : Setting) (space : Space) (count : ℕ) (is_space : IsSpace space) (full : has_parts space count ≡ false)
    (cycle0 : MachineSetting) (first : ℕ) (m : Member) (p : Owner) (en : Enters core image places setting cycle0 i op (Split by) p m.hart)
    (member : IsMember places nestings setting None first m p) (divides : IsToDivide nestings by space count p) (front : Fronted core image bound places nestings i op by place setting cycle0 m p en) where
  abbrev n : ℕ
  n = length (part_lines by op.depth) + 2

  abbrev link : ℕ
  link = link_at core image bound places nestings i op by place setting cycle0 m p en

  abbrev h1 : Hart
  h1 = front.hart

  abbrev Faults : ℕ → Type 0
  Faults before = OneDoes (core_source core setting) image cycle0 1 before 0 m p (λ h d. ⊥)

  -- where its group's free words begin and end
  known : (h1.registers frames_register ≡ control_address space.frames) × (h1.registers blocks_register ≡ control_address space.blocks)
  known =
      let k = subst (λ o. KnowsSpace p.runner.has.level o m.hart) divides.group.outer member.node.space in (
        front.others 12 (λ e. omega arith) (λ e. omega arith) (λ e. omega arith) (λ e. omega arith) ∙ k.0 ∙ ap (λ (s : Space). control_address s.frames) divides.space_is,
        front.others 13 (λ e. omega arith) (λ e. omega arith) (λ e. omega arith) (λ e. omega arith) ∙ k.1 ∙ ap (λ (s : Space). control_address s.blocks) divides.space_is,
      )

  device_is : h1.registers device_register ≡ 0x30000000
  device_is = front.others 26 (λ e. omega arith) (λ e. omega arith) (λ e. omega arith) (λ e. omega arith) ∙ en.at.stands.devices

  -- ---- one part

  lacks_one : parts_label by ≡ one_part_label → free space < 20 → Faults (n + 3 + 2)
  lacks_one label few =
      let k = bound one_part_label in
      let holds = holds_in_cycles image n cycle0 en.running.code in
      let header = is_space.header in
      let ordered = is_space.ordered in
      let within = is_space.within in
      let top = is_space.shared in
      let frames = known.0 in
      let blocks = known.1 in
      let cycle1 = in_cycles n cycle0 in
      let cycle2 = later cycle1 in
      let cycle3 = later cycle2 in
      let l1 = shared.one.0 in
      let l2 = shared.one.1.0 in
      let l3 = shared.one.1.1.0 in
      let near = l3.within in
      let near' = front.back.1.0.within in
      let e1 : h1.pc ≡ 4 * k = front.at ∙ ap (λ l. 4 * bound l) label in
      let h2 = writes h1 t1 (word_sum (h1.registers frames_register) 80) in
      let e2 : h2.pc ≡ 4 * suc k = omega arith in
      let h3 = goes_to_pc h2 (word_sum h2.pc 4) in
      let e3 : h3.pc ≡ 4 * suc (suc k) = omega arith in
      let h4 = jumps h3 0 (4 * suc link) in
      let linked = front.link in
      let target : word_sum (h1.registers ra) 4 / 2 * 2 ≡ 4 * suc link = omega arith in
      let aligned : 4 * suc link % 4 ≡ 0 = omega arith in
      faults_from core image bound places nestings i op by place small setting space count full cycle0 m p en divides link front.back (n + 3) h4
      (runs_join image cycle0 m.number n 3 m.hart h1 h4 front.runs (
        h2,
        private image cycle1 m.number k (Addi t1 frames_register 80) h1 h2 holds l1 e1 front.live (λ s. (s.reserved, refl)),
        (
          h3,
          bgeu_on image cycle2 m.number (suc k) 13 6 8 h2 holds l2 e2 front.live (lt-leb (h2.registers t1) (h2.registers blocks_register) (omega arith)),
          (h4, private image cycle3 m.number (suc (suc k)) (Jalr zero_register ra 4) h3 h4 holds l3 e3 front.live (λ s. (s.reserved, jalr_goes cycle3 m.number 0 1 4 (4 * suc link) h3 s target aligned)), refl),
        ),
      ))
      refl front.live device_is

  -- ---- two parts

  lacks_two : parts_label by ≡ two_parts_label → free space < 40 → Faults (n + 4 + 2)
  lacks_two label few =
      let k = bound two_parts_label in
      let holds = holds_in_cycles image n cycle0 en.running.code in
      let header = is_space.header in
      let ordered = is_space.ordered in
      let within = is_space.within in
      let top = is_space.shared in
      let frames = known.0 in
      let blocks = known.1 in
      let cycle1 = in_cycles n cycle0 in
      let cycle2 = later cycle1 in
      let cycle3 = later cycle2 in
      let cycle4 = later cycle3 in
      let l1 = shared.two.0 in
      let l2 = shared.two.1.0 in
      let l3 = shared.two.1.1.0 in
      let l4 = shared.two.1.1.1.0 in
      let near = l4.within in
      let near' = front.back.1.0.within in
      let zero_is : h1.registers zero_register ≡ 0 = front.others 0 (λ e. omega arith) (λ e. omega arith) (λ e. omega arith) (λ e. omega arith) ∙ en.at.stands.nought in
      let e1 : h1.pc ≡ 4 * k = front.at ∙ ap (λ l. 4 * bound l) label in
      let left = applied num.Sub (h1.registers blocks_register) (h1.registers frames_register) in
      let left_is = difference (h1.registers blocks_register) (h1.registers frames_register) (omega arith) in
      let h2 = writes h1 t0 left in
      let e2 : h2.pc ≡ 4 * suc k = omega arith in
      let h3 = writes h2 t1 (word_sum (h1.registers zero_register) 160) in
      let e3 : h3.pc ≡ 4 * suc (suc k) = omega arith in
      let h4 = goes_to_pc h3 (word_sum h3.pc 4) in
      let e4 : h4.pc ≡ 4 * suc (suc (suc k)) = omega arith in
      let h5 = jumps h4 0 (4 * suc link) in
      let linked = front.link in
      let target : word_sum (h1.registers ra) 4 / 2 * 2 ≡ 4 * suc link = omega arith in
      let aligned : 4 * suc link % 4 ≡ 0 = omega arith in
      faults_from core image bound places nestings i op by place small setting space count full cycle0 m p en divides link front.back (n + 4) h5
      (runs_join image cycle0 m.number n 4 m.hart h1 h5 front.runs (
        h2,
        private image cycle1 m.number k (Sub t0 blocks_register frames_register) h1 h2 holds l1 e1 front.live (λ s. (s.reserved, refl)),
        (
          h3,
          private image cycle2 m.number (suc k) (Addi t1 zero_register 160) h2 h3 holds l2 e2 front.live (λ s. (s.reserved, refl)),
          (
            h4,
            bgeu_on image cycle3 m.number (suc (suc k)) 5 6 8 h3 holds l3 e3 front.live (lt-leb (h3.registers t1) (h3.registers t0) (omega arith)),
            (h5, private image cycle4 m.number (suc (suc (suc k))) (Jalr zero_register ra 4) h4 h5 holds l4 e4 front.live (λ s. (s.reserved, jalr_goes cycle4 m.number 0 1 4 (4 * suc link) h4 s target aligned)), refl),
          ),
        ),
      ))
      refl front.live device_is

-- ---- a fork

lacks_fork : (core : List CoreOp) (image : Image) (bound : ℕ → ℕ) (places : Places) (nestings : Nestings) (i : ℕ) (op : CoreOp)
    (place : IsInPlace core image bound places nestings i op (Split Fork)) → HasParts image bound → op.site < 2 ^ 32
    → (setting : Setting) (space : Space) (count : ℕ) → IsSpace space → has_parts space count ≡ false
    → (t : MachineSetting) (first : ℕ) (m : Member) (p : Owner) → Enters core image places setting t i op (Split Fork) p m.hart
    → IsMember places nestings setting None first m p → IsToDivide nestings Fork space count p
    → OneDoes (core_source core setting) image t 1 (split_faults_in Fork) 0 m p (λ h d. ⊥)
lacks_fork core image bound places nestings i op place shared small setting space count is_space full t first m p en member divides =
    let front = forks.fork_fronted core image bound places nestings i op place setting t m p en in
    let k = bound fork_label in
    let k7 = suc (suc (suc (suc (suc (suc (suc k)))))) in
    let link = forks.fork_link core image bound places nestings i op place setting t m p en in
    let h7 = forks.roomed core image bound places nestings i op place setting t m p en shared space count is_space first member divides front in
    let room = forks.room_runs core image bound places nestings i op place setting t m p en shared space count is_space first member divides front in
    let few = full_of space count full in
    let q = forks.quotient_is core image bound places nestings i op place setting t m p en shared space count is_space first member divides front in
    let twenty = forks.twenty_is core image bound places nestings i op place setting t m p en shared space count is_space first member divides front in
    let holds = holds_in_cycles image 12 t en.running.code in
    let cycle12 = in_cycles 12 t in
    let line = shared.fork.1.1.1.1.1.1.1.0 in
    let jalr = shared.fork.1.1.1.1.1.1.1.1.0 in
    let near = jalr.within in
    let near' = front.back.1.0.within in
    let there = room.1 in
    let at : h7.pc ≡ 4 * k7 = there ∙ omega arith in
    let h8 = goes_to_pc h7 (word_sum h7.pc 4) in
    let e8 : h8.pc ≡ 4 * suc k7 = omega arith in
    let h9 = jumps h8 0 (4 * suc link) in
    let linked : h8.registers ra ≡ 4 * link = front.link in
    let target : word_sum (h8.registers ra) 4 / 2 * 2 ≡ 4 * suc link = omega arith in
    let aligned : 4 * suc link % 4 ≡ 0 = omega arith in
    let device = front.others 26 (λ e. omega arith) (λ e. omega arith) (λ e. omega arith) (λ e. omega arith) (λ e. omega arith) ∙ en.at.stands.devices in
    faults_from core image bound places nestings i op Fork place small setting space count full t m p en divides link front.back 14 h9
    (runs_join image t m.number 12 2 m.hart h7 h9 room.0 (
      h8,
      bgeu_on image cycle12 m.number k7 5 6 8 h7 holds line at front.live (lt-leb (h7.registers t1) (h7.registers t0) (omega arith)),
      (h9, private image (later cycle12) m.number (suc k7) (Jalr zero_register ra 4) h8 h9 holds jalr e8 front.live (λ s. (s.reserved, jalr_goes (later cycle12) m.number 0 1 4 (4 * suc link) h8 s target aligned)), refl),
    ))
    refl front.live device

-- ---- by the kind of the split

module _ (core : List CoreOp) (image : Image) (bound : ℕ → ℕ) (places : Places) (nestings : Nestings) (i : ℕ) (op : CoreOp) (setting : Setting) (space : Space) (count : ℕ)
    (shared : HasParts image bound) (small : op.site < 2 ^ 32) (is_space : IsSpace space) (full : has_parts space count ≡ false) (t : MachineSetting) (first : ℕ) where
  lacks : (by : SplitKind) (place : IsInPlace core image bound places nestings i op (Split by)) → (m : Member) (p : Owner)
      → Enters core image places setting t i op (Split by) p m.hart → IsMember places nestings setting None first m p → IsToDivide nestings by space count p
      → OneDoes (core_source core setting) image t 1 (split_faults_in by) 0 m p (λ h d. ⊥)
  lacks IfAlone place m p en member divides =
      lacks_one core image bound places nestings i op IfAlone place shared small setting space count is_space full t first m p en member divides
      (fronted core image bound places nestings i op IfAlone place setting t m p en refl) refl (full_of_one space (ap (has_parts space) divides.count_is ∙ full))
  lacks AndThen place m p en member divides =
      lacks_one core image bound places nestings i op AndThen place shared small setting space count is_space full t first m p en member divides
      (fronted core image bound places nestings i op AndThen place setting t m p en refl) refl (full_of_one space (ap (has_parts space) divides.count_is ∙ full))
  lacks OrElse place m p en member divides =
      lacks_one core image bound places nestings i op OrElse place shared small setting space count is_space full t first m p en member divides
      (fronted core image bound places nestings i op OrElse place setting t m p en refl) refl (full_of_one space (ap (has_parts space) divides.count_is ∙ full))
  lacks Loop place m p en member divides =
      lacks_one core image bound places nestings i op Loop place shared small setting space count is_space full t first m p en member divides
      (fronted core image bound places nestings i op Loop place setting t m p en refl) refl (full_of_one space (ap (has_parts space) divides.count_is ∙ full))
  lacks IfElse place m p en member divides =
      lacks_two core image bound places nestings i op IfElse place shared small setting space count is_space full t first m p en member divides
      (fronted core image bound places nestings i op IfElse place setting t m p en refl) refl (full_of_two space (ap (has_parts space) divides.count_is ∙ full))
  lacks Fork place m p en member divides =
      lacks_fork core image bound places nestings i op place shared small setting space count is_space full t first m p en member divides

  each_lacks : (by : SplitKind) (place : IsInPlace core image bound places nestings i op (Split by)) → (ms : List Member) (ps : List Owner)
      → AllEnter core image places nestings i op (Split by) setting t None first ms ps → AllAreToDivide nestings by space count ps
      → EachDoes (core_source core setting) image t 1 (split_faults_in by) 0 (λ number p h d. ⊥) ms ps
  each_lacks by place [] [] all divide = tt
  each_lacks by place (m ∷ ms) (p ∷ ps) all divide = (lacks by place m p all.0 all.1 divide.0, each_lacks by place ms ps all.2 divide.1)
  each_lacks by place ms ps all divide = absurd (assumption all)

-- what nobody reaches isn't reached
reached_by_none : (p : Owner) (ps : List Owner) (ms : List Member) (ds : List Doing) → AllReach (λ (number : ℕ) (p : Owner) (h : Hart) (d : Doing). ⊥) (p ∷ ps) ms ds → ⊥
reached_by_none p ps (m ∷ ms) (d ∷ ds) all = all.0
reached_by_none p ps ms ds all = absurd (assumption all)

few_before : (by : SplitKind) → split_faults_in by ≤ 70
few_before IfAlone = omega arith
few_before IfElse = omega arith
few_before AndThen = omega arith
few_before OrElse = omega arith
few_before Loop = omega arith
few_before Fork = omega arith

module _ (core : List CoreOp) (image : Image) (bound : ℕ → ℕ) (places : Places) (nestings : Nestings) (i : ℕ) (op : CoreOp) (by : SplitKind)
    (split : IsSplitInPlace core image bound places nestings i op by) (small : op.site < 2 ^ 32) (setting : Setting) (t : MachineSetting) (mine : Words) (first : ℕ) (space : Space) (count : ℕ)
    (owns : OwnsHeader mine first) (is_space : IsSpace space) (full : has_parts space count ≡ false) where
  all_lack : (ms : List Member) (ps : List Owner) (own : Memory) → 1 ≤ length ps → AllEnter core image places nestings i op (Split by) setting t None first ms ps → AllAreToDivide nestings by space count ps
      → Together (core_source core setting) image mine t 1 (split_faults_in by) ms ps own (λ ms' ds own'. ⊥)
  all_lack ms [] own some all divide = absurd (omega arith)
  all_lack ms (p ∷ ps) own some all divide =
      let source = core_source core setting in
      let before = split_faults_in by in
      let t' = later (in_cycles before t) in
      let None' : ℕ → Owner → Hart → Doing → Type 0 = λ number p h d. ⊥ in
      let Then : List Member → List Doing → Memory → Type 0 = λ ms' ds own'. NodeRun image mine t' 0 ms' own' (λ ms'' own''. (own'' ≡ own) × AllReach None' (p ∷ ps) ms'' ds) in
      together_map source image mine t 1 before ms (p ∷ ps) own Then (λ ms' ds own'. ⊥)
      (λ ms' ds own' x. reached_by_none p ps ms' ds x.1)
      (each_does source image mine t 1 before 0 None' ms (p ∷ ps) own owns.apart
      (each_lacks core image bound places nestings i op setting space count split.parts small is_space full t first by split.place ms (p ∷ ps) all divide))

pub groups_lack_room : GroupsLackRoom
groups_lack_room core image bound places nestings i op by split small = record {
  before = split_faults_in by;
  few = few_before by;
  faults = λ setting t mine first space count ms ps own owns all divide full.
      all_lack core image bound places nestings i op by split small setting t mine first space count owns divide.is_space full ms ps own divide.some all divide.all;
}
