-- The members of a group that divides into two parts.
use Rattle.std.proofs.Common.{◌≡◌, ◌≢◌, ℕ, zero, suc, ◌+◌, ◌*◌, ◌^◌, ◌<◌, ◌≤◌, List, [], ◌∷◌, ◌++◌, length, map, Bool, true, false, Option, Some, None, sym, ap, subst, ◌∙◌, arith, refl}
use Rattle.std.specs.Prelude.{◌==◌}
use Rattle.std.specs.Int.{from_bool}
use Rattle.std.proofs.lemmas.Bool.{ne_eqb}
use Rattle.fk_num.specs.Word.{Memory, word_sum}
use Rattle.fk_space.specs.Space.{Space, IsSpace, free, equal_part}
use Rattle.fk_meaning_operation.specs.declared.operation.SplitKind.TheVariants.{IfElse}
use Rattle.fk_meaning_operation.specs.declared.operation.Operation.TheVariants.{Split}
use Rattle.fk_meaning.specs.Processor.{Setting, values, last}
use Rattle.fk_meaning.specs.Group.{part_level, has_parts, has_room}
use Rattle.fk_core.specs.declared.op.CoreOp.{CoreOp}
use Rattle.fk_image.specs.declared.Image.{Image}
use Rattle.fk_machine.specs.Hart.{Hart, Setting as MachineSetting}
use Rattle.fk_sim_nodes.specs.Node.{Member, Words}
use Rattle.fk_sim_nodes.specs.Alone.{Holds}
use Rattle.fk_sim_nodes.specs.Together.{Together}
use Rattle.fk_sim_block.specs.Owner.{Owner, core_source}
use Rattle.fk_sim_block.specs.Stands.{Places, zero_register}
use Rattle.fk_sim_block.specs.Block.{Enters}
use Rattle.fk_sim_block.specs.Node.{Nestings, OwnsHeader, OwnsSpace, IsAtRest, control_address}
use Rattle.fk_sim_block.specs.Lockstep.{IsMember, AllEnter, ComesByWay, highest_value, is_due}
use Rattle.fk_sim_block.specs.Parts.{IsToDivide, AllAreToDivide, part_of, parts_of, size_behind}
use Rattle.fk_gen.specs.Registers.{t0, ra, t1, t3, t4}
use Rattle.fk_gen.specs.InPlace.{LinesAt}
use Rattle.fk_gen.proofs.Walk.{walk, told_of, lines_split}
use Rattle.fk_gen_group.specs.Splits.{two_parts_label, two_parts_place, counting_lines, saving_lines, into_two_parts, split_goes_on}
use Rattle.fk_gen_group.specs.Laws.{IsSplitInPlace}
use Rattle.fk_gen_group.proofs.Members.{Both, each_so, all_due}
use Rattle.fk_gen_group.proofs.Fronts.{Fronted, fronted, flag_by, link_at, memory_by}
use Rattle.fk_gen_group.proofs.Counting.{IsToCount, Knows}
use Rattle.fk_gen_group.proofs.Counted.{Comes, come_and_count}
use Rattle.fk_gen_group.proofs.Parting.{IsHalved, placed_two, two_word, first_word_is, second_word_is, enters_part, saving, first_hart, first_runs, second_hart, second_runs, both_has}
use Rattle.fk_gen_group.proofs.PartSizes.{AreCounted, Each, Within, word_at, either, none_waits}
use Rattle.fk_gen_group.proofs.Committed.{live_at, flag_at, link_is, nought_at, saved_at_word, is_behind, has_entered, comes_with}
use Rattle.fk_gen_group.proofs.Divided.{Divided, all_divided}

-- the number of a part is what its members have
flag_of_part : (b : Bool) (j : ℕ) → either b ≡ Some j → from_bool b ≡ j
flag_of_part true j e = cc
flag_of_part false j e = cc

module _ (core : List CoreOp) (image : Image) (bound : ℕ → ℕ) (places : Places) (nestings : Nestings) (i : ℕ) (op : CoreOp)
    (split : IsSplitInPlace core image bound places nestings i op IfElse) (setting : Setting) (space : Space) (is_space : IsSpace space) (many : 40 ≤ free space)
    (cycle0 : MachineSetting) (mine : Words) (first : ℕ) (owns : OwnsHeader mine first) (all_own : OwnsSpace mine space) (are : AreCounted Each IfElse space first 2 (λ p. 1)) where
  abbrev pub one_each : Owner → ℕ
  one_each p = 1

  abbrev pub word : Owner → ℕ
  word p = word_at space first 2 (part_of IfElse p)

  pub record Came (m : Member) (p : Owner) : Type 0 where
    pub enters : Enters core image places setting cycle0 i op (Split IfElse) p m.hart
    pub member : IsMember places nestings setting None first m p
    pub divides : IsToDivide nestings IfElse space 2 p

  abbrev pub steps : ℕ
  steps = 14

  abbrev pub FrontOf : (m : Member) (p : Owner) → Came m p → Type 0
  FrontOf m p came = Fronted core image bound places nestings i op IfElse split.place setting cycle0 m p came.enters

  abbrev pub HalvedOf : (m : Member) (p : Owner) (came : Came m p) → FrontOf m p came → Type 0
  HalvedOf m p came front =
      IsHalved core image bound places nestings i op IfElse split.place split.parts setting space 2 is_space cycle0 first m p came.enters came.member came.divides front (word p)

  -- a member at the lines that count
  pub record Ready (m : Member) (p : Owner) : Type 0 where
    pub hart : Hart
    pub came : Came (record m { hart = hart }) p
    pub front : FrontOf (record m { hart = hart }) p came
    pub halved : HalvedOf (record m { hart = hart }) p came front
    pub is : m.hart ≡ halved.placed.hart

  abbrev word_by : (m : Member) (p : Owner) (came : Came m p) → FrontOf m p came → ℕ → ℕ
  word_by m p came front = two_word core image bound places nestings i op IfElse split.place split.parts setting space 2 is_space cycle0 first m p came.enters came.member came.divides front

  abbrev flag : Owner → ℕ
  flag p = flag_by IfElse (values p.runner.has)

  -- the word is by the part
  word_of : (m : Member) (p : Owner) (came : Came m p) (front : FrontOf m p came) (o : Option ℕ) → part_of IfElse p ≡ o → word_by m p came front (flag p) ≡ control_address (word p)
  word_of m p came front None e = absurd (none_waits (last (values p.runner.has) == 0) e)
  word_of m p came front (Some zero) e =
      let start : space.frames + 8 ≡ word_at space first 2 (Some 0) = omega arith in
      ap (word_by m p came front) (flag_of_part (last (values p.runner.has) == 0) 0 e)
      ∙ first_word_is core image bound places nestings i op IfElse split.place split.parts setting space 2 is_space cycle0 first m p came.enters came.member came.divides front many
      ∙ ap control_address start ∙ ap (λ x. control_address (word_at space first 2 x)) (sym e)
  word_of m p came front (Some (suc zero)) e =
      let start : space.frames + 8 + equal_part space 2 ≡ word_at space first 2 (Some 1) = omega arith in
      ap (word_by m p came front) (flag_of_part (last (values p.runner.has) == 0) 1 e)
      ∙ second_word_is core image bound places nestings i op IfElse split.place split.parts setting space 2 is_space cycle0 first m p came.enters came.member came.divides front many
      ∙ ap control_address start ∙ ap (λ x. control_address (word_at space first 2 x)) (sym e)
  word_of m p came front (Some (suc (suc j))) e =
      let inside : suc (suc j) < 2 = subst (Within 2) e (are.within p tt) in
      absurd (omega arith)

  pub comes : (m : Member) (p : Owner) → Came m p → Comes image cycle0 steps (bound two_parts_label + 11) Ready m p
  comes m p came =
      let front = fronted core image bound places nestings i op IfElse split.place setting cycle0 m p came.enters refl in
      let halved = placed_two core image bound places nestings i op IfElse split.place split.parts setting space 2 is_space cycle0 first m p came.enters came.member came.divides front
      (flag p) (word p) refl many front.flag (word_of m p came front (part_of IfElse p) refl) in
      record {
        hart = halved.placed.hart;
        runs = halved.placed.runs;
        at = halved.placed.at;
        live = halved.placed.live;
        ready = record { hart = m.hart; came = came; front = front; halved = halved; is = refl };
      }

  -- the node of each has its word
  within_by : (o : Option ℕ) → Within 2 o → word_at space first 2 o + 8 ≤ 2 ^ 20 + 64
  within_by None inside = owns.within
  within_by (Some zero) inside =
      let ordered = is_space.ordered in
      let within = is_space.within in
      let top = is_space.shared in
      omega arith
  within_by (Some (suc zero)) inside =
      let ordered = is_space.ordered in
      let within = is_space.within in
      let top = is_space.shared in
      omega arith
  within_by (Some (suc (suc j))) inside = absurd (omega arith)

  own_by : (o : Option ℕ) → Within 2 o → (offset : ℕ) → offset < 8 → mine (word_at space first 2 o + offset) ≡ true
  own_by None inside offset lt = owns.own offset lt
  own_by (Some zero) inside offset lt =
      let header = is_space.header in
      let ordered = is_space.ordered in
      let within = is_space.within in
      all_own.own (word_at space first 2 (Some 0) + offset) (omega arith) (omega arith)
  own_by (Some (suc zero)) inside offset lt =
      let header = is_space.header in
      let ordered = is_space.ordered in
      let within = is_space.within in
      all_own.own (word_at space first 2 (Some 1) + offset) (omega arith) (omega arith)
  own_by (Some (suc (suc j))) inside offset lt = absurd (omega arith)

  pub to_count : (m : Member) (p : Owner) → Ready m p → IsToCount mine 6 5 word one_each m p
  to_count m p r =
      let placed = r.halved.placed in
      let front = r.front in
      subst (λ h. IsToCount mine 6 5 word one_each (record m { hart = h }) p) (sym r.is)
      (record {
        address = placed.word_is;
        within = within_by (part_of IfElse p) (are.within p tt);
        own = own_by (part_of IfElse p) (are.within p tt);
        value = r.halved.one;
        nought =
            placed.others 0 (λ e. omega arith) (λ e. omega arith) (λ e. omega arith)
            ∙ front.others 0 (λ e. omega arith) (λ e. omega arith) (λ e. omega arith) (λ e. omega arith) ∙ r.came.enters.at.stands.nought;
      })

  pub other : ◌≢◌ {A = ℕ} 6 5
  other e = omega arith

  abbrev pub Counted : Memory → Member → Owner → Type 0
  Counted v m p = Knows image mine 6 5 other word one_each Ready to_count v m p

  -- ---- behind the commit

  module _ (t : MachineSetting) (holds : Holds image t) (highest : ℕ) (size : Owner → ℕ) (summed : Memory) (m : Member) (p : Owner) (counted : Counted summed m p)
      (pc : m.hart.pc ≡ 4 * (bound two_parts_label + 11 + 5)) (sum : summed (word p) ≡ size p) (small : size p < 2 ^ 32) where
    abbrev ready : Ready (record m { hart = counted.near.hart }) p
    ready = counted.near.ready

    abbrev m0 : Member
    m0 = record m { hart = ready.hart }

    abbrev came : Came m0 p
    came = ready.came

    ended : m.hart.ended ≡ ready.halved.placed.hart.ended
    ended = counted.near.live ∙ ap (λ (h : Hart). h.ended) ready.is

    local : m.hart.local ≡ ready.halved.placed.hart.local
    local = counted.near.local ∙ ap (λ (h : Hart). h.local) ready.is

    same : (r : ℕ) → r ≢ 5 → m.hart.registers r ≡ ready.halved.placed.hart.registers r
    same r ne = counted.near.others r ne ∙ ap (λ (h : Hart). h.registers r) ready.is

    live : m.hart.ended ≡ false
    live =
        live_at core image bound places nestings i op IfElse split.place split.parts setting space 2 is_space cycle0 first m0 p came.enters came.member came.divides ready.front two_parts_label 11 steps (word p)
        ready.halved.placed m.hart ended local same

    flag_is : m.hart.registers t3 ≡ flag p
    flag_is =
        flag_at core image bound places nestings i op IfElse split.place split.parts setting space 2 is_space cycle0 first m0 p came.enters came.member came.divides ready.front two_parts_label 11 steps (word p)
        ready.halved.placed m.hart ended local same

    abbrev link : ℕ
    link = link_at core image bound places nestings i op IfElse split.place setting cycle0 m0 p came.enters

    linked : m.hart.registers ra ≡ 4 * link
    linked =
        link_is core image bound places nestings i op IfElse split.place split.parts setting space 2 is_space cycle0 first m0 p came.enters came.member came.divides ready.front two_parts_label 11 steps (word p)
        ready.halved.placed m.hart ended local same

    nought : m.hart.registers zero_register ≡ 0
    nought =
        nought_at core image bound places nestings i op IfElse split.place split.parts setting space 2 is_space cycle0 first m0 p came.enters came.member came.divides ready.front two_parts_label 11 steps (word p)
        ready.halved.placed m.hart ended local same

    share_is : m.hart.registers t4 ≡ 4 * equal_part space 2
    share_is = same 29 (λ e. omega arith) ∙ ready.halved.share

    abbrev Gone : Type 0
    Gone = ComesByWay core image places nestings i op (Split IfElse) setting t (split_goes_on IfElse (nestings.levels i)) (λ q. None) highest 0 size m p

    abbrev memory : Memory
    memory = memory_by IfElse op.depth ready.hart

    abbrev saved : ℕ
    saved =
        saved_at_word core image bound places nestings i op IfElse split.place split.parts setting space 2 is_space cycle0 first m0 p came.enters came.member came.divides ready.front two_parts_label 11 steps (word p)
        ready.halved.placed m.hart ended local same

    -- the words of a part lie in the space of its group
    part_within : (j : ℕ) → j < 2 → word_at space first 2 (Some j) + equal_part space 2 ≤ 2 ^ 20
    part_within zero lt =
        let ordered = is_space.ordered in
        let within = is_space.within in
        let top = is_space.shared in
        omega arith
    part_within (suc zero) lt =
        let ordered = is_space.ordered in
        let within = is_space.within in
        let top = is_space.shared in
        omega arith
    part_within (suc (suc j)) lt = absurd (omega arith)

    word_within : (j : ℕ) → part_of IfElse p ≡ Some j → word p + equal_part space 2 ≤ 2 ^ 20
    word_within j e = subst (λ x. word_at space first 2 x + equal_part space 2 ≤ 2 ^ 20) (sym e) (part_within j (subst (Within 2) e (are.within p tt)))

    -- where the blocks of the part begin
    blocks_are : (j : ℕ) → part_of IfElse p ≡ Some j → (found : ℕ) → found ≡ control_address (word p) → word_sum found (m.hart.registers t4) ≡ control_address (word p + equal_part space 2)
    blocks_are j e found is =
        let within = word_within j e in
        let share = share_is in
        omega arith

    -- one that enters the first part
    first_case : part_of IfElse p ≡ Some 0 → Gone
    first_case e =
        let place = split.place in
        let target = places.block (suc i) in
        let at_word : word p ≡ word_at space first 2 (Some 0) = ap (word_at space first 2) e in
        let part_in = word_within 0 e in
        let within : word p + 8 ≤ 2 ^ 20 = omega arith in
        let behind =
        is_behind core image bound places nestings i op IfElse place split.parts setting space 2 is_space cycle0 first m0 p came.enters came.member came.divides ready.front two_parts_label 11 steps (word p)
        ready.halved.placed m.hart ended local same (size p) (counted.sum ∙ sum) small within in
        let hart = first_hart image bound places split.parts t m.number link op.target target op.site holds place.block.labels ready.front.back ready.front.next ready.hart m.hart memory saved (word p) (size p) behind linked nought in
        let runs = first_runs image bound places split.parts t m.number link op.target target op.site holds place.block.labels ready.front.back ready.front.next ready.hart m.hart memory saved (word p) (size p) behind linked nought pc
        (flag_is ∙ flag_of_part (last (values p.runner.has) == 0) 0 e) in
        let level = both_has image bound places split.parts t m.number link op.target target op.site holds place.block.labels ready.front.back ready.front.next ready.hart m.hart memory saved (word p) (size p) behind linked nought in
        let hb = walk (told_of t m.number) (saving saved) m.hart in
        let entered =
        has_entered core image bound places nestings i op IfElse place refl setting space 2 cycle0 first m0 p came.enters came.member came.divides (suc i) (place.fits.goes_on true) place.stay.opens split.room
        place.stay.left 0 (size p) (word p) hb hart level at_word live refl refl (λ r ne. rw (ne_eqb r 13 ne)) (blocks_are 0 e (m.hart.registers t1) behind.word_is) in
        let goes =
        enters_part core image bound places nestings i op IfElse place setting cycle0 first m0 p came.enters came.member came.divides.group (suc i) (place.fits.goes_on true) place.stay.opens split.room
        (part_level IfElse p.runner.has (size p) 0) hart entered in
        comes_with core image places nestings i op IfElse setting t highest size m p hart (Some 0) true 10 e refl refl runs goes

    -- one that enters the second part
    second_case : part_of IfElse p ≡ Some 1 → Gone
    second_case e =
        let place = split.place in
        let target = places.block (suc i) in
        let at_word : word p ≡ word_at space first 2 (Some 1) = ap (word_at space first 2) e in
        let part_in = word_within 1 e in
        let within : word p + 8 ≤ 2 ^ 20 = omega arith in
        let behind =
        is_behind core image bound places nestings i op IfElse place split.parts setting space 2 is_space cycle0 first m0 p came.enters came.member came.divides ready.front two_parts_label 11 steps (word p)
        ready.halved.placed m.hart ended local same (size p) (counted.sum ∙ sum) small within in
        let hart = second_hart image bound places split.parts t m.number link op.target target op.site holds place.block.labels ready.front.back ready.front.next ready.hart m.hart memory saved (word p) (size p) behind linked nought in
        let runs = second_runs image bound places split.parts t m.number link op.target target op.site holds place.block.labels ready.front.back ready.front.next ready.hart m.hart memory saved (word p) (size p) behind linked nought pc
        (flag_is ∙ flag_of_part (last (values p.runner.has) == 0) 1 e) in
        let level = both_has image bound places split.parts t m.number link op.target target op.site holds place.block.labels ready.front.back ready.front.next ready.hart m.hart memory saved (word p) (size p) behind linked nought in
        let hb = walk (told_of t m.number) (saving saved) m.hart in
        let flows = place.fits.goes_on false in
        let opens = split.aside.0.opens in
        let room = split.aside.1 in
        let entered =
        has_entered core image bound places nestings i op IfElse place refl setting space 2 cycle0 first m0 p came.enters came.member came.divides op.target flows opens room
        split.aside.0.left 1 (size p) (word p) hb hart level at_word live (ap (λ k. 4 * k) (place.block.labels.blocks op.target)) refl (λ r ne. rw (ne_eqb r 13 ne)) (blocks_are 1 e (m.hart.registers t1) behind.word_is) in
        let goes =
        enters_part core image bound places nestings i op IfElse place setting cycle0 first m0 p came.enters came.member came.divides.group op.target flows opens room
        (part_level IfElse p.runner.has (size p) 1) hart entered in
        comes_with core image places nestings i op IfElse setting t highest size m p hart (Some 1) false 11 e refl refl runs goes

    -- by the part
    pub two_comes : (o : Option ℕ) → part_of IfElse p ≡ o → Gone
    two_comes None e = absurd (none_waits (last (values p.runner.has) == 0) e)
    two_comes (Some zero) e = first_case e
    two_comes (Some (suc zero)) e = second_case e
    two_comes (Some (suc (suc j))) e =
        let inside : suc (suc j) < 2 = subst (Within 2) e (are.within p tt) in
        absurd (omega arith)

  -- ---- all of them

  pub came_all : (ms : List Member) (ps : List Owner) → AllEnter core image places nestings i op (Split IfElse) setting cycle0 None first ms ps → AllAreToDivide nestings IfElse space 2 ps → Both Came ms ps
  came_all [] [] all divide = tt
  came_all (m ∷ ms) (p ∷ ps) all divide = (record { enters = all.0; member = all.1; divides = divide.0 }, came_all ms ps all.2 divide.1)
  came_all ms ps all divide = absurd (assumption all)

  counts : LinesAt image bound (bound two_parts_label + 11) (counting_lines t0)
  counts =
      let rest = saving_lines ++ into_two_parts in
      let a = lines_split image bound (bound two_parts_label) two_parts_place (counting_lines t0 ++ rest) split.parts.two in
      (lines_split image bound (bound two_parts_label + 11) (counting_lines t0) rest a.1).0

  due_here : has_parts space 2 ≡ true → (v : Memory) (m : Member) (p : Owner) → Counted v m p → (has_room (Split IfElse) p.runner.has ≡ true) × (p.runner.left.at ≡ i)
  due_here room v m p counted =
      let came = counted.near.ready.came in (
        ap (λ (s : Space). has_parts s (parts_of IfElse p)) came.divides.space_is ∙ ap (has_parts space) came.divides.count_is ∙ room,
        came.enters.index,
      )

  -- each is in a part
  sized_by : (ps : List Owner) (summed : Memory) (p : Owner) (o : Option ℕ) → part_of IfElse p ≡ o
      → ((j : ℕ) → part_of IfElse p ≡ Some j → summed (word p) ≡ size_behind (Split IfElse) ps p) → summed (word p) ≡ size_behind (Split IfElse) ps p
  sized_by ps summed p None e sum = absurd (none_waits (last (values p.runner.has) == 0) e)
  sized_by ps summed p (Some j) e sum = sum j e

  comes_by : (t : MachineSetting) → Holds image t → (ps : List Owner) → (summed : Memory) (m : Member) (p : Owner) → Counted summed m p
      → m.hart.pc ≡ 4 * suc (suc (suc (suc (suc (bound two_parts_label + 11))))) → ((j : ℕ) → part_of IfElse p ≡ Some j → summed (word p) ≡ size_behind (Split IfElse) ps p)
      → size_behind (Split IfElse) ps p < 2 ^ 32
      → ComesByWay core image places nestings i op (Split IfElse) setting t (split_goes_on IfElse (nestings.levels i)) (λ q. None) (highest_value ps) 0 (λ q. size_behind (Split IfElse) ps q) m p
  comes_by t holds ps summed m p counted pc sum small =
      two_comes t holds (highest_value ps) (λ q. size_behind (Split IfElse) ps q) summed m p counted (omega arith) (sized_by ps summed p (part_of IfElse p) refl sum) small (part_of IfElse p) refl

  pub two_divide : has_parts space 2 ≡ true → (t : MachineSetting) → Holds image cycle0 → Holds image t → (ps : List Owner) → length ps ≤ 1024 → (own : Memory) → IsAtRest first own → (ms : List Member)
      → Both Came ms ps → Together (core_source core setting) image mine cycle0 1 (steps + 4) ms ps own
      (λ ms' ds own'. (ds ≡ map (is_due core i op (Split IfElse)) ps) × Divided core image places nestings i op IfElse setting t first ps ms' own')
  two_divide room t holds holds_later ps few own rest ms all =
      come_and_count core image bound setting mine 5 other word one_each Ready to_count (bound two_parts_label + 11) counts ps (map (is_due core i op (Split IfElse)) ps) owns.apart
      (Divided core image places nestings i op IfElse setting t first ps) cycle0 steps holds
      (λ v ms' counted. all_due core setting i op (Split IfElse) (Counted v) ms' ps split.place.stands refl (due_here room v) counted)
      own
      (λ own1 own2 summed own' ms' one two sum cleared stand counted.
      all_divided core image places nestings i op IfElse setting t first ps Each space 2 one_each are few (suc (suc (suc (suc (suc (bound two_parts_label + 11)))))) Counted
      (λ v m p c. tt) (λ v m p c. c.near.ready.came.divides) (λ v m p c. c.near.ready.came.member.words) (comes_by t holds_later ps)
      own own1 own2 summed own' one two sum cleared ms' stand counted rest)
      ms (each_so Came (Comes image cycle0 steps (bound two_parts_label + 11) Ready) ms ps comes all)
