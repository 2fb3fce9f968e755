-- The members of a group that divides into one part.
use Rattle.std.proofs.Common.{◌≡◌, ◌≢◌, ℕ, zero, suc, ◌+◌, ◌-◌, ◌*◌, ◌^◌, ◌<◌, ◌≤◌, List, [], ◌∷◌, ◌++◌, length, map, true, false, Option, Some, None, sym, ap, subst, ◌∙◌, arith, refl}
use Rattle.fk_num.specs.Word.{Memory}
use Rattle.fk_space.specs.Space.{Space, IsSpace, free, equal_part}
use Rattle.fk_meaning_operation.specs.declared.operation.SplitKind.{SplitKind}
use Rattle.fk_meaning_operation.specs.declared.operation.SplitKind.TheVariants.{IfAlone, IfElse, AndThen, OrElse, Loop, Fork}
use Rattle.fk_meaning_operation.specs.declared.operation.Operation.TheVariants.{Split}
use Rattle.fk_meaning.specs.Processor.{Setting, values}
use Rattle.fk_meaning.specs.Group.{taken_by, part_level, has_parts, has_room}
use Rattle.fk_core.specs.declared.op.CoreOp.{CoreOp}
use Rattle.fk_image.specs.declared.Image.{Image}
use Rattle.fk_machine.specs.Hart.{Hart, Setting as MachineSetting}
use Rattle.fk_sim_nodes.specs.Node.{Member, Words}
use Rattle.fk_sim_nodes.specs.Alone.{Holds}
use Rattle.fk_sim_nodes.specs.Together.{Together}
use Rattle.fk_sim_block.specs.Owner.{Owner, core_source}
use Rattle.fk_sim_block.specs.Stands.{Places, zero_register}
use Rattle.fk_sim_block.specs.Block.{Enters}
use Rattle.fk_sim_block.specs.Node.{Nestings, OwnsHeader, OwnsSpace, IsAtRest, KnowsSpace, control_address}
use Rattle.fk_sim_block.specs.Lockstep.{IsMember, AllEnter, ComesByWay, LevelsStay, highest_value, is_due}
use Rattle.fk_sim_block.specs.Parts.{IsToDivide, AllAreToDivide, part_of, parts_of, size_behind}
use Rattle.fk_gen.specs.Registers.{t3, ra}
use Rattle.fk_gen.specs.InPlace.{LinesAt}
use Rattle.fk_gen.proofs.Walk.{lines_split}
use Rattle.fk_gen_group.specs.Splits.{part_lines, parts_label, one_part_label, one_part_place, counting_lines, waiting_lines, saving_lines, into_one_part, split_goes_on}
use Rattle.fk_gen_group.specs.Laws.{IsSplitInPlace, GoesAside}
use Rattle.fk_gen_group.proofs.Members.{Both, each_so, all_due}
use Rattle.fk_gen_group.proofs.Fronts.{is_implicit, plain_of, Fronted, fronted, flag_by, link_at, memory_by}
use Rattle.fk_gen_group.proofs.Counting.{IsToCount, Knows}
use Rattle.fk_gen_group.proofs.Counted.{Comes, come_and_count}
use Rattle.fk_gen_group.proofs.Parting.{IsPlaced, placed_one, one_word, enters_word, waits_word, enters_part, wait_hart, wait_runs, one_hart, one_runs, one_has}
use Rattle.fk_gen_group.proofs.PartSizes.{AreCounted, Each, Within, word_at}
use Rattle.fk_gen_group.proofs.Committed.{live_at, flag_at, link_is, others_at, nought_at, local_at, saved_at_word, is_behind, waits, waits_in, has_entered, none_enters, first_enters, goes_in, goes_by, comes_with}
use Rattle.fk_gen_group.proofs.Divided.{Divided, all_divided}

-- the levels stay where members wait
aside_stays : (by : SplitKind) (places : Places) (nestings : Nestings) (i target values : ℕ) → parts_label by ≡ one_part_label → GoesAside by places nestings i target values
    → LevelsStay nestings i target
aside_stays IfAlone places nestings i target values label aside = aside
aside_stays AndThen places nestings i target values label aside = aside
aside_stays OrElse places nestings i target values label aside = aside
aside_stays Loop places nestings i target values label aside = aside
aside_stays Fork places nestings i target values label aside = aside
aside_stays IfElse places nestings i target values label aside = absurd (omega arith)

module _ (core : List CoreOp) (image : Image) (bound : ℕ → ℕ) (places : Places) (nestings : Nestings) (i : ℕ) (op : CoreOp) (by : SplitKind)
    (split : IsSplitInPlace core image bound places nestings i op by) (implicit : is_implicit by ≡ true) (label : parts_label by ≡ one_part_label)
    (setting : Setting) (space : Space) (is_space : IsSpace space) (many : 20 ≤ free space) (cycle0 : MachineSetting) (mine : Words) (first : ℕ)
    (owns : OwnsHeader mine first) (all_own : OwnsSpace mine space)
    (are : AreCounted Each by space first 1 (λ p. flag_by by (values p.runner.has))) where
  abbrev pub flag : Owner → ℕ
  flag p = flag_by by (values p.runner.has)

  abbrev pub word : Owner → ℕ
  word p = word_at space first 1 (part_of by p)

  pub record Came (m : Member) (p : Owner) : Type 0 where
    pub enters : Enters core image places setting cycle0 i op (Split by) p m.hart
    pub member : IsMember places nestings setting None first m p
    pub divides : IsToDivide nestings by space 1 p

  abbrev pub steps : ℕ
  steps = length (part_lines by op.depth) + 2 + 6

  abbrev pub FrontOf : (m : Member) (p : Owner) → Came m p → Type 0
  FrontOf m p came = Fronted core image bound places nestings i op by split.place setting cycle0 m p came.enters

  abbrev pub PlacedOf : (m : Member) (p : Owner) (came : Came m p) → FrontOf m p came → Type 0
  PlacedOf m p came front =
      IsPlaced core image bound places nestings i op by split.place split.parts setting space 1 is_space cycle0 first m p came.enters came.member came.divides front one_part_label 7 steps (word p)

  -- a member at the lines that count
  pub record Ready (m : Member) (p : Owner) : Type 0 where
    pub hart : Hart
    pub came : Came (record m { hart = hart }) p
    pub front : FrontOf (record m { hart = hart }) p came
    pub placed : PlacedOf (record m { hart = hart }) p came front
    pub is : m.hart ≡ placed.hart

  abbrev word_by : (m : Member) (p : Owner) (came : Came m p) → FrontOf m p came → ℕ → ℕ
  word_by m p came front = one_word core image bound places nestings i op by split.place split.parts setting space 1 is_space cycle0 first m p came.enters came.member came.divides front

  -- the word is by who enters
  word_of : (m : Member) (p : Owner) (came : Came m p) (front : FrontOf m p came) (o : Option ℕ) → part_of by p ≡ o → word_by m p came front (flag p) ≡ control_address (word p)
  word_of m p came front None e =
      ap (word_by m p came front) (are.none p tt e)
      ∙ waits_word core image bound places nestings i op by split.place split.parts setting space 1 is_space cycle0 first m p came.enters came.member came.divides front
      ∙ ap (λ x. control_address (word_at space first 1 x)) (sym e)
  word_of m p came front (Some zero) e =
      let start : space.frames + 4 ≡ word_at space first 1 (Some 0) = omega arith in
      ap (word_by m p came front) (are.one p 0 tt e)
      ∙ enters_word core image bound places nestings i op by split.place split.parts setting space 1 is_space cycle0 first m p came.enters came.member came.divides front
      ∙ ap control_address start ∙ ap (λ x. control_address (word_at space first 1 x)) (sym e)
  word_of m p came front (Some (suc j)) e =
      let inside : suc j < 1 = subst (Within 1) e (are.within p tt) in
      absurd (omega arith)

  pub comes : (m : Member) (p : Owner) → Came m p → Comes image cycle0 steps (bound one_part_label + 7) Ready m p
  comes m p came =
      let front = fronted core image bound places nestings i op by split.place setting cycle0 m p came.enters implicit in
      let placed = placed_one core image bound places nestings i op by split.place split.parts setting space 1 is_space cycle0 first m p came.enters came.member came.divides front
      (flag p) (word p) label many front.flag (word_of m p came front (part_of by p) refl) in
      record {
        hart = placed.hart;
        runs = placed.runs;
        at = placed.at;
        live = placed.live;
        ready = record { hart = m.hart; came = came; front = front; placed = placed; is = refl };
      }

  -- the node of each has its word
  within_by : (o : Option ℕ) → Within 1 o → word_at space first 1 o + 8 ≤ 2 ^ 20 + 64
  within_by None inside = owns.within
  within_by (Some zero) inside =
      let ordered = is_space.ordered in
      let within = is_space.within in
      let top = is_space.shared in
      omega arith
  within_by (Some (suc j)) inside = absurd (omega arith)

  own_by : (o : Option ℕ) → Within 1 o → (offset : ℕ) → offset < 8 → mine (word_at space first 1 o + offset) ≡ true
  own_by None inside offset lt = owns.own offset lt
  own_by (Some zero) inside offset lt =
      let header = is_space.header in
      let ordered = is_space.ordered in
      let within = is_space.within in
      all_own.own (word_at space first 1 (Some 0) + offset) (omega arith) (omega arith)
  own_by (Some (suc j)) inside offset lt = absurd (omega arith)

  pub to_count : (m : Member) (p : Owner) → Ready m p → IsToCount mine 6 28 word flag m p
  to_count m p r =
      let placed = r.placed in
      let front = r.front in
      subst (λ h. IsToCount mine 6 28 word flag (record m { hart = h }) p) (sym r.is)
      (record {
        address = placed.word_is;
        within = within_by (part_of by p) (are.within p tt);
        own = own_by (part_of by p) (are.within p tt);
        value = placed.others 28 (λ e. omega arith) (λ e. omega arith) (λ e. omega arith) ∙ front.flag;
        nought =
            placed.others 0 (λ e. omega arith) (λ e. omega arith) (λ e. omega arith)
            ∙ front.others 0 (λ e. omega arith) (λ e. omega arith) (λ e. omega arith) (λ e. omega arith) ∙ r.came.enters.at.stands.nought;
      })

  pub other : ◌≢◌ {A = ℕ} 6 5
  other e = omega arith

  abbrev pub Counted : Memory → Member → Owner → Type 0
  Counted v m p = Knows image mine 6 28 other word flag Ready to_count v m p

  -- ---- behind the commit

  stays : GoesAside by places nestings i op.target (op.depth - taken_by by) → LevelsStay nestings i op.target
  stays = aside_stays by places nestings i op.target (op.depth - taken_by by) label

  module _ (t : MachineSetting) (holds : Holds image t) (highest : ℕ) (size : Owner → ℕ) (summed : Memory) (m : Member) (p : Owner) (counted : Counted summed m p)
      (pc : m.hart.pc ≡ 4 * (bound one_part_label + 7 + 5)) where
    abbrev ready : Ready (record m { hart = counted.near.hart }) p
    ready = counted.near.ready

    abbrev m0 : Member
    m0 = record m { hart = ready.hart }

    abbrev came : Came m0 p
    came = ready.came

    ended : m.hart.ended ≡ ready.placed.hart.ended
    ended = counted.near.live ∙ ap (λ (h : Hart). h.ended) ready.is

    local : m.hart.local ≡ ready.placed.hart.local
    local = counted.near.local ∙ ap (λ (h : Hart). h.local) ready.is

    same : (r : ℕ) → r ≢ 5 → m.hart.registers r ≡ ready.placed.hart.registers r
    same r ne = counted.near.others r ne ∙ ap (λ (h : Hart). h.registers r) ready.is

    live : m.hart.ended ≡ false
    live =
        live_at core image bound places nestings i op by split.place split.parts setting space 1 is_space cycle0 first m0 p came.enters came.member came.divides ready.front one_part_label 7 steps (word p)
        ready.placed m.hart ended local same

    flag_is : m.hart.registers t3 ≡ flag p
    flag_is =
        flag_at core image bound places nestings i op by split.place split.parts setting space 1 is_space cycle0 first m0 p came.enters came.member came.divides ready.front one_part_label 7 steps (word p)
        ready.placed m.hart ended local same

    abbrev link : ℕ
    link = link_at core image bound places nestings i op by split.place setting cycle0 m0 p came.enters

    linked : m.hart.registers ra ≡ 4 * link
    linked =
        link_is core image bound places nestings i op by split.place split.parts setting space 1 is_space cycle0 first m0 p came.enters came.member came.divides ready.front one_part_label 7 steps (word p)
        ready.placed m.hart ended local same

    nought : m.hart.registers zero_register ≡ 0
    nought =
        nought_at core image bound places nestings i op by split.place split.parts setting space 1 is_space cycle0 first m0 p came.enters came.member came.divides ready.front one_part_label 7 steps (word p)
        ready.placed m.hart ended local same

    abbrev Gone : Type 0
    Gone = ComesByWay core image places nestings i op (Split by) setting t (split_goes_on by (nestings.levels i)) (λ q. None) highest 0 size m p

    -- one that waits
    wait_case : part_of by p ≡ None → Gone
    wait_case e =
        let hart = wait_hart image bound places split.parts t m.number link op.target op.site holds split.place.block.labels ready.front.back m.hart live linked nought in
        let flag0 = flag_is ∙ are.none p tt e in
        let runs = wait_runs image bound places split.parts t m.number link op.target op.site holds split.place.block.labels ready.front.back m.hart live linked nought pc flag0 in
        let flows = split.place.fits.goes_on false in
        let memory = waits_in core image bound places nestings i op setting cycle0 m0 p by split.place implicit label flows came.enters e in
        let goes = waits core image bound places nestings i op by split.place flows (stays split.aside) setting cycle0 first m0 p came.enters came.member memory hart live
        (local_at core image bound places nestings i op by split.place split.parts setting space 1 is_space cycle0 first m0 p came.enters came.member came.divides ready.front one_part_label 7 steps (word p)
        ready.placed m.hart ended local same)
        (λ r a b c d f g x y. others_at core image bound places nestings i op by split.place split.parts setting space 1 is_space cycle0 first m0 p came.enters came.member came.divides ready.front one_part_label 7 steps (word p)
        ready.placed m.hart ended local same r a b c d f g)
        (ap (λ k. 4 * k) (split.place.block.labels.blocks op.target)) in
        comes_with core image places nestings i op by setting t highest size m p hart None false 3 e (none_enters by) (goes_by by (nestings.levels i) label) runs goes

    -- one that enters the part
    enter_case : part_of by p ≡ Some 0 → summed (word p) ≡ size p → size p < 2 ^ 32 → Gone
    enter_case e sum small =
        let place = split.place in
        let target = places.block (suc i) in
        let memory = memory_by by op.depth ready.hart in
        let at_word : word p ≡ word_at space first 1 (Some 0) = ap (word_at space first 1) e in
        let header = is_space.header in
        let ordered = is_space.ordered in
        let inside = is_space.within in
        let top = is_space.shared in
        let within : word p + 8 ≤ 2 ^ 20 = omega arith in
        let behind =
        is_behind core image bound places nestings i op by place split.parts setting space 1 is_space cycle0 first m0 p came.enters came.member came.divides ready.front one_part_label 7 steps (word p)
        ready.placed m.hart ended local same (size p) (counted.sum ∙ sum) small within in
        let saved =
        saved_at_word core image bound places nestings i op by place split.parts setting space 1 is_space cycle0 first m0 p came.enters came.member came.divides ready.front one_part_label 7 steps (word p)
        ready.placed m.hart ended local same in
        let flag1 = flag_is ∙ are.one p 0 tt e in
        let hart = one_hart image bound places split.parts t m.number link op.target target op.site holds place.block.labels ready.front.back ready.front.next ready.hart m.hart memory saved (word p) (size p) behind linked nought in
        let runs = one_runs image bound places split.parts t m.number link op.target target op.site holds place.block.labels ready.front.back ready.front.next ready.hart m.hart memory saved (word p) (size p) behind linked nought pc flag1 in
        let level = one_has image bound places split.parts t m.number link op.target target op.site holds place.block.labels ready.front.back ready.front.next ready.hart m.hart memory saved (word p) (size p) behind linked nought in
        let known = subst (λ o. KnowsSpace p.runner.has.level o ready.hart) came.divides.group.outer came.member.node.space in
        let ends : space.blocks ≡ word p + equal_part space 1 = omega arith in
        let blocks = level.blocks ∙ known.1 ∙ ap (λ (s : Space). control_address s.blocks) came.divides.space_is ∙ ap control_address ends in
        let entered =
        has_entered core image bound places nestings i op by place implicit setting space 1 cycle0 first m0 p came.enters came.member came.divides (suc i) (place.fits.goes_on true) place.stay.opens split.room
        (plain_of by (nestings.forks (suc i) (nestings.levels i)) implicit place.stay.left) 0 (size p) (word p) hart hart level at_word live refl refl (λ r ne. refl) blocks in
        let goes =
        enters_part core image bound places nestings i op by place setting cycle0 first m0 p came.enters came.member came.divides.group (suc i) (place.fits.goes_on true) place.stay.opens split.room
        (part_level by p.runner.has (size p) 0) hart entered in
        comes_with core image places nestings i op by setting t highest size m p hart (Some 0) true 9 e (first_enters by) (goes_in by (nestings.levels i) label) runs goes

    -- by the part
    pub one_comes : (o : Option ℕ) → part_of by p ≡ o → ((j : ℕ) → part_of by p ≡ Some j → summed (word p) ≡ size p) → size p < 2 ^ 32 → Gone
    one_comes None e sum small = wait_case e
    one_comes (Some zero) e sum small = enter_case e (sum 0 e) small
    one_comes (Some (suc j)) e sum small =
        let inside : suc j < 1 = subst (Within 1) e (are.within p tt) in
        absurd (omega arith)

  -- ---- all of them

  pub came_all : (ms : List Member) (ps : List Owner) → AllEnter core image places nestings i op (Split by) setting cycle0 None first ms ps → AllAreToDivide nestings by space 1 ps → Both Came ms ps
  came_all [] [] all divide = tt
  came_all (m ∷ ms) (p ∷ ps) all divide = (record { enters = all.0; member = all.1; divides = divide.0 }, came_all ms ps all.2 divide.1)
  came_all ms ps all divide = absurd (assumption all)

  counts : LinesAt image bound (bound one_part_label + 7) (counting_lines t3)
  counts =
      let rest = waiting_lines ++ (saving_lines ++ into_one_part) in
      let a = lines_split image bound (bound one_part_label) one_part_place (counting_lines t3 ++ rest) split.parts.one in
      (lines_split image bound (bound one_part_label + 7) (counting_lines t3) rest a.1).0

  due_here : has_parts space 1 ≡ true → (v : Memory) (m : Member) (p : Owner) → Counted v m p → (has_room (Split by) p.runner.has ≡ true) × (p.runner.left.at ≡ i)
  due_here room v m p counted =
      let came = counted.near.ready.came in (
        ap (λ (s : Space). has_parts s (parts_of by p)) came.divides.space_is ∙ ap (has_parts space) came.divides.count_is ∙ room,
        came.enters.index,
      )

  comes_by : (t : MachineSetting) → Holds image t → (ps : List Owner) → (summed : Memory) (m : Member) (p : Owner) → Counted summed m p
      → m.hart.pc ≡ 4 * suc (suc (suc (suc (suc (bound one_part_label + 7))))) → ((j : ℕ) → part_of by p ≡ Some j → summed (word p) ≡ size_behind (Split by) ps p) → size_behind (Split by) ps p < 2 ^ 32
      → ComesByWay core image places nestings i op (Split by) setting t (split_goes_on by (nestings.levels i)) (λ q. None) (highest_value ps) 0 (λ q. size_behind (Split by) ps q) m p
  comes_by t holds ps summed m p counted pc sum small =
      one_comes t holds (highest_value ps) (λ q. size_behind (Split by) ps q) summed m p counted (omega arith) (part_of by p) refl sum small

  pub one_divides : has_parts space 1 ≡ true → (t : MachineSetting) → Holds image cycle0 → Holds image t → (ps : List Owner) → length ps ≤ 1024 → (own : Memory) → IsAtRest first own → (ms : List Member)
      → Both Came ms ps → Together (core_source core setting) image mine cycle0 1 (steps + 4) ms ps own
      (λ ms' ds own'. (ds ≡ map (is_due core i op (Split by)) ps) × Divided core image places nestings i op by setting t first ps ms' own')
  one_divides room t holds holds_later ps few own rest ms all =
      come_and_count core image bound setting mine 28 other word flag Ready to_count (bound one_part_label + 7) counts ps (map (is_due core i op (Split by)) ps) owns.apart
      (Divided core image places nestings i op by setting t first ps) cycle0 steps holds
      (λ v ms' counted. all_due core setting i op (Split by) (Counted v) ms' ps split.place.stands refl (due_here room v) counted)
      own
      (λ own1 own2 summed own' ms' one two sum cleared stand counted.
      all_divided core image places nestings i op by setting t first ps Each space 1 flag are few (suc (suc (suc (suc (suc (bound one_part_label + 7)))))) Counted
      (λ v m p c. tt) (λ v m p c. c.near.ready.came.divides) (λ v m p c. c.near.ready.came.member.words) (comes_by t holds_later ps)
      own own1 own2 summed own' one two sum cleared ms' stand counted rest)
      ms (each_so Came (Comes image cycle0 steps (bound one_part_label + 7) Ready) ms ps comes all)
