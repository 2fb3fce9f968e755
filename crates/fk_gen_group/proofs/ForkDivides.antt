-- A group divides by a `fork`.
use Rattle.std.proofs.Common.{◌≡◌, ◌≢◌, ℕ, zero, suc, ◌+◌, ◌-◌, ◌*◌, ◌^◌, ◌<◌, ◌≤◌, List, [], ◌∷◌, ◌++◌, length, map, true, false, Option, Some, None, sym, ap, subst, ◌∙◌, arith, refl}
use Rattle.std.specs.Prelude.{◌==◌, All, if◌then◌else◌}
use Rattle.std.proofs.lemmas.Bool.{ne_eqb}
use Rattle.std.proofs.lemmas.List.Elements.{All-head}
use Rattle.fk_num.specs.Word.{Memory, put, word_sum}
use Rattle.fk_space.specs.Space.{Space, IsSpace, equal_part}
use Rattle.fk_meaning_operation.specs.declared.operation.SplitKind.TheVariants.{Fork}
use Rattle.fk_meaning_operation.specs.declared.operation.Operation.TheVariants.{Split}
use Rattle.fk_meaning.specs.Processor.{Setting, Level, values, last, before}
use Rattle.fk_meaning.specs.Group.{part_level, has_parts, has_room}
use Rattle.fk_core.specs.declared.op.CoreOp.{CoreOp}
use Rattle.fk_image.specs.declared.Image.{Image}
use Rattle.fk_machine.specs.Hart.{Hart, Setting as MachineSetting}
use Rattle.fk_sim_nodes.specs.Node.{Member, Words}
use Rattle.fk_sim_nodes.specs.Alone.{Holds, in_cycles}
use Rattle.fk_sim_nodes.specs.Together.{Together}
use Rattle.fk_sim_block.specs.Owner.{Owner, core_source}
use Rattle.fk_sim_block.specs.Stands.{Places, value_in, frame_end, frame_start, local_address, zero_register, end_register, rank_register, group_frame_register}
use Rattle.fk_sim_block.specs.Block.{Enters}
use Rattle.fk_sim_block.specs.Node.{Nestings, OwnsHeader, OwnsSpace, IsAtRest, KnowsSpace, HasLevelBy, HasFramesEnd, first_word, frames_word, control_address, node_register, frames_register, blocks_register}
use Rattle.fk_sim_block.specs.Lockstep.{IsMember, AllEnter, ComesByWay, highest_value, is_due}
use Rattle.fk_sim_block.specs.Parts.{IsToDivide, HasFrameWords, AllAreToDivide, part_of, parts_of, size_behind}
use Rattle.fk_gen.specs.Registers.{ra, t3}
use Rattle.fk_gen.specs.Lines.{at_value}
use Rattle.fk_gen.specs.InPlace.{LinesAt}
use Rattle.fk_gen.proofs.Values.{same_word, other_word, values_before, value_place}
use Rattle.fk_gen.proofs.Walk.{lines_split, runs_join}
use Rattle.fk_gen.proofs.Does.{holds_in_cycles}
use Rattle.fk_gen.proofs.Standing.{in_memory, nothing_written}
use Rattle.fk_gen_group.specs.Splits.{fork_label, fork_room, fork_place, counting_lines, waiting_lines, fork_saving, into_one_part, heading_by, split_goes_on}
use Rattle.fk_gen_group.specs.Laws.{IsInPlace, IsSplitInPlace, LeavesBy}
use Rattle.fk_gen_group.proofs.Last.{value_word}
use Rattle.fk_gen_group.proofs.Members.{Both, each_so, all_due}
use Rattle.fk_gen_group.proofs.Levels.{lies_below}
use Rattle.fk_gen_group.proofs.Slots.{slot_of, is_slot}
use Rattle.fk_gen_group.proofs.Counting.{IsToCount, Knows}
use Rattle.fk_gen_group.proofs.Counted.{Comes, come_and_count}
use Rattle.fk_gen_group.proofs.Parting.{HasEntered, IsWritten, has_kept, is_written, enters_part, saved_word, starts_in}
use Rattle.fk_gen_group.proofs.PartSizes.{AreCounted, Within, word_at}
use Rattle.fk_gen_group.proofs.Committed.{waits, comes_with, child_is}
use Rattle.fk_gen_group.proofs.Divided.{Divided, all_divided}
use Rattle.fk_gen_group.proofs.ForkSizes as sizes
use Rattle.fk_gen_group.proofs.ForkSizes.{entry, counted_fork, number_of_part, few_parts}
use Rattle.fk_gen_group.proofs.Forks as forks
use Rattle.fk_gen_group.proofs.Forks.{IsPlaced, fork_fronted, is_placed, fork_link}
use Rattle.fk_gen_group.proofs.ForkWays.{IsBehind, HasSavedFork, size_word, wait_hart, wait_runs, entering, entering_has, enter_runs, headed, heading_runs, no_heading}

module _ (core : List CoreOp) (image : Image) (bound : ℕ → ℕ) (places : Places) (nestings : Nestings) (i : ℕ) (op : CoreOp)
    (split : IsSplitInPlace core image bound places nestings i op Fork) (setting : Setting) (space : Space) (count : ℕ) (is_space : IsSpace space) (room : has_parts space count ≡ true)
    (cycle0 : MachineSetting) (mine : Words) (first : ℕ) (owns : OwnsHeader mine first) (all_own : OwnsSpace mine space) (low : first ≡ space.low) where
  abbrev word : Owner → ℕ
  word p = word_at space first count (part_of Fork p)

  abbrev Good : Owner → Type 0
  Good = sizes.HasParts count

  pub record Came (m : Member) (p : Owner) : Type 0 where
    pub enters : Enters core image places setting cycle0 i op (Split Fork) p m.hart
    pub member : IsMember places nestings setting None first m p
    pub divides : IsToDivide nestings Fork space count p

  abbrev FrontOf : (m : Member) (p : Owner) → Came m p → Type 0
  FrontOf m p came = forks.Fronted core image bound places nestings i op split.place setting cycle0 m p came.enters

  abbrev PlacedOf : (m : Member) (p : Owner) (came : Came m p) → FrontOf m p came → Type 0
  PlacedOf m p came front = IsPlaced core image bound places nestings i op split.place setting cycle0 m p came.enters split.parts space count is_space first came.member came.divides front room

  -- a member at the lines that count
  pub record Ready (m : Member) (p : Owner) : Type 0 where
    pub hart : Hart
    pub came : Came (record m { hart = hart }) p
    pub front : FrontOf (record m { hart = hart }) p came
    pub placed : PlacedOf (record m { hart = hart }) p came front
    pub is : m.hart ≡ placed.hart

  comes : (m : Member) (p : Owner) → Came m p → Comes image cycle0 23 (bound fork_label + 19) Ready m p
  comes m p came =
      let front = fork_fronted core image bound places nestings i op split.place setting cycle0 m p came.enters in
      let placed = is_placed core image bound places nestings i op split.place setting cycle0 m p came.enters split.parts space count is_space first came.member came.divides front room in
      record {
        hart = placed.hart;
        runs = placed.runs;
        at = placed.at;
        live = placed.live;
        ready = record { hart = m.hart; came = came; front = front; placed = placed; is = refl };
      }

  -- ---- the words at which they count

  are : AreCounted Good Fork space first count entry
  are = counted_fork space first count is_space low room

  within_of : (m : Member) (p : Owner) → Ready m p → Within count (part_of Fork p)
  within_of m p r = are.within p r.came.divides.count_is

  ends_of : (j : ℕ) → j < count → word_at space first count (Some j) + equal_part space count ≤ space.blocks
  ends_of j lt = sizes.ends_in space first count is_space low room j lt

  large_of : (j : ℕ) → j < count → 16 ≤ equal_part space count
  large_of j lt = (sizes.large space first count is_space low room j lt).0

  within_by : (o : Option ℕ) → Within count o → word_at space first count o + 8 ≤ 2 ^ 20 + 64
  within_by None inside = owns.within
  within_by (Some j) inside =
      let ends = ends_of j inside in
      let large = large_of j inside in
      let within = is_space.within in
      let top = is_space.shared in
      omega (arith, ends, large, within, top)

  own_by : (o : Option ℕ) → Within count o → (offset : ℕ) → offset < 8 → mine (word_at space first count o + offset) ≡ true
  own_by None inside offset lt = owns.own offset lt
  own_by (Some j) inside offset lt =
      let ends = ends_of j inside in
      let large = large_of j inside in
      let header = is_space.header in
      let within = is_space.within in
      all_own.own (word_at space first count (Some j) + offset) (omega (arith, header)) (omega (arith, ends, large, within, lt))

  to_count : (m : Member) (p : Owner) → Ready m p → IsToCount mine 6 28 word entry m p
  to_count m p r =
      subst (λ h. IsToCount mine 6 28 word entry (record m { hart = h }) p) (sym r.is)
      (record {
        address = r.placed.address;
        within = within_by (part_of Fork p) (within_of m p r);
        own = own_by (part_of Fork p) (within_of m p r);
        value = r.placed.flag;
        nought =
            r.placed.others 0 (λ e. omega arith) (λ e. omega arith) (λ e. omega arith) (λ e. omega arith)
            ∙ r.front.others 0 (λ e. omega arith) (λ e. omega arith) (λ e. omega arith) (λ e. omega arith) (λ e. omega arith) ∙ r.came.enters.at.stands.nought;
      })

  other : ◌≢◌ {A = ℕ} 6 5
  other e = omega arith

  abbrev Counted : Memory → Member → Owner → Type 0
  Counted v m p = Knows image mine 6 28 other word entry Ready to_count v m p

  -- ---- behind the commit

  module _ (t : MachineSetting) (holds : Holds image t) (highest : ℕ) (size : Owner → ℕ) (summed : Memory) (m : Member) (p : Owner) (counted : Counted summed m p)
      (pc : m.hart.pc ≡ 4 * (bound fork_label + 24)) where
    abbrev ready : Ready (record m { hart = counted.near.hart }) p
    ready = counted.near.ready

    abbrev m0 : Member
    m0 = record m { hart = ready.hart }

    abbrev came : Came m0 p
    came = ready.came

    abbrev h0 : Hart
    h0 = ready.hart

    abbrev n : ℕ
    n = length p.runner.has.callers

    live : m.hart.ended ≡ false
    live = counted.near.live ∙ ap (λ (h : Hart). h.ended) ready.is ∙ ready.placed.live

    local : m.hart.local ≡ h0.local
    local = counted.near.local ∙ ap (λ (h : Hart). h.local) ready.is ∙ ready.placed.local ∙ ready.front.local

    same : (r : ℕ) → r ≢ 5 → m.hart.registers r ≡ ready.placed.hart.registers r
    same r ne = counted.near.others r ne ∙ ap (λ (h : Hart). h.registers r) ready.is

    fronted : (r : ℕ) → r ≢ 5 → r ≢ 6 → r ≢ 28 → r ≢ 31 → m.hart.registers r ≡ ready.front.hart.registers r
    fronted r a b c d = same r a ∙ ready.placed.others r a b c d

    others : (r : ℕ) → r ≢ 1 → r ≢ 5 → r ≢ 6 → r ≢ 7 → r ≢ 28 → r ≢ 29 → r ≢ 30 → r ≢ 31 → m.hart.registers r ≡ h0.registers r
    others r a b c d e f g k = fronted r b c e k ∙ ready.front.others r a d e f g

    flag_is : m.hart.registers t3 ≡ entry p
    flag_is = same 28 (λ e. omega arith) ∙ ready.placed.flag

    abbrev link : ℕ
    link = fork_link core image bound places nestings i op split.place setting cycle0 m0 p came.enters

    linked : m.hart.registers ra ≡ 4 * link
    linked = fronted 1 (λ e. omega arith) (λ e. omega arith) (λ e. omega arith) (λ e. omega arith) ∙ ready.front.link

    nought : m.hart.registers zero_register ≡ 0
    nought = others 0 (λ e. omega arith) (λ e. omega arith) (λ e. omega arith) (λ e. omega arith) (λ e. omega arith) (λ e. omega arith) (λ e. omega arith) (λ e. omega arith) ∙ came.enters.at.stands.nought

    abbrev Gone : Type 0
    Gone = ComesByWay core image places nestings i op (Split Fork) setting t (split_goes_on Fork (nestings.levels i)) (λ q. None) highest 0 size m p

    -- one that waits
    wait_case : part_of Fork p ≡ None → Gone
    wait_case e =
        let hart = wait_hart image bound places split.parts t m.number link op.target op.site holds split.place.block.labels ready.front.back m.hart live linked nought in
        let flag0 = flag_is ∙ are.none p came.divides.count_is e in
        let runs = wait_runs image bound places split.parts t m.number link op.target op.site holds split.place.block.labels ready.front.back m.hart live linked nought pc flag0 in
        let place = split.place in
        let flows = place.fits.goes_on false in
        let held = values_before 3 (value_in h0 n) (values p.runner.has) came.enters.at.stands.running.values in
        let memory = nothing_written core places h0.local (h0.registers group_frame_register) p i op.target op.depth (before 3 (values p.runner.has)) place.few came.enters.ready.in_range.waiting came.enters.index
        place.fits.room flows (in_memory places p h0 came.enters.at.stands) held in
        let goes = waits core image bound places nestings i op Fork place flows split.aside setting cycle0 first m0 p came.enters came.member memory hart live local others
        (ap (λ k. 4 * k) (place.block.labels.blocks op.target)) in
        comes_with core image places nestings i op Fork setting t highest size m p hart None false 3 e refl refl runs goes

    -- one that enters a part
    module _ (j : ℕ) (is_in : part_of Fork p ≡ Some j) (sum : summed (word p) ≡ size p) (small : size p < 2 ^ 32) where
      abbrev place : IsInPlace core image bound places nestings i op (Split Fork)
      place = split.place

      inside : j < count
      inside = subst (λ c. j < c) came.divides.count_is (number_of_part p j is_in).1

      at_word : word p ≡ word_at space first count (Some j)
      at_word = ap (word_at space first count) is_in

      abbrev level : Level
      level = part_level Fork p.runner.has (size p) j

      abbrev saved : ℕ
      saved = saved_word core image bound places nestings i op Fork place setting cycle0 first m0 p came.enters came.member came.divides.group (suc i) (place.fits.goes_on true) place.stay.opens split.room

      known : (h0.registers frames_register ≡ control_address space.frames) × (h0.registers blocks_register ≡ control_address space.blocks)
      known =
          let k = subst (λ o. KnowsSpace p.runner.has.level o h0) came.divides.group.outer came.member.node.space in
          (k.0 ∙ ap (λ (s : Space). control_address s.frames) came.divides.space_is, k.1 ∙ ap (λ (s : Space). control_address s.blocks) came.divides.space_is)

      behind : IsBehind h0 m.hart saved (word_at space first count (Some j)) (size p) (equal_part space count) j (last (values p.runner.has))
      behind =
          let calls = came.enters.ready.in_range.waiting in
          let levels_room = place.levels.room in
          let level_word = nestings.behind i + 4 * nestings.levels i in
          let slot = is_slot places n level_word h0 place.few calls (omega arith) came.enters.at.stands.frame in
          let there : slot_of level_word h0 ≡ saved = slot.index ∙ sums (frame_start places n + 7) (nestings.behind i) (4 * nestings.levels i) in
          let at = fronted 7 (λ e. omega arith) (λ e. omega arith) (λ e. omega arith) (λ e. omega arith) ∙ ready.front.slot in
          let start = starts_few n calls in
          let ends = ends_of j inside in
          let large = large_of j inside in
          let within = is_space.within in
          let ordered = is_space.ordered in
          let top = is_space.shared in
          let few = few_parts space count is_space room in
          let number = number_of_part p j is_in in
          record {
            live = live;
            slot = at ∙ slot.address ∙ ap local_address there;
            inside = omega (arith, start, levels_room);
            word_is = same 6 (λ e. omega arith) ∙ ready.placed.address ∙ ap control_address at_word;
            within = omega (arith, ends, within, top);
            some = omega (arith, large);
            size_is = counted.sum ∙ sum;
            small = small;
            share_is = same 31 (λ e. omega arith) ∙ ready.placed.share j inside;
            part = fronted 29 (λ e. omega arith) (λ e. omega arith) (λ e. omega arith) (λ e. omega arith) ∙ ready.front.part ∙ number.0;
            few = omega (arith, inside, few);
            rank_is = fronted 30 (λ e. omega arith) (λ e. omega arith) (λ e. omega arith) (λ e. omega arith) ∙ ready.front.rank;
            word_rank = last_is_word (values p.runner.has) came.enters.ready.in_range.values;
            ends = space.frames;
            frames_is = known.0;
            ends_in = omega (arith, ordered, within, top);
            local = local;
            others = others;
          }
        where
          starts_few : (n : ℕ) → n < 256 → frame_start places n ≤ 16384
          starts_few zero lt = let few = place.few in omega arith
          starts_few (suc n) lt = omega arith

          sums : (a b c : ℕ) → a + (b + c) ≡ a + b + c
          sums a b c = omega arith

          last_is_word : (vs : List ℕ) → All (λ v. v < 2 ^ 32) vs → last vs < 2 ^ 32
          last_is_word [] all = omega arith
          last_is_word (v ∷ vs) all = All-head (λ v. v < 2 ^ 32) v vs all

      abbrev gate : Hart
      gate = entering image bound places split.parts t m.number link op.target op.site holds place.block.labels ready.front.back m.hart live linked nought h0 saved (word_at space first count (Some j)) (size p) (equal_part space count) j
          (last (values p.runner.has)) behind

      has : HasSavedFork h0 gate saved (word_at space first count (Some j)) (size p) (equal_part space count) j (last (values p.runner.has))
      has = entering_has image bound places split.parts t m.number link op.target op.site holds place.block.labels ready.front.back m.hart live linked nought h0 saved (word_at space first count (Some j)) (size p) (equal_part space count) j
          (last (values p.runner.has)) behind

      header_is : (value_word 60 gate < 32768) × (word_sum (gate.registers end_register) (at_value 60) ≡ local_address (value_word 60 gate)) × (value_word 60 gate ≡ frames_word n)
      header_is =
          let calls = came.enters.ready.in_range.waiting in
          let e = has.others 9 (λ e. omega arith) (λ e. omega arith) (λ e. omega arith) (λ e. omega arith) (λ e. omega arith) (λ e. omega arith) (λ e. omega arith) (λ e. omega arith) (λ e. omega arith) (λ e. omega arith) (λ e. omega arith) (λ e. omega arith) (λ e. omega arith) (λ e. omega arith) in
          let at = value_place (gate.registers end_register) n 60 (e ∙ came.enters.at.stands.behind) calls (omega arith) (omega arith) in
          let lt = at.0 in
          let address = at.1 in
          let index : value_word 60 gate ≡ frames_word n = omega arith in
          (omega arith, address ∙ ap local_address (sym index), index)

      abbrev hart : ℕ → Hart
      hart c = headed image bound (in_cycles 15 t) m.number (link + 4) n (holds_in_cycles image 15 t holds) gate has.live refl header_is.0 header_is.1 c

      -- what it has of the part
      same_hart : (c : ℕ) → ((hart c).ended ≡ false) × ((r : ℕ) → (hart c).registers r ≡ gate.registers r)
      same_hart zero = (has.live, λ r. refl)
      same_hart (suc c) = (has.live, λ r. refl)

      written : IsWritten h0.local saved (size_word h0) (h0.registers node_register) (h0.registers blocks_register) (h0.registers rank_register)
      written = is_written h0.local saved (size_word h0) (h0.registers node_register) (h0.registers blocks_register) (h0.registers rank_register)

      -- but for the header its memory is as the lines that save left it
      near : (c : ℕ) (x : ℕ) → (x ≡ frames_word n → ⊥) → (hart c).local x ≡ gate.local x
      near zero x ne = other_word gate.local (value_word 60 gate) (gate.registers t3) x (λ e. ne (e ∙ header_is.2))
      near (suc c) x ne = refl

      word_of_size : size_word h0 ≡ p.runner.has.level.size + 2048 * p.runner.has.level.number
      word_of_size =
          let stands = came.enters.at.stands in
          let number = stands.number in
          let size = stands.size in
          let few = came.divides.asked.number in
          let many = came.divides.asked.size in
          omega arith

      entered : (c : ℕ) → nestings.levels i ≡ c
          → HasEntered core image bound places nestings i op Fork place setting cycle0 first m0 p came.enters came.member came.divides.group (suc i) (place.fits.goes_on true) place.stay.opens split.room level (hart c)
      entered c e =
          let child = child_is nestings Fork space count j p came.divides (size p) in
          let kept = same_hart c in
          let begins = starts_in places n place.few in
          let below = beyond in
          record {
            live = kept.0;
            at = at_next c e;
            low = λ x lt ne. near c x ne ∙ ap (λ l. l x) has.local ∙ written.below x lt;
            head = λ some. head_is c e some;
            high = λ x le. near c x (λ f. omega (arith, begins, below, le, f)) ∙ ap (λ l. l x) has.local ∙ written.above x (omega (arith, below, le));
            saved = by_fork (nestings.forks (suc i) (nestings.levels i)) refl;
            node = kept.1 10 ∙ has.node ∙ ap (λ (s : Space). control_address s.low) child;
            size = kept.1 20 ∙ has.size_is;
            frames = kept.1 12 ∙ has.frames ∙ ap (λ (s : Space). control_address s.frames) child;
            blocks = kept.1 13 ∙ has.blocks ∙ ap (λ (s : Space). control_address s.blocks) child;
            number = kept.1 18 ∙ has.number;
            rank = kept.1 19 ∙ has.rank_is;
            kept = has_kept h0 (hart c) (λ r a b d f g k l o q s u v x y. kept.1 r ∙ has.others r a b d f g k l o q s u v x y);
          }
        where
          -- the level lies below the values
          beyond : saved + 4 ≤ frame_end n - (op.depth - 3)
          beyond =
              let home = place.fits.goes_on true in
              let levels = place.stay.opens.levels in
              let from = place.stay.opens.behind in
              let at_home = home.main ∙ ap places.frames.is_main (sym came.enters.index) ∙ came.enters.at.stands.running.home in
              let lies = lies_below places nestings n (suc i) (op.depth - 3) at_home split.room in
              omega (arith, levels, from, lies)

          at_next : (c : ℕ) → nestings.levels i ≡ c → (hart c).pc ≡ 4 * places.block (suc i)
          at_next c e =
              let next = ready.front.next in
              let there = (heading_runs image bound (in_cycles 15 t) m.number (link + 4) n (holds_in_cycles image 15 t holds) gate has.live refl header_is.0 header_is.1 c
              (subst (λ x. LinesAt image bound (link + 4) (heading_by x)) e ready.front.heading)).1 in
              there ∙ ap (λ x. 4 * (link + 4 + length (heading_by x))) (sym e) ∙ ap (λ x. 4 * x) (sym next)

          head_is : (c : ℕ) → nestings.levels i ≡ c → 0 < nestings.levels i → (hart c).local (frames_word n) ≡ h0.local (frames_word n)
          head_is zero e some = absurd (omega arith)
          head_is (suc c) e some =
              let begins = starts_in places n place.few in
              ap (λ l. l (frames_word n)) has.local ∙ written.below (frames_word n) (omega (arith, begins))

          at_saved : (k : ℕ) → k < 4 → (hart c).local (saved + k) ≡ gate.local (saved + k)
          at_saved k lt =
              let begins = starts_in places n place.few in
              near c (saved + k) (λ f. omega (arith, begins, f))

          ends_at : (c : ℕ) → nestings.levels i ≡ c → (words : ℕ) → nestings.forks (suc i) (nestings.levels i) ≡ Some words
              → HasFramesEnd (hart c).local (frames_word n) c words p.runner.has.level p.runner.has.outer
          ends_at zero e words told =
              ap (λ w. put gate.local (value_word 60 gate) (gate.registers t3) w) (sym header_is.2) ∙ same_word gate.local (value_word 60 gate) (gate.registers t3)
              ∙ has.heading ∙ (subst (λ o. KnowsSpace p.runner.has.level o h0) came.divides.group.outer came.member.node.space).0
          ends_at (suc c) e words told =
              let frames = came.divides.asked.frames in
              let here = subst (λ a. HasFrameWords (nestings.levels a) (nestings.forks (suc a) (nestings.levels a)) p.runner.has.level) came.enters.index frames in
              let known_words = subst (λ o. HasFrameWords (nestings.levels i) o p.runner.has.level) told here in
              let more = subst (λ l. HasFrameWords l (Some words) p.runner.has.level) e known_words in
              let low_word = ap (first_word p.runner.has.level) came.divides.group.outer in
              more ∙ ap (λ l. l + 8 + words) (sym low_word)

          by_fork : (o : Option ℕ) → nestings.forks (suc i) (nestings.levels i) ≡ o
              → HasLevelBy (nestings.forks (suc i) (nestings.levels i)) (hart c).local (frames_word n) saved (nestings.levels i) p.runner.has.level p.runner.has.outer
          by_fork None told = absurd (subst (LeavesBy Fork) told place.stay.left)
          by_fork (Some words) told =
              let stands = came.enters.at.stands in
              let knows = subst (λ o. KnowsSpace p.runner.has.level o h0) came.divides.group.outer came.member.node.space in
              let nought : saved + 0 ≡ saved = omega arith in
              let many = came.divides.asked.size in
              subst (λ f. HasLevelBy f (hart c).local (frames_word n) saved (nestings.levels i) p.runner.has.level p.runner.has.outer) (sym told)
              (record {
                size = ap (hart c).local (sym nought) ∙ at_saved 0 (omega arith) ∙ ap gate.local nought ∙ ap (λ l. l saved) has.local ∙ written.one ∙ word_of_size;
                few = omega arith;
                node = at_saved 1 (omega arith) ∙ ap (λ l. l (saved + 1)) has.local ∙ written.two ∙ came.member.node.node;
                blocks = at_saved 2 (omega arith) ∙ ap (λ l. l (saved + 2)) has.local ∙ written.three ∙ knows.1;
                rank = at_saved 3 (omega arith) ∙ ap (λ l. l (saved + 3)) has.local ∙ written.four ∙ stands.rank;
                frames = subst (λ x. HasFramesEnd (hart c).local (frames_word n) x words p.runner.has.level p.runner.has.outer) (sym e) (ends_at c e words told);
              })

      enter_case : Gone
      enter_case =
          let c = nestings.levels i in
          let flag1 = flag_is ∙ are.one p j came.divides.count_is is_in in
          let runs = enter_runs image bound places split.parts t m.number link op.target op.site holds place.block.labels ready.front.back m.hart live linked nought h0 saved (word_at space first count (Some j)) (size p) (equal_part space count) j
          (last (values p.runner.has)) behind pc flag1 in
          let more = (heading_runs image bound (in_cycles 15 t) m.number (link + 4) n (holds_in_cycles image 15 t holds) gate has.live refl header_is.0 header_is.1 c ready.front.heading).0 in
          let goes = enters_part core image bound places nestings i op Fork place setting cycle0 first m0 p came.enters came.member came.divides.group (suc i) (place.fits.goes_on true) place.stay.opens split.room level (hart c) (entered c refl) in
          comes_with core image places nestings i op Fork setting t highest size m p (hart c) (Some j) true (15 + length (heading_by c)) is_in refl (steps_are c)
          (runs_join image t m.number 15 (length (heading_by c)) m.hart gate (hart c) runs more) goes
        where
          steps_are : (c : ℕ) → split_goes_on Fork c true ≡ 15 + length (heading_by c)
          steps_are zero = refl
          steps_are (suc c) =
              let plain : (if suc c == 0 then 16 else 15) ≡ 15 = ap (λ b. if b then 16 else 15) (ne_eqb (suc c) 0 (λ e. omega arith)) in
              plain ∙ ap (λ l. 15 + length l) (sym (no_heading c))

    -- by the part
    by_part : (o : Option ℕ) → part_of Fork p ≡ o → ((j : ℕ) → part_of Fork p ≡ Some j → summed (word p) ≡ size p) → size p < 2 ^ 32 → Gone
    by_part None e sum small = wait_case e
    by_part (Some j) e sum small = enter_case j e (sum j e) small

  -- ---- all of them

  pub came_all : (ms : List Member) (ps : List Owner) → AllEnter core image places nestings i op (Split Fork) setting cycle0 None first ms ps → AllAreToDivide nestings Fork space count ps → Both Came ms ps
  came_all [] [] all divide = tt
  came_all (m ∷ ms) (p ∷ ps) all divide = (record { enters = all.0; member = all.1; divides = divide.0 }, came_all ms ps all.2 divide.1)
  came_all ms ps all divide = absurd (assumption all)

  counts : LinesAt image bound (bound fork_label + 19) (counting_lines t3)
  counts =
      let k = bound fork_label in
      let rest = waiting_lines ++ (fork_saving ++ into_one_part) in
      let a = lines_split image bound k fork_room (fork_place ++ (counting_lines t3 ++ rest)) split.parts.fork in
      let b = lines_split image bound (k + 9) fork_place (counting_lines t3 ++ rest) a.1 in
      let there : k + 9 + 10 ≡ k + 19 = omega arith in
      subst (λ j. LinesAt image bound j (counting_lines t3)) there (lines_split image bound (k + 9 + 10) (counting_lines t3) rest b.1).0

  due_here : (v : Memory) (m : Member) (p : Owner) → Counted v m p → (has_room (Split Fork) p.runner.has ≡ true) × (p.runner.left.at ≡ i)
  due_here v m p counted =
      let came = counted.near.ready.came in (
        ap (λ (s : Space). has_parts s (parts_of Fork p)) came.divides.space_is ∙ ap (has_parts space) came.divides.count_is ∙ room,
        came.enters.index,
      )

  comes_by : (t : MachineSetting) → Holds image t → (ps : List Owner) → (summed : Memory) (m : Member) (p : Owner) → Counted summed m p
      → m.hart.pc ≡ 4 * suc (suc (suc (suc (suc (bound fork_label + 19))))) → ((j : ℕ) → part_of Fork p ≡ Some j → summed (word p) ≡ size_behind (Split Fork) ps p) → size_behind (Split Fork) ps p < 2 ^ 32
      → ComesByWay core image places nestings i op (Split Fork) setting t (split_goes_on Fork (nestings.levels i)) (λ q. None) (highest_value ps) 0 (λ q. size_behind (Split Fork) ps q) m p
  comes_by t holds ps summed m p counted pc sum small =
      by_part t holds (highest_value ps) (λ q. size_behind (Split Fork) ps q) summed m p counted (omega arith) (part_of Fork p) refl sum small

  pub fork_divides : (t : MachineSetting) → Holds image cycle0 → Holds image t → (ps : List Owner) → length ps ≤ 1024 → (own : Memory) → IsAtRest first own → (ms : List Member)
      → Both Came ms ps → Together (core_source core setting) image mine cycle0 1 27 ms ps own
      (λ ms' ds own'. (ds ≡ map (is_due core i op (Split Fork)) ps) × Divided core image places nestings i op Fork setting t first ps ms' own')
  fork_divides t holds holds_later ps few own rest ms all =
      come_and_count core image bound setting mine 28 other word entry Ready to_count (bound fork_label + 19) counts ps (map (is_due core i op (Split Fork)) ps) owns.apart
      (Divided core image places nestings i op Fork setting t first ps) cycle0 23 holds
      (λ v ms' counted. all_due core setting i op (Split Fork) (Counted v) ms' ps split.place.stands refl (due_here v) counted)
      own
      (λ own1 own2 summed own' ms' one two sum cleared stand counted.
      all_divided core image places nestings i op Fork setting t first ps Good space count entry are few (suc (suc (suc (suc (suc (bound fork_label + 19)))))) Counted
      (λ v m p c. c.near.ready.came.divides.count_is) (λ v m p c. c.near.ready.came.divides) (λ v m p c. c.near.ready.came.member.words) (comes_by t holds_later ps)
      own own1 own2 summed own' one two sum cleared ms' stand counted rest)
      ms (each_so Came (Comes image cycle0 23 (bound fork_label + 19) Ready) ms ps comes all)
