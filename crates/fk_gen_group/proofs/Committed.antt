-- What a member of a group that divides has at its commit, and where it stands behind it.
use Rattle.std.proofs.Common.{◌≡◌, ◌≢◌, ℕ, zero, suc, ◌+◌, ◌-◌, ◌*◌, ◌^◌, ◌<◌, ◌≤◌, List, [], ◌∷◌, length, Bool, true, false, Option, Some, None, sym, ap, subst, ◌∙◌, arith, refl}
use Rattle.std.specs.Prelude.{◌==◌, nat_lt, if◌then◌else◌}
use Rattle.std.specs.Int.{from_bool}
use Rattle.std.proofs.lemmas.Bool.{lt-ltb, eqb-true}
use Rattle.fk_num.specs.Word.{put}
use Rattle.fk_num.specs.Op.{applied}
use Rattle.fk_num.specs.declared.operator.Op.TheVariants as num
use Rattle.fk_space.specs.Space.{Space, IsSpace, child, equal_part}
use Rattle.fk_meaning_operation.specs.declared.operation.SplitKind.{SplitKind}
use Rattle.fk_meaning_operation.specs.declared.operation.SplitKind.TheVariants.{IfAlone, IfElse, AndThen, OrElse, Loop, Fork}
use Rattle.fk_meaning_operation.specs.declared.operation.Operation.TheVariants.{Split}
use Rattle.fk_meaning.specs.Processor.{Setting, values, last, before}
use Rattle.fk_meaning.specs.Group.{taken_by, waits_with, part_number, part_rank, part_level, divided, enters}
use Rattle.fk_core.specs.declared.op.CoreOp.{CoreOp}
use Rattle.fk_core.specs.Next.{follows}
use Rattle.fk_image.specs.declared.Image.{Image}
use Rattle.fk_machine.specs.Hart.{Hart, Setting as MachineSetting}
use Rattle.fk_sim_nodes.specs.Node.{Member}
use Rattle.fk_sim_nodes.specs.Alone.{RunsPrivately}
use Rattle.fk_sim_block.specs.Owner.{Owner, number_of}
use Rattle.fk_sim_block.specs.Stands.{Places, HasValues, local_address, frame_start, frame_end, value_in, zero_register, group_frame_register}
use Rattle.fk_sim_block.specs.Suits.{Flows, nothing}
use Rattle.fk_sim_block.specs.Block.{Enters}
use Rattle.fk_sim_block.specs.Node.{Nestings, HasLevelRoom, HasOuter, first_word, control_address, blocks_register}
use Rattle.fk_sim_block.specs.Lockstep.{IsMember, ComesByWay, LevelsStay, LevelOpens}
use Rattle.fk_sim_block.specs.Parts.{IsToDivide, part_of, parts_of}
use Rattle.fk_sim_block.proofs.Spaces.{space_kept}
use Rattle.fk_gen.specs.Registers.{ra, t0, t3}
use Rattle.fk_gen.proofs.Values.{values_before, values_put}
use Rattle.fk_gen.proofs.Standing.{InMemory, SameRegisters, in_memory, stands_with, with_list, value_written, nothing_written}
use Rattle.fk_gen_group.specs.Splits.{HasParts, parts_label, one_part_label, split_goes_on}
use Rattle.fk_gen_group.specs.Laws.{IsInPlace}
use Rattle.fk_gen_group.proofs.Last.{value_word, is_value, is_last}
use Rattle.fk_gen_group.proofs.Levels.{below_values, lies_below, outer_on, many_callers}
use Rattle.fk_gen_group.proofs.Slots.{slot_of, is_slot}
use Rattle.fk_gen_group.proofs.Fronts.{is_implicit, Fronted, flag_by, link_at, memory_by}
use Rattle.fk_gen_group.proofs.PartSizes.{word_at}
use Rattle.fk_gen_group.proofs.Parting.{IsPlaced, IsBehind, HasSavedLevel, HasEntered, has_entered_by, memory_other, saved_word}

-- ---- at the commit

module _ (core : List CoreOp) (image : Image) (bound : ℕ → ℕ) (places : Places) (nestings : Nestings) (i : ℕ) (op : CoreOp) (by : SplitKind)
    (place : IsInPlace core image bound places nestings i op (Split by)) (shared : HasParts image bound)
    (setting : Setting) (space : Space) (count : ℕ) (is_space : IsSpace space)
    (cycle0 : MachineSetting) (first : ℕ) (m : Member) (p : Owner) (en : Enters core image places setting cycle0 i op (Split by) p m.hart)
    (member : IsMember places nestings setting None first m p) (divides : IsToDivide nestings by space count p) (front : Fronted core image bound places nestings i op by place setting cycle0 m p en)
    (label offset steps word : ℕ) (placed : IsPlaced core image bound places nestings i op by place shared setting space count is_space cycle0 first m p en member divides front label offset steps word)
    (h : Hart) (ended : h.ended ≡ placed.hart.ended) (local : h.local ≡ placed.hart.local) (same : (r : ℕ) → r ≢ 5 → h.registers r ≡ placed.hart.registers r) where
  pub live_at : h.ended ≡ false
  live_at = ended ∙ placed.live

  pub flag_at : h.registers t3 ≡ flag_by by (values p.runner.has)
  flag_at = same 28 (λ e. omega arith) ∙ placed.others 28 (λ e. omega arith) (λ e. omega arith) (λ e. omega arith) ∙ front.flag

  pub link_is : h.registers ra ≡ 4 * link_at core image bound places nestings i op by place setting cycle0 m p en
  link_is = same 1 (λ e. omega arith) ∙ placed.others 1 (λ e. omega arith) (λ e. omega arith) (λ e. omega arith) ∙ front.link

  pub others_at : (r : ℕ) → r ≢ 1 → r ≢ 5 → r ≢ 6 → r ≢ 7 → r ≢ 28 → r ≢ 29 → h.registers r ≡ m.hart.registers r
  others_at r a b c d e f = same r b ∙ placed.others r b c f ∙ front.others r a b d e

  pub nought_at : h.registers zero_register ≡ 0
  nought_at = others_at 0 (λ e. omega arith) (λ e. omega arith) (λ e. omega arith) (λ e. omega arith) (λ e. omega arith) (λ e. omega arith) ∙ en.at.stands.nought

  pub local_at : h.local ≡ memory_by by op.depth m.hart
  local_at = local ∙ placed.local ∙ front.local

  -- where it is to save the level of its group
  abbrev pub saved_at_word : ℕ
  saved_at_word = frame_start places (length p.runner.has.callers) + 7 + nestings.behind i + 4 * nestings.levels i

  pub is_behind : (size : ℕ) → h.registers t0 ≡ size → size < 2 ^ 32 → word + 8 ≤ 2 ^ 20 → IsBehind m.hart h (memory_by by op.depth m.hart) saved_at_word word size
  is_behind size sum small within =
      let n = length p.runner.has.callers in
      let calls = en.ready.in_range.waiting in
      let room = place.levels.room in
      let level_word = nestings.behind i + 4 * nestings.levels i in
      let slot = is_slot places n level_word m.hart place.few calls (omega arith) en.at.stands.frame in
      let there : slot_of level_word m.hart ≡ saved_at_word = slot.index ∙ sums (frame_start places n + 7) (nestings.behind i) (4 * nestings.levels i) in
      let at = same 7 (λ e. omega arith) ∙ placed.others 7 (λ e. omega arith) (λ e. omega arith) (λ e. omega arith) ∙ front.slot in
      let start = frame_start_few n calls in
      record {
        live = live_at;
        slot = at ∙ slot.address ∙ ap local_address there;
        inside = omega arith;
        word_is = same 6 (λ e. omega arith) ∙ placed.word_is;
        within = within;
        size_is = sum;
        small = small;
        local = local_at;
        others = others_at;
      }
    where
      frame_start_few : (n : ℕ) → n < 256 → frame_start places n ≤ 16384
      frame_start_few zero lt = let few = place.few in omega arith
      frame_start_few (suc n) lt = omega arith

      sums : (a b c : ℕ) → a + (b + c) ≡ a + b + c
      sums a b c = omega arith

-- ---- who waits

-- the part of who enters where its value is 0, and where it is not
abbrev if_nought : Bool → Option ℕ
if_nought b = if b then Some 0 else None

abbrev unless_nought : Bool → Option ℕ
unless_nought b = if b then None else Some 0

waits_with_value : (b : Bool) → if_nought b ≡ None → b ≡ false
waits_with_value true e = absurd (cc)
waits_with_value false e = refl

waits_with_nought : (b : Bool) → unless_nought b ≡ None → b ≡ true
waits_with_nought true e = refl
waits_with_nought false e = absurd (cc)

positive : (v : ℕ) → (v == 0) ≡ false → nat_lt 0 v ≡ true
positive zero e = absurd (cc)
positive (suc v) e = lt-ltb 0 (suc v) (omega arith)

nought_stands : (at : ℕ → ℕ) (vs : List ℕ) → 1 ≤ length vs → last vs ≡ 0 → HasValues at vs → HasValues at (0 ∷ before 1 vs)
nought_stands at [] some e held = absurd (omega arith)
nought_stands at (v ∷ vs) some e held = (held.0 ∙ e, held.1)

module _ (core : List CoreOp) (image : Image) (bound : ℕ → ℕ) (places : Places) (nestings : Nestings) (i : ℕ) (op : CoreOp) (by : SplitKind)
    (place : IsInPlace core image bound places nestings i op (Split by)) (flows : Flows core places.frames nothing i op.target) (stay : LevelsStay nestings i op.target)
    (setting : Setting) (cycle0 : MachineSetting) (first : ℕ) (m : Member) (p : Owner)
    (en : Enters core image places setting cycle0 i op (Split by) p m.hart) (member : IsMember places nestings setting None first m p) where
  abbrev n : ℕ
  n = length p.runner.has.callers

  abbrev pub waiting_values : List ℕ
  waiting_values = waits_with by (before (taken_by by) (values p.runner.has))

  abbrev pub waiting : Owner
  waiting = with_list core places op.target waiting_values p

  -- words below its last value are as they were
  low_stays : (x : ℕ) → x < frame_end n - op.depth → memory_by by op.depth m.hart x ≡ m.hart.local x
  low_stays x lt = memory_other by op.depth m.hart x (λ one f. apart one f)
    where
      apart : taken_by by ≡ 1 → x ≡ value_word op.depth m.hart → ⊥
      apart one f =
          let filled = place.values in
          let header = place.fits.room.header in
          let v = is_value core image bound places nestings i op (Split by) place setting cycle0 p m.hart m.hart (omega arith) en refl in
          let index = v.index in
          omega arith

  pub waits : InMemory places (memory_by by op.depth m.hart) (m.hart.registers group_frame_register) waiting → (h : Hart) → h.ended ≡ false → h.local ≡ memory_by by op.depth m.hart
      → ((r : ℕ) → r ≢ 1 → r ≢ 5 → r ≢ 6 → r ≢ 7 → r ≢ 28 → r ≢ 29 → r ≢ 30 → r ≢ 31 → h.registers r ≡ m.hart.registers r) → h.pc ≡ 4 * places.block op.target
      → IsMember places nestings setting None (first_word p.runner.has.level p.runner.has.outer) (record m { hart = h }) waiting
  waits memory h live local others pc =
      let stands = en.at.stands in
      let callers = p.runner.left.callers in
      let header = place.fits.room.header in
      let many = many_callers places nestings m.hart.local callers p.runner.has.callers stands.waiting in
      let home = ap places.frames.is_main (sym en.index) ∙ stands.running.home in
      let below = lies_below places nestings n i op.depth home place.levels in
      let held = subst (λ a. HasOuter places nestings setting.processors (number_of p) m.hart.local (a ∷ callers) p.runner.has.outer) en.index member.node.outer.0 in
      let outer =
      outer_on places nestings setting.processors (number_of p) m.hart.local (memory_by by op.depth m.hart) i op.target op.depth callers p.runner.has.outer place.few stay
      (subst (λ k. below_values places nestings k i op.depth) (sym many) below)
      (λ x lt. low_stays x (subst (λ k. x < frame_end k - op.depth) many lt)) (omega arith) held in
      let same : SameRegisters m.hart h = (
        others 0 (λ e. omega arith) (λ e. omega arith) (λ e. omega arith) (λ e. omega arith) (λ e. omega arith) (λ e. omega arith) (λ e. omega arith) (λ e. omega arith),
        above 8 (omega arith) (omega arith),
        above 9 (omega arith) (omega arith),
        above 18 (omega arith) (omega arith),
        above 19 (omega arith) (omega arith),
        above 20 (omega arith) (omega arith),
        above 22 (omega arith) (omega arith),
        above 23 (omega arith) (omega arith),
        above 24 (omega arith) (omega arith),
        above 25 (omega arith) (omega arith),
        above 26 (omega arith) (omega arith),
        above 27 (omega arith) (omega arith),
        above 14 (omega arith) (omega arith),
      ) in
      record {
        number = member.number;
        at = record {
          live = live;
          at = pc;
          stands =
              stands_with places p waiting m.hart h stands same refl refl (above 21 (omega arith) (omega arith) ∙ stands.top)
              (subst (λ l. InMemory places l (m.hart.registers group_frame_register) waiting) (sym local) memory);
        };
        node = record {
          node = above 10 (omega arith) (omega arith) ∙ member.node.node;
          body = tt;
          space = space_kept p.runner.has.level p.runner.has.outer m.hart h (above 12 (omega arith) (omega arith)) (above 13 (omega arith) (omega arith)) member.node.space;
          outer = (subst (λ l. HasOuter places nestings setting.processors (number_of p) l (op.target ∷ callers) p.runner.has.outer) (sym local) outer, member.node.outer.1);
        };
        words = refl;
      }
    where
      above : (r : ℕ) → 7 < r → r < 28 → h.registers r ≡ m.hart.registers r
      above r lt less = others r (λ e. omega arith) (λ e. omega arith) (λ e. omega arith) (λ e. omega arith) (λ e. omega arith) (λ e. omega arith) (λ e. omega arith) (λ e. omega arith)

-- what is in memory of who waits
module _ (core : List CoreOp) (image : Image) (bound : ℕ → ℕ) (places : Places) (nestings : Nestings) (i : ℕ) (op : CoreOp)
    (setting : Setting) (cycle0 : MachineSetting) (m : Member) (p : Owner) where
  abbrev Enter : SplitKind → Type 0
  Enter by = Enters core image places setting cycle0 i op (Split by) p m.hart

  unwritten : (by : SplitKind) (place : IsInPlace core image bound places nestings i op (Split by)) → Flows core places.frames nothing i op.target → Enter by → (vs : List ℕ)
      → HasValues (value_in m.hart (length p.runner.has.callers)) vs → InMemory places m.hart.local (m.hart.registers group_frame_register) (with_list core places op.target vs p)
  unwritten by place flows en vs held =
      nothing_written core places m.hart.local (m.hart.registers group_frame_register) p i op.target op.depth vs place.few en.ready.in_range.waiting en.index place.fits.room flows (in_memory places p m.hart en.at.stands) held

  left_values : (by : SplitKind) → Enter by → HasValues (value_in m.hart (length p.runner.has.callers)) (before 1 (values p.runner.has))
  left_values by en = values_before 1 (value_in m.hart (length p.runner.has.callers)) (values p.runner.has) en.at.stands.running.values

  pub waits_in : (by : SplitKind) (place : IsInPlace core image bound places nestings i op (Split by)) → is_implicit by ≡ true → parts_label by ≡ one_part_label → Flows core places.frames nothing i op.target
      → Enter by → part_of by p ≡ None → InMemory places (memory_by by op.depth m.hart) (m.hart.registers group_frame_register) (with_list core places op.target (waits_with by (before (taken_by by) (values p.runner.has))) p)
  waits_in IfAlone place is label flows en none = unwritten IfAlone place flows en (before 1 (values p.runner.has)) (left_values IfAlone en)
  waits_in AndThen place is label flows en none =
      let filled = place.values in
      let depth = en.ready.depth in
      let nought = eqb-true (last (values p.runner.has)) 0 (waits_with_nought (last (values p.runner.has) == 0) none) in
      unwritten AndThen place flows en (0 ∷ before 1 (values p.runner.has))
      (nought_stands (value_in m.hart (length p.runner.has.callers)) (values p.runner.has) (omega arith) nought en.at.stands.running.values)
  waits_in OrElse place is label flows en none =
      let filled = place.values in
      let depth = en.ready.depth in
      let header = place.fits.room.header in
      let n = length p.runner.has.callers in
      let vs = values p.runner.has in
      let some : 0 < op.depth = omega arith in
      let v = is_value core image bound places nestings i op (Split OrElse) place setting cycle0 p m.hart m.hart some en refl in
      let value = is_last core image bound places nestings i op (Split OrElse) place setting cycle0 p m.hart some en in
      let one : applied num.LtU (m.hart.registers zero_register) (m.hart.local (value_word op.depth m.hart)) ≡ 1 =
      ap (λ z. from_bool (nat_lt z (m.hart.local (value_word op.depth m.hart)))) en.at.stands.nought ∙ ap (λ x. from_bool (nat_lt 0 x)) value
      ∙ ap from_bool (positive (last vs) (waits_with_value (last vs == 0) none)) in
      let same : memory_by OrElse op.depth m.hart ≡ put m.hart.local (frame_end n - op.depth) 1 =
      ap (λ w. put m.hart.local w (applied num.LtU (m.hart.registers zero_register) (m.hart.local (value_word op.depth m.hart)))) v.index
      ∙ ap (put m.hart.local (frame_end n - op.depth)) one in
      subst (λ l. InMemory places l (m.hart.registers group_frame_register) (with_list core places op.target (1 ∷ before 1 vs) p)) (sym same)
      (value_written core places m.hart.local (m.hart.registers group_frame_register) p i op.target op.depth 1 (1 ∷ before 1 vs) place.few en.ready.in_range.waiting en.index place.fits.room some flows (in_memory places p m.hart en.at.stands)
      (values_put 1 op.depth m.hart.local n 1 vs (omega arith) (omega arith) (omega arith) en.at.stands.running.values))
  waits_in Loop place is label flows en none = absurd (cc)
  waits_in IfElse place is label flows en none = absurd (omega arith)
  waits_in by place is label flows en none = absurd (cc)

-- ---- who enters a part

keeps_number : (by : SplitKind) → is_implicit by ≡ true → (old index : ℕ) → part_number by old index ≡ old
keeps_number IfAlone is old index = refl
keeps_number IfElse is old index = refl
keeps_number AndThen is old index = refl
keeps_number OrElse is old index = refl
keeps_number Loop is old index = refl
keeps_number by is old index = absurd (cc)

keeps_rank : (by : SplitKind) → is_implicit by ≡ true → (old v : ℕ) → part_rank by old v ≡ old
keeps_rank IfAlone is old v = refl
keeps_rank IfElse is old v = refl
keeps_rank AndThen is old v = refl
keeps_rank OrElse is old v = refl
keeps_rank Loop is old v = refl
keeps_rank by is old v = absurd (cc)

-- where its part lies
pub child_is : (nestings : Nestings) (by : SplitKind) (space : Space) (count index : ℕ) (p : Owner) → IsToDivide nestings by space count p → (size : ℕ)
    → child space count index ≡ (part_level by p.runner.has size index).space
child_is nestings by space count index p divides size =
    ap (λ c. child space c index) (sym divides.count_is) ∙ ap (λ (s : Space). child s (parts_of by p) index) (sym divides.space_is)

module _ (core : List CoreOp) (image : Image) (bound : ℕ → ℕ) (places : Places) (nestings : Nestings) (i : ℕ) (op : CoreOp) (by : SplitKind)
    (place : IsInPlace core image bound places nestings i op (Split by)) (is : is_implicit by ≡ true) (setting : Setting) (space : Space) (count : ℕ) (cycle0 : MachineSetting) (first : ℕ) (m : Member) (p : Owner)
    (en : Enters core image places setting cycle0 i op (Split by) p m.hart) (member : IsMember places nestings setting None first m p) (divides : IsToDivide nestings by space count p)
    (j : ℕ) (flows : Flows core places.frames nothing i j) (opens : LevelOpens nestings i j) (room : HasLevelRoom places.frames nestings j (op.depth - taken_by by)) (plain : nestings.forks j (nestings.levels i) ≡ None) where
  -- another hart has the place of the blocks too
  pub has_entered : (index size word : ℕ) (hb h : Hart)
      → HasSavedLevel m.hart hb (memory_by by op.depth m.hart) (saved_word core image bound places nestings i op by place setting cycle0 first m p en member divides.group j flows opens room) word size
      → word ≡ word_at space first count (Some index) → h.ended ≡ false → h.pc ≡ 4 * places.block j → h.local ≡ hb.local → ((r : ℕ) → r ≢ 13 → h.registers r ≡ hb.registers r)
      → h.registers blocks_register ≡ control_address (word + equal_part space count)
      → HasEntered core image bound places nestings i op by place setting cycle0 first m p en member divides.group j flows opens room (part_level by p.runner.has size index) h
  has_entered index size word hb h saved at live pc local same blocks =
      let c = child_is nestings by space count index p divides size in
      has_entered_by core image bound places nestings i op by place setting cycle0 first m p en member divides.group j flows opens room plain (part_level by p.runner.has size index) h
      (record {
        live = live;
        at = pc;
        local = local ∙ saved.local;
        node = same 10 (λ e. omega arith) ∙ saved.node ∙ ap control_address at ∙ ap (λ (s : Space). control_address s.low) c;
        size = same 20 (λ e. omega arith) ∙ saved.size_is;
        frames = same 12 (λ e. omega arith) ∙ saved.frames ∙ ap (λ w. control_address (w + 8)) at ∙ ap (λ (s : Space). control_address s.frames) c;
        blocks = blocks ∙ ap (λ w. control_address (w + equal_part space count)) at ∙ ap (λ (s : Space). control_address s.blocks) c;
        number = keeps_number by is p.runner.has.level.number index;
        rank = keeps_rank by is p.runner.has.level.rank (last (values p.runner.has));
        others = λ r a b c d e f g k l x. same r g ∙ saved.others r a b c d e f k l x;
      })

-- ---- by its way

pub none_enters : (by : SplitKind) → enters by None ≡ false
none_enters IfElse = refl
none_enters by = refl

pub first_enters : (by : SplitKind) → enters by (Some 0) ≡ true
first_enters IfElse = refl
first_enters by = refl

pub goes_in : (by : SplitKind) (levels : ℕ) → parts_label by ≡ one_part_label → split_goes_on by levels true ≡ 9
goes_in IfElse levels label = absurd (omega arith)
goes_in Fork levels label = absurd (omega arith)
goes_in by levels label = refl

pub goes_by : (by : SplitKind) (levels : ℕ) → parts_label by ≡ one_part_label → split_goes_on by levels false ≡ 3
goes_by IfElse levels label = absurd (omega arith)
goes_by Fork levels label = absurd (omega arith)
goes_by by levels label = refl

module _ (core : List CoreOp) (image : Image) (places : Places) (nestings : Nestings) (i : ℕ) (op : CoreOp) (by : SplitKind) (setting : Setting)
    (t : MachineSetting) (highest : ℕ) (size : Owner → ℕ) (m : Member) (p : Owner) where
  -- a processor in its part, or where it waits
  abbrev pub went : Option ℕ → (onward : Bool) → Owner
  went o onward = record {
    runner = record {
      left = follows core (Split by) i op.target p.runner.left.callers onward;
      has = divided by (size p) p.runner.has o;
    };
    heap = p.heap;
  }

  abbrev pub Goes : Option ℕ → (onward : Bool) → Hart → Type 0
  Goes o onward h =
      IsMember places nestings setting None (first_word (went o onward).runner.has.level (went o onward).runner.has.outer) (record m { hart = h }) (went o onward)

  pub comes_with : (hart : Hart) (o : Option ℕ) (onward : Bool) (steps : ℕ) → part_of by p ≡ o → enters by o ≡ onward → split_goes_on by (nestings.levels i) onward ≡ steps
      → RunsPrivately image t m.number steps m.hart hart → Goes o onward hart
      → ComesByWay core image places nestings i op (Split by) setting t (split_goes_on by (nestings.levels i)) (λ q. None) highest 0 size m p
  comes_with hart o onward steps e way many runs goes = record {
    hart = hart;
    runs = subst (λ x. RunsPrivately image t m.number (split_goes_on by (nestings.levels i) (enters by x)) m.hart hart) (sym e)
        (subst (λ b. RunsPrivately image t m.number (split_goes_on by (nestings.levels i) b) m.hart hart) (sym way) (subst (λ c. RunsPrivately image t m.number c m.hart hart) (sym many) runs));
    member = subst (λ x. Goes x (enters by x) hart) (sym e) (subst (λ b. Goes o b hart) (sym way) goes);
  }

-- where its words are then
pub moved_word : (nestings : Nestings) (by : SplitKind) (space : Space) (first count size : ℕ) (p : Owner) → IsToDivide nestings by space count p → first_word p.runner.has.level p.runner.has.outer ≡ first → (o : Option ℕ)
    → first_word (divided by size p.runner.has o).level (divided by size p.runner.has o).outer ≡ word_at space first count o
moved_word nestings by space first count size p divides words None = words
moved_word nestings by space first count size p divides words (Some index) = sym (ap (λ (s : Space). s.low) (child_is nestings by space count index p divides size))
