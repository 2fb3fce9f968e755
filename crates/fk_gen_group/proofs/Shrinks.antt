-- Some members of a part stay in a loop, and the others leave the part.
use Rattle.std.proofs.Common.{◌≡◌, ◌≢◌, ℕ, zero, suc, ◌+◌, ◌*◌, ◌^◌, ◌<◌, ◌≤◌, List, [], ◌∷◌, length, map, Bool, true, false, None, sym, ap, subst, ◌∙◌, arith, refl, inl, inr, eq-eqb}
use Rattle.std.specs.Prelude.{◌==◌, nat_lt, not, if◌then◌else◌}
use Rattle.std.specs.Int.{from_bool}
use Rattle.std.proofs.lemmas.Bool.{ne_eqb, lt-ltb}
use Rattle.fk_num.specs.Word.{Memory, word_sum}
use Rattle.fk_num.specs.Op.{applied}
use Rattle.fk_num.specs.declared.operator.Op.TheVariants as num
use Rattle.fk_meaning_operation.specs.declared.operation.Operation.TheVariants.{Shrink}
use Rattle.fk_meaning.specs.Processor.{Level, Setting, values, last, before, drop_last, leave_level}
use Rattle.fk_meaning.specs.Group.{has_room, stays, with_size}
use Rattle.fk_core.specs.declared.op.CoreOp.{CoreOp}
use Rattle.fk_core.specs.Next.{follows}
use Rattle.fk_image.specs.declared.Image.{Image}
use Rattle.fk_isa.specs.declared.instruction.Instruction.TheVariants.{Lw, Addi, Sltu}
use Rattle.fk_machine.specs.Hart.{Hart, Shared, Setting as MachineSetting}
use Rattle.fk_machine.specs.Step.{perform}
use Rattle.fk_machine.proofs.Performs.{writes, addi}
use Rattle.fk_sim_nodes.specs.Node.{Member, Words}
use Rattle.fk_sim_nodes.specs.Alone.{Holds, GoesAlone, RunsPrivately, NodeCycle, later, in_cycles}
use Rattle.fk_sim_nodes.specs.Together.{Commits, Together}
use Rattle.fk_sim_nodes.specs.OnePlace.{AllAreAt, last_or, sum_from}
use Rattle.fk_sim_nodes.proofs.Runs.{cycle_map}
use Rattle.fk_sim_nodes.proofs.Members.{cycle_commits, together_map}
use Rattle.fk_sim_block.specs.Owner.{Owner, Doing, core_source}
use Rattle.fk_sim_block.specs.Stands.{Places, HasValues, value_in, zero_register, frame_register, size_register}
use Rattle.fk_sim_block.specs.Block.{Enters}
use Rattle.fk_sim_block.specs.Node.{Nestings, OwnsHeader, IsAtRest, KnowsSpace, first_word, control_address}
use Rattle.fk_sim_block.specs.Lockstep.{IsMember, AllEnter, AllComeByWay, ComesByWay, LevelOpens, highest_value, is_due}
use Rattle.fk_sim_block.specs.Parts.{IsInPart, AreInPart, AllMove, size_behind, size_of_stay}
use Rattle.fk_sim_block.proofs.Spaces.{space_kept}
use Rattle.fk_gen.specs.Registers.{t0, t3}
use Rattle.fk_gen.specs.Lines.{at_private}
use Rattle.fk_gen.specs.Operands.{operand}
use Rattle.fk_gen.proofs.Values.{values_before}
use Rattle.fk_gen.proofs.Walk.{LocalAt, private, told_of, can_run_goes}
use Rattle.fk_gen.proofs.Jumps.{goes_to_pc, bne_taken, bne_on}
use Rattle.fk_gen.proofs.Standing.{SameRegisters}
use Rattle.fk_gen_group.specs.Splits.{shrink_goes_on}
use Rattle.fk_gen_group.specs.Laws.{IsInPlace, PartsShrink, last_fork}
use Rattle.fk_gen_group.proofs.Members.{Both, all_stand, at_block, all_due}
use Rattle.fk_gen_group.proofs.Last.{value_word, is_value, is_last}
use Rattle.fk_gen_group.proofs.Behind.{goes_behind_with}
use Rattle.fk_gen_group.proofs.Shares.{EachOwner, GivesOne, every_owner, shares, nothing_each, is_cleared, no_shares, sum_is, few_pass}
use Rattle.fk_gen_group.proofs.Counting.{IsToCount, Near, Gives, Knows, alone_cycle, gives, add_cycle, load_cycle, last_cycle}
use Rattle.fk_gen_group.proofs.Slots.{slot_of, first_slot, out_word, sized, out_hart, out_runs, out_member, left_to}

-- 1 of a value that is not 0
flag_of : (v : ℕ) → from_bool (nat_lt 0 v) ≡ from_bool (not (v == 0))
flag_of zero = refl
flag_of (suc v) = ap from_bool (lt-ltb 0 (suc v) (omega arith)) ∙ sym (ap (λ b. from_bool (not b)) (ne_eqb (suc v) 0 (λ e. omega arith)))

-- a hart that has all of another's registers but t0 and t3
same_but : (first h : Hart) → ((r : ℕ) → r ≢ 5 → r ≢ 28 → h.registers r ≡ first.registers r) → SameRegisters first h
same_but first h f = (
  f 0 (λ e. omega arith) (λ e. omega arith),
  f 8 (λ e. omega arith) (λ e. omega arith),
  f 9 (λ e. omega arith) (λ e. omega arith),
  f 18 (λ e. omega arith) (λ e. omega arith),
  f 19 (λ e. omega arith) (λ e. omega arith),
  f 20 (λ e. omega arith) (λ e. omega arith),
  f 22 (λ e. omega arith) (λ e. omega arith),
  f 23 (λ e. omega arith) (λ e. omega arith),
  f 24 (λ e. omega arith) (λ e. omega arith),
  f 25 (λ e. omega arith) (λ e. omega arith),
  f 26 (λ e. omega arith) (λ e. omega arith),
  f 27 (λ e. omega arith) (λ e. omega arith),
  f 14 (λ e. omega arith) (λ e. omega arith),
)

module _ (core : List CoreOp) (image : Image) (bound : ℕ → ℕ) (places : Places) (nestings : Nestings) (i : ℕ) (op : CoreOp) (place : IsInPlace core image bound places nestings i op Shrink)
    (opens : LevelOpens nestings op.target i) (plain : last_fork nestings i ≡ None) (setting : Setting) (cycle0 : MachineSetting) (mine : Words) (first : ℕ) (owns : OwnsHeader mine first) where
  abbrev k : ℕ
  k = places.block i

  some : 0 < op.depth
  some = let filled = place.values in omega arith

  record Came (m : Member) (p : Owner) : Type 0 where
    pub enters : Enters core image places setting cycle0 i op Shrink p m.hart
    pub member : IsMember places nestings setting None first m p
    pub part : IsInPart nestings p

  -- ---- the value is loaded, and becomes 0 or 1

  abbrev load_hart : Hart → Hart
  load_hart h = writes h t3 (h.local (value_word op.depth h))

  abbrev flag_hart : Hart → Hart
  flag_hart h = writes (load_hart h) t3 (applied num.LtU (h.registers zero_register) (h.local (value_word op.depth h)))

  record Loaded (m : Member) (p : Owner) : Type 0 where
    pub hart : Hart
    pub came : Came (record m { hart = hart }) p
    pub is : m.hart ≡ load_hart hart

  record Ready (m : Member) (p : Owner) : Type 0 where
    pub hart : Hart
    pub came : Came (record m { hart = hart }) p
    pub is : m.hart ≡ flag_hart hart

  loads : (t : MachineSetting) (m : Member) (p : Owner) → Came m p → (s : Shared) → GoesAlone (perform t m.number (operand t3 op.depth) m.hart s) (load_hart m.hart) s
  loads t m p came s =
      let v = is_value core image bound places nestings i op Shrink place setting cycle0 p m.hart m.hart some came.enters refl in
      can_run_goes (operand t3 op.depth) (LocalAt (value_word op.depth m.hart)) m.hart (v.within, v.address) t m.number s

  loaded : (m : Member) (p : Owner) → Came m p → Loaded (record m { hart = load_hart m.hart }) p
  loaded m p came = record { hart = m.hart; came = came; is = refl }

  abbrev flagged : Member → Hart
  flagged m = writes m.hart t3 (applied num.LtU (m.hart.registers zero_register) (m.hart.registers t3))

  ready : (m : Member) (p : Owner) → Loaded m p → Ready (record m { hart = flagged m }) p
  ready m p l = record {
    hart = l.hart;
    came = l.came;
    is = ap (λ (h : Hart). writes h t3 (applied num.LtU (h.registers zero_register) (h.registers t3))) l.is;
  }

  -- ---- those who stay are counted

  abbrev word : Owner → ℕ
  word p = first

  abbrev count : Owner → ℕ
  count p = from_bool (stays p.runner.has)

  other : ◌≢◌ {A = ℕ} 10 5
  other e = omega arith

  to_count : (m : Member) (p : Owner) → Ready m p → IsToCount mine 10 28 word count m p
  to_count m p r =
      let came = r.came in
      let h = r.hart in
      let within = owns.within in
      let value = is_last core image bound places nestings i op Shrink place setting cycle0 p h some came.enters in
      subst (λ x. IsToCount mine 10 28 word count (record m { hart = x }) p) (sym r.is)
      (record {
        address = came.member.node.node ∙ ap control_address came.member.words;
        within = omega arith;
        own = λ offset lt. owns.own offset lt;
        value =
            ap (λ z. from_bool (nat_lt z (h.local (value_word op.depth h)))) came.enters.at.stands.nought
            ∙ ap (λ v. from_bool (nat_lt 0 v)) value ∙ flag_of (last (values p.runner.has));
        nought = came.enters.at.stands.nought;
      })

  abbrev IsNear : Member → Owner → Type 0
  IsNear m p = Near image mine 10 28 other word count Ready to_count m p

  abbrev Counted : Memory → Member → Owner → Type 0
  Counted v m p = Knows image mine 10 28 other word count Ready to_count v m p

  abbrev Given : Member → Owner → Type 0
  Given m p = Gives image mine 10 28 other word count Ready to_count m p

  -- what such a member has of the hart that came
  others_are : (m : Member) (p : Owner) → (near : IsNear m p) → (r : ℕ) → r ≢ 5 → r ≢ 28 → m.hart.registers r ≡ near.ready.hart.registers r
  others_are m p near r a b =
      near.others r a ∙ ap (λ (h : Hart). h.registers r) near.ready.is ∙ flag_other near.ready.hart r b
    where
      flag_other : (h : Hart) (r : ℕ) → r ≢ 28 → (flag_hart h).registers r ≡ h.registers r
      flag_other h r ne = rw (ne_eqb r 28 ne)

  local_is : (m : Member) (p : Owner) → (near : IsNear m p) → m.hart.local ≡ near.ready.hart.local
  local_is m p near = near.local ∙ ap (λ (h : Hart). h.local) near.ready.is

  live_is : (m : Member) (p : Owner) → (near : IsNear m p) → m.hart.ended ≡ false
  live_is m p near = near.live ∙ ap (λ (h : Hart). h.ended) near.ready.is ∙ near.ready.came.enters.at.live

  flag_is : (m : Member) (p : Owner) → (near : IsNear m p) → m.hart.registers t3 ≡ count p
  flag_is m p near = near.others 28 (λ e. omega arith) ∙ (to_count (record m { hart = near.hart }) p near.ready).value

  nought_is : (m : Member) (p : Owner) → (near : IsNear m p) → m.hart.registers zero_register ≡ 0
  nought_is m p near = others_are m p near 0 (λ e. omega arith) (λ e. omega arith) ∙ near.ready.came.enters.at.stands.nought

  -- ---- each by its way

  -- where its processor goes on, in a group of so many
  abbrev went : (size : ℕ) → (onward : Bool) → Owner → Owner
  went size onward p = record {
    runner = record {
      left = follows core Shrink i op.target p.runner.left.callers onward;
      has = if onward then with_size size (drop_last 1 p.runner.has) else leave_level (drop_last 1 p.runner.has);
    };
    heap = p.heap;
  }

  abbrev Goes : (size : ℕ) → (onward : Bool) → Member → Hart → Owner → Type 0
  Goes size onward m h p =
      IsMember places nestings setting None (first_word (went size onward p).runner.has.level (went size onward p).runner.has.outer) (record m { hart = h }) (went size onward p)

  module _ (t : MachineSetting) (own : Memory) (m : Member) (p : Owner) (holds : Holds image t) (counted : Counted own m p) (pc : m.hart.pc ≡ 4 * suc (suc (suc (suc (suc k))))) where
    abbrev near : IsNear m p
    near = counted.near

    abbrev h0 : Hart
    h0 = near.ready.hart

    abbrev came : Came (record m { hart = h0 }) p
    came = near.ready.came

    held : HasValues (value_in h0 (length p.runner.has.callers)) (before 1 (values p.runner.has))
    held = values_before 1 (value_in h0 (length p.runner.has.callers)) (values p.runner.has) came.enters.at.stands.running.values

    -- one that stays
    abbrev stay_hart : Hart
    stay_hart = writes (goes_to_pc m.hart (word_sum m.hart.pc 24)) size_register (word_sum (m.hart.registers t0) 0)

    stay_runs : stays p.runner.has ≡ true → RunsPrivately image t m.number 2 m.hart stay_hart
    stay_runs e =
        let lines = place.block.lines in
        let bne = lines.1.1.1.1.1.0 in
        let last_line = lines.1.1.1.1.1.1.1.1.1.1.1.0 in
        let within = last_line.within in
        let h1 = goes_to_pc m.hart (word_sum m.hart.pc 24) in
        let flag : m.hart.registers t3 ≡ 1 = flag_is m p near ∙ ap from_bool e in
        let zero_is = nought_is m p near in
        let live = live_is m p near in
        let k5 = suc (suc (suc (suc (suc k)))) in
        let differ : (m.hart.registers t3 == m.hart.registers zero_register) ≡ false = ne_eqb (m.hart.registers t3) (m.hart.registers zero_register) (λ f. omega (arith, f, flag, zero_is)) in (
          h1,
          bne_taken image t m.number k5 28 0 24 m.hart holds bne pc live differ (omega arith),
          (
            stay_hart,
            private image (later t) m.number (suc (suc (suc (suc (suc (suc k5)))))) (Addi size_register t0 0) h1 stay_hart holds last_line (omega arith) live
                (λ s. (s.reserved, addi (later t) m.number 20 5 0 h1 s)),
            refl,
          ),
        )

    stay_member : (size : ℕ) → own first ≡ size → size < 2 ^ 32 → Goes size true m stay_hart p
    stay_member size e small =
        let en = came.enters in
        let member = came.member in
        let lines = place.block.lines in
        let last_line = lines.1.1.1.1.1.1.1.1.1.1.1.0 in
        let within = last_line.within in
        let next = place.block.next in
        let level = p.runner.has.level in
        let outer = p.runner.has.outer in
        let level' : Level = record level { size = size } in
        let sum = counted.sum in
        let registers = others_are m p near in
        let same : SameRegisters h0 m.hart = same_but h0 m.hart registers in
        let hx = goes_to_pc m.hart (4 * places.block (suc i)) in
        let behind = goes_behind_with core image bound places nestings i op Shrink place (suc i) (place.fits.goes_on true) place.stay setting cycle0 None first (before 1 (values p.runner.has)) (record m { hart = h0 }) p hx
        en member held (live_is m p near) (local_is m p near) same (registers 21 (λ e. omega arith) (λ e. omega arith)) refl in
        let s = behind.0.stands in
        let first_same : first_word level' outer ≡ first_word level outer = ap (first_word level') came.part.outer ∙ sym (ap (first_word level) came.part.outer) in
        let space : KnowsSpace level outer stay_hart =
        space_kept level outer h0 stay_hart (registers 12 (λ e. omega arith) (λ e. omega arith)) (registers 13 (λ e. omega arith) (λ e. omega arith)) member.node.space in
        let known = subst (λ o. KnowsSpace level o stay_hart) came.part.outer space in
        record {
          number = member.number;
          at = record {
            live = live_is m p near;
            at = omega arith;
            stands = record {
              nought = s.nought;
              frame = s.frame;
              behind = s.behind;
              number = s.number;
              rank = s.rank;
              size = omega arith;
              top = s.top;
              local = s.local;
              shared_data = s.shared_data;
              private_heap = s.private_heap;
              shared_mask = s.shared_mask;
              devices = s.devices;
              heap_mask = s.heap_mask;
              running = s.running;
              waiting = s.waiting;
              groups = s.groups;
              own = s.own;
              heap = s.heap;
              full = s.full;
            };
          };
          node = record {
            node = registers 10 (λ e. omega arith) (λ e. omega arith) ∙ member.node.node ∙ sym (ap control_address first_same);
            body = tt;
            space = subst (λ o. KnowsSpace level' o stay_hart) (sym came.part.outer) known;
            outer = behind.1;
          };
          words = refl;
        }

    -- one that leaves the part
    abbrev out_front : Hart
    out_front = goes_to_pc m.hart (word_sum m.hart.pc 4)

    abbrev gone_hart : Hart
    gone_hart = out_hart core image bound places nestings i op Shrink place (place.fits.goes_on false) opens plain (told_of (later (later t)) m.number) out_front

    gone_runs : stays p.runner.has ≡ false → RunsPrivately image t m.number 6 m.hart gone_hart
    gone_runs e =
        let lines = place.block.lines in
        let bne = lines.1.1.1.1.1.0 in
        let size_line = lines.1.1.1.1.1.1.0 in
        let rest = lines.1.1.1.1.1.1.1 in
        let within = size_line.within in
        let flag : m.hart.registers t3 ≡ 0 = flag_is m p near ∙ ap from_bool e in
        let zero_is = nought_is m p near in
        let live = live_is m p near in
        let k5 = suc (suc (suc (suc (suc k)))) in
        let same : SameRegisters h0 out_front = same_but h0 out_front (others_are m p near) in
        let top = others_are m p near 21 (λ e. omega arith) (λ e. omega arith) in
        let local = local_is m p near in
        let flows = place.fits.goes_on false in
        let word_out = out_word core image bound places nestings i op Shrink place flows opens plain in
        let slot = first_slot core image bound places nestings i op Shrink place flows opens plain setting cycle0 first (record m { hart = h0 }) p came.enters came.member came.part out_front same top local live in
        let size_hart = sized core image bound places nestings i op Shrink place flows opens plain out_front in
        let pc6 : out_front.pc ≡ 4 * suc k5 = omega arith in (
          out_front,
          bne_on image t m.number k5 28 0 24 m.hart holds bne pc live (eq-eqb (m.hart.registers t3) (m.hart.registers zero_register) (flag ∙ sym zero_is)),
          (
            size_hart,
            private image (later t) m.number (suc k5) (Lw size_register frame_register (at_private word_out)) out_front size_hart holds size_line pc6 live
                (λ s. can_run_goes (Lw size_register frame_register (at_private word_out)) (LocalAt (slot_of word_out out_front)) out_front (slot.within, slot.address) (later t) m.number s),
            out_runs core image bound places nestings i op Shrink place flows opens plain setting cycle0 first (record m { hart = h0 }) p came.enters came.member came.part out_front same top local live
                (later (later t)) (suc (suc k5)) holds place.block.labels (rest.0, (rest.1.0, (rest.1.1.0, (rest.1.1.1.0, tt)))) (omega arith),
          ),
        )

    -- with what it has in the group around the part
    abbrev Out : List Level → Type 0
    Out outer =
        let q = left_to core image bound places nestings i op Shrink place (place.fits.goes_on false) opens plain outer (before 1 (values p.runner.has)) p in
        IsMember places nestings setting None (first_word q.runner.has.level q.runner.has.outer) (record m { hart = gone_hart }) q

    gone_member : (size : ℕ) → Goes size false m gone_hart p
    gone_member size =
        let same : SameRegisters h0 out_front = same_but h0 out_front (others_are m p near) in
        subst Out (sym came.part.outer)
        (out_member core image bound places nestings i op Shrink place (place.fits.goes_on false) opens plain setting cycle0 first (record m { hart = h0 }) p came.enters came.member came.part out_front same
        (others_are m p near 21 (λ e. omega arith) (λ e. omega arith)) (local_is m p near) (live_is m p near) (told_of (later (later t)) m.number) (before 1 (values p.runner.has)) place.block.labels held)

    abbrev Comes : (highest : ℕ) → (Owner → ℕ) → Type 0
    Comes highest size = ComesByWay core image places nestings i op Shrink setting t shrink_goes_on (λ q. None) highest 0 size m p

    comes_with : (highest : ℕ) (size : Owner → ℕ) (hart : Hart) (onward : Bool) → stays p.runner.has ≡ onward → RunsPrivately image t m.number (shrink_goes_on onward) m.hart hart
        → Goes (size p) onward m hart p → Comes highest size
    comes_with highest size hart onward e runs goes = record {
      hart = hart;
      runs = subst (λ b. RunsPrivately image t m.number (shrink_goes_on b) m.hart hart) (sym e) runs;
      member = subst (λ b. Goes (size p) b m hart p) (sym e) goes;
    }

    comes_by : (highest : ℕ) (size : Owner → ℕ) (onward : Bool) → stays p.runner.has ≡ onward → own first ≡ size p → size p < 2 ^ 32 → Comes highest size
    comes_by highest size true e sum small = comes_with highest size stay_hart true e (stay_runs e) (stay_member (size p) sum small)
    comes_by highest size false e sum small = comes_with highest size gone_hart false e (gone_runs e) (gone_member (size p))

  -- ---- all of them

  abbrev Gone : MachineSetting → (highest : ℕ) → (Owner → ℕ) → List Member → List Owner → Type 0
  Gone t highest size ms ps = AllComeByWay core image places nestings i op Shrink setting t shrink_goes_on (λ p. None) highest 0 size ms ps

  all_gone : (t : MachineSetting) (own : Memory) (highest : ℕ) (size : Owner → ℕ) (ms : List Member) (ps : List Owner) → Holds image t → ((p : Owner) → own first ≡ size p)
      → ((p : Owner) → size p < 2 ^ 32) → AllAreAt (suc (suc (suc (suc (suc k))))) ms → Both (Counted own) ms ps → Gone t highest size ms ps
  all_gone t own highest size [] [] holds sum small stand all = tt
  all_gone t own highest size (m ∷ ms) (p ∷ ps) holds sum small stand all = (
    comes_by t own m p holds all.0 stand.0 highest size (stays p.runner.has) refl (sum p) (small p),
    all_gone t own highest size ms ps holds sum small stand.2 all.1,
  )
  all_gone t own highest size ms ps holds sum small stand all = absurd (assumption all)

  came_all : (ms : List Member) (ps : List Owner) → AllEnter core image places nestings i op Shrink setting cycle0 None first ms ps → AreInPart nestings ps → Both Came ms ps
  came_all [] [] all part = tt
  came_all (m ∷ ms) (p ∷ ps) all part = (record { enters = all.0; member = all.1; part = part.0 }, came_all ms ps all.2 part.1)
  came_all ms ps all part = absurd (assumption all)

  due_here : (v : Memory) (m : Member) (p : Owner) → Counted v m p → (has_room Shrink p.runner.has ≡ true) × (p.runner.left.at ≡ i)
  due_here v m p counted = (refl, counted.near.ready.came.enters.index)

  given_all : (ms : List Member) (ps : List Owner) → Both Ready ms ps → Both Given ms ps
  given_all [] [] all = tt
  given_all (m ∷ ms) (p ∷ ps) all = (gives image mine 10 28 other word count Ready to_count m p all.0, given_all ms ps all.1)
  given_all ms ps all = absurd (assumption all)

  -- as many as stay
  gives_by : (p : Owner) (b : Bool) → stays p.runner.has ≡ b → GivesOne word count first b p
  gives_by p true e = (eq-eqb first first refl, ap from_bool e)
  gives_by p false e = inr (ap from_bool e)

  counted_size : (ps : List Owner) → length ps ≤ 1024 → sum_from 0 (shares word count first ps) ≡ size_of_stay ps
  counted_size ps few =
      let sum = sum_is word count (λ p. stays p.runner.has) first 0 ps (every_owner (λ p. GivesOne word count first (stays p.runner.has) p) ps (λ p. gives_by p (stays p.runner.has) refl)) (omega arith) in
      omega arith

  -- ---- together

  abbrev Goal : List Owner → List Member → List Doing → Memory → Type 0
  Goal ps ms' ds own' =
      (ds ≡ map (is_due core i op Shrink) ps) × (Gone (later (in_cycles 4 cycle0)) (highest_value ps) (size_behind Shrink ps) ms' ps × IsAtRest first own')

  abbrev AtCommit : List Owner → List Member → Memory → Type 0
  AtCommit ps ms own = Commits (core_source core setting) image mine (in_cycles 4 cycle0) 1 ms ps own (Goal ps)

  abbrev AtLoad : List Owner → List Member → Memory → Type 0
  AtLoad ps ms own = NodeCycle image mine (in_cycles 3 cycle0) 0 ms own (λ ms' own'. AtCommit ps ms' own')

  abbrev AtAdd : List Owner → List Member → Memory → Type 0
  AtAdd ps ms own = NodeCycle image mine (in_cycles 2 cycle0) 0 ms own (λ ms' own'. AtLoad ps ms' own')

  abbrev AtFlag : List Owner → List Member → Memory → Type 0
  AtFlag ps ms own = NodeCycle image mine (in_cycles 1 cycle0) 0 ms own (λ ms' own'. AtAdd ps ms' own')

  -- all have added to the word
  abbrev IsSum : List Owner → Memory → Memory → Type 0
  IsSum ps own own' = (w : ℕ) → own' w ≡ sum_from (own w) (shares word count w ps)

  -- the two words are as they were
  rests : (p : Owner) (others : List Owner) (own summed own' : Memory) → IsAtRest first own → IsSum (p ∷ others) own summed
      → ((w : ℕ) → own' w ≡ last_or (summed w) (shares (λ q. word q + 0) nothing_each w (p ∷ others))) → IsAtRest first own'
  rests p others own summed own' rest sum cleared =
      let ps = p ∷ others in
      let apart : EachOwner (λ q. first + 1 ≡ word q + 0 → ⊥) ps = every_owner (λ q. first + 1 ≡ word q + 0 → ⊥) ps (λ q e. omega arith) in
      let apart' : EachOwner (λ q. first + 1 ≡ word q → ⊥) ps = every_owner (λ q. first + 1 ≡ word q → ⊥) ps (λ q e. omega arith) in
      record {
        barrier = cleared (first + 0) ∙ is_cleared (λ q. word q + 0) (first + 0) (summed (first + 0)) ps (inl refl);
        closing =
            cleared (first + 1) ∙ ap (last_or (summed (first + 1))) (no_shares (λ q. word q + 0) nothing_each (first + 1) ps apart)
            ∙ sum (first + 1) ∙ ap (sum_from (own (first + 1))) (no_shares word count (first + 1) ps apart') ∙ rest.closing;
      }

  commit_step : (p : Owner) (others : List Owner) (ms : List Member) (own summed : Memory) → Holds image cycle0 → IsAtRest first own → length (p ∷ others) ≤ 1024 → IsSum (p ∷ others) own summed
      → AllAreAt (suc (suc (suc (suc k)))) ms → Both (Counted summed) ms (p ∷ others) → AtCommit (p ∷ others) ms summed
  commit_step p others ms own summed holds rest few sum stand all =
      let ps = p ∷ others in
      let cycle4 = in_cycles 4 cycle0 in
      let k4 = suc (suc (suc (suc k))) in
      let nought : own first ≡ 0 = ap own same_word ∙ rest.barrier in
      let size_is : summed first ≡ size_of_stay ps = sum first ∙ ap (λ v. sum_from v (shares word count first ps)) nought ∙ counted_size ps few in
      let pass = few_pass (λ q. stays q.runner.has) ps in
      let small : size_of_stay ps < 2 ^ 32 = omega arith in
      cycle_commits (core_source core setting) image mine cycle4 1 ms ps (map (is_due core i op Shrink) ps) summed
      (λ ms' own'. Gone (later cycle4) (highest_value ps) (size_behind Shrink ps) ms' ps × IsAtRest first own')
      owns.apart
      (all_due core setting i op Shrink (Counted summed) ms ps place.stands refl (due_here summed) all)
      (cycle_map image mine cycle4 1 ms summed
      (λ ms' own'. AllAreAt (suc k4) ms' × Both (Counted summed) ms' ps × ((w : ℕ) → own' w ≡ last_or (summed w) (shares (λ q. word q + 0) nothing_each w ps)))
      (λ ms' own'. Gone (later cycle4) (highest_value ps) (size_behind Shrink ps) ms' ps × IsAtRest first own')
      (λ ms' own' x. (
        all_gone (later cycle4) summed (highest_value ps) (size_behind Shrink ps) ms' ps holds (λ q. size_is) (λ q. small) x.0 x.1,
        rests p others own summed own' rest sum x.2,
      ))
      (last_cycle image mine 10 28 other word count Ready to_count summed cycle4 k4 ms ps summed holds place.block.lines.1.1.1.1.0 stand all))
    where
      same_word : first ≡ first + 0
      same_word = omega arith

  load_step : (p : Owner) (others : List Owner) (ms : List Member) (own summed : Memory) → Holds image cycle0 → IsAtRest first own → length (p ∷ others) ≤ 1024 → IsSum (p ∷ others) own summed
      → AllAreAt (suc (suc (suc k))) ms → Both Given ms (p ∷ others) → AtLoad (p ∷ others) ms summed
  load_step p others ms own summed holds rest few sum stand all =
      let ps = p ∷ others in
      let k3 = suc (suc (suc k)) in
      cycle_map image mine (in_cycles 3 cycle0) 0 ms summed (λ ms' own'. AllAreAt (suc k3) ms' × Both (Counted summed) ms' ps × (own' ≡ summed)) (λ ms' own'. AtCommit ps ms' own')
      (λ ms' own' x. subst (AtCommit ps ms') (sym x.2) (commit_step p others ms' own summed holds rest few sum x.0 x.1))
      (load_cycle image mine 10 28 other word count Ready to_count (in_cycles 3 cycle0) k3 ms ps summed holds place.block.lines.1.1.1.0 stand all)

  add_step : (p : Owner) (others : List Owner) (ms : List Member) (own : Memory) → Holds image cycle0 → IsAtRest first own → length (p ∷ others) ≤ 1024
      → AllAreAt (suc (suc k)) ms → Both Given ms (p ∷ others) → AtAdd (p ∷ others) ms own
  add_step p others ms own holds rest few stand all =
      let ps = p ∷ others in
      let k2 = suc (suc k) in
      cycle_map image mine (in_cycles 2 cycle0) 0 ms own (λ ms' own'. AllAreAt (suc k2) ms' × Both Given ms' ps × IsSum ps own own') (λ ms' own'. AtLoad ps ms' own')
      (λ ms' own' x. load_step p others ms' own own' holds rest few x.2 x.0 x.1)
      (add_cycle image mine 10 28 other word count Ready to_count (in_cycles 2 cycle0) k2 ms ps own holds place.block.lines.1.1.0 stand all)

  flag_step : (p : Owner) (others : List Owner) (ms : List Member) (own : Memory) → Holds image cycle0 → IsAtRest first own → length (p ∷ others) ≤ 1024
      → AllAreAt (suc k) ms → Both Loaded ms (p ∷ others) → AtFlag (p ∷ others) ms own
  flag_step p others ms own holds rest few stand all =
      let ps = p ∷ others in
      let cycle1 = in_cycles 1 cycle0 in
      cycle_map image mine cycle1 0 ms own (λ ms' own'. AllAreAt (suc (suc k)) ms' × Both Ready ms' ps × (own' ≡ own)) (λ ms' own'. AtAdd ps ms' own')
      (λ ms' own' x. subst (AtAdd ps ms') (sym x.2) (add_step p others ms' own holds rest few x.0 (given_all ms' ps x.1)))
      (alone_cycle image mine cycle1 (suc k) (Sltu t3 zero_register t3) flagged Loaded Ready ms ps own holds place.block.lines.1.0 (λ m. (refl, refl)) (λ m q l s. (s.reserved, refl)) ready stand all)

  together : (p : Owner) (others : List Owner) (ms : List Member) (own : Memory) → Holds image cycle0 → IsAtRest first own → length (p ∷ others) ≤ 1024 → Both Came ms (p ∷ others)
      → Together (core_source core setting) image mine cycle0 1 4 ms (p ∷ others) own (Goal (p ∷ others))
  together p others ms own holds rest few all =
      let ps = p ∷ others in
      let load : Member → Hart = λ m. load_hart m.hart in
      cycle_map image mine cycle0 0 ms own (λ ms' own'. AllAreAt (suc k) ms' × Both Loaded ms' ps × (own' ≡ own)) (λ ms' own'. AtFlag ps ms' own')
      (λ ms' own' x. subst (AtFlag ps ms') (sym x.2) (flag_step p others ms' own holds rest few x.0 x.1))
      (alone_cycle image mine cycle0 k (operand t3 op.depth) load Came Loaded ms ps own holds place.block.lines.0 (λ m. (refl, refl)) (loads cycle0) loaded
      (all_stand k Came ms ps (λ m q came. at_block core image places nestings i op Shrink setting cycle0 first m q came.enters) all) all)

pub parts_shrink : PartsShrink
parts_shrink core image bound places nestings i op place opens plain setting t mine first [] [] own owns all part few rest = record { counted = tt; chain = (refl, tt, rest) }
parts_shrink core image bound places nestings i op place opens plain setting t mine first (m ∷ ms) (p ∷ ps) own owns all part few rest =
    let came = came_all core image bound places nestings i op place opens plain setting t mine first owns (m ∷ ms) (p ∷ ps) all part in
    let gone : List Member → Type 0 = λ ms'. AllMove core image places nestings i op Shrink setting (later (in_cycles 4 t)) shrink_goes_on (λ q. None) 0 ms' (p ∷ ps) in
    together_map (core_source core setting) image mine t 1 4 (m ∷ ms) (p ∷ ps) own
    (λ ms' ds own'. (ds ≡ map (is_due core i op Shrink) (p ∷ ps)) × (gone ms' × IsAtRest first own'))
    (λ ms' ds own'. (ds ≡ map (is_due core i op Shrink) (p ∷ ps)) × gone ms' × IsAtRest first own')
    (λ ms' ds own' x. (x.0, x.1.0, x.1.1))
    (together core image bound places nestings i op place opens plain setting t mine first owns p ps (m ∷ ms) own all.0.running.code rest few came)
parts_shrink core image bound places nestings i op place opens plain setting t mine first ms ps own owns all part few rest = absurd (assumption all)
