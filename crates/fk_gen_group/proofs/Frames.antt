-- A group frame is taken, or has no room.
use Rattle.std.proofs.Common.{◌≡◌, ℕ, zero, suc, ◌+◌, ◌*◌, ◌^◌, ◌<◌, ◌≤◌, List, [], ◌∷◌, ◌++◌, length, map, Bool, true, false, Option, Some, None, sym, ap, subst, ◌∙◌, arith, refl, inl, inr, eq-eqb, length-append}
use Rattle.std.specs.Prelude.{◌==◌, is_some, if◌then◌else◌}
use Rattle.std.proofs.lemmas.List.{length-map}
use Rattle.std.proofs.lemmas.Bool.{cases_lt, lt-ltb, le-ltb, le-leb, lt-leb, ne_eqb}
use Rattle.fk_num.specs.Word.{put, word, word_sum}
use Rattle.fk_space.specs.Space.{Space, free, frame}
use Rattle.fk_meaning_operation.specs.declared.operation.Operation.TheVariants.{Frame}
use Rattle.fk_meaning_store.specs.Store.{address_of}
use Rattle.fk_meaning.specs.Processor.{Level, Setting}
use Rattle.fk_meaning.specs.Group.{framed}
use Rattle.fk_core.specs.declared.op.CoreOp.{CoreOp}
use Rattle.fk_core.specs.Next.{position}
use Rattle.fk_image.specs.declared.Image.{Image}
use Rattle.fk_isa.specs.declared.instruction.Instruction.TheVariants.{Lui, Addi, Add, Sw}
use Rattle.fk_machine.specs.declared.stand.Stand.TheVariants.{Faulted}
use Rattle.fk_machine.specs.Place.{place_of}
use Rattle.fk_machine.specs.Hart.{Hart, Stops, Setting as MachineSetting}
use Rattle.fk_machine.specs.Run.{count_in}
use Rattle.fk_machine.proofs.Performs.{writes, moves, sw-fault}
use Rattle.fk_machine.proofs.Places.{place_of-fault}
use Rattle.fk_sim_nodes.specs.Node.{Member}
use Rattle.fk_sim_nodes.specs.Alone.{Holds, IsAt, RunsPrivately, later, in_cycles}
use Rattle.fk_sim_nodes.specs.OneHart.{OneDoes}
use Rattle.fk_sim_nodes.proofs.InPlace.{step_at}
use Rattle.fk_sim_block.specs.Owner.{Owner, number_of, core_source}
use Rattle.fk_sim_block.specs.Stands.{Places, frame_start, frame_end, group_word, local_address, end_register, device_register, zero_register, frame_register, number_register, rank_register, size_register, top_register, local_register, shared_register, heap_register, shared_mask_register, heap_mask_register, group_frame_register}
use Rattle.fk_sim_block.specs.Suits.{TakesFrame}
use Rattle.fk_sim_block.specs.Block.{Enters}
use Rattle.fk_sim_block.specs.Node.{Nestings, KnowsSpace, HasOuter, first_word, control_address, saved_at, frames_register, blocks_register, space_frames, node_register, frames_word}
use Rattle.fk_sim_block.specs.Lockstep.{IsMember, IsInGroup, is_due}
use Rattle.fk_gen.specs.Lines.{quiet, high_part, low_part, add_by, add_number, at_group_frame}
use Rattle.fk_gen.specs.InPlace.{LinesAt}
use Rattle.fk_gen.proofs.Values.{other_word, value_place, number_of_parts, number_of_low_part, sum_of_low, sum_of_parts}
use Rattle.fk_gen.proofs.Walk.{Quiets, Plain, LocalAt, walk, walked, private, runs_join, lines_split, can_run_goes, told_of}
use Rattle.fk_gen.proofs.Jumps.{goes_to_pc, bgeu_taken, bgeu_on}
use Rattle.fk_gen.proofs.Does.{holds_in_cycles}
use Rattle.fk_gen.proofs.Standing.{InMemory, in_memory, stands_as, stands_in_space, with_frame, frame_written, part_taken}
use Rattle.fk_gen.specs.Registers.{t0, t1}
use Rattle.fk_gen_group.specs.Blocks.{frame_lines, first_taking, second_taking}
use Rattle.fk_gen_group.specs.Laws.{IsInPlace, GroupsTakeFrames}
use Rattle.fk_gen_group.proofs.Members.{due_part, fault_part}
use Rattle.fk_gen_group.proofs.Levels.{outer_by, many_callers}
use Rattle.fk_gen_group.proofs.Taking.{Takes, step_together}

group_below : (places : Places) (n : ℕ) → group_word n < frame_start places n + 7
group_below places zero = omega arith
group_below places (suc n) = omega arith

module _ (core : List CoreOp) (image : Image) (bound : ℕ → ℕ) (places : Places) (nestings : Nestings) (i : ℕ) (op : CoreOp) (nesting words : ℕ)
    (place : IsInPlace core image bound places nestings i op (Frame nesting words)) (small : op.site < 2 ^ 32)
    (setting : Setting) (first highest lowest size : ℕ) (cycle0 : MachineSetting) (m : Member) (p : Owner)
    (en : Enters core image places setting cycle0 i op (Frame nesting words) p m.hart) (member : IsMember places nestings setting None first m p) (inside : IsInGroup p) where
  abbrev n : ℕ
  n = length p.runner.has.callers

  abbrev k : ℕ
  k = places.block i

  abbrev space : Space
  space = p.runner.has.level.space

  at_block : m.hart.pc ≡ 4 * k
  at_block = en.at.at ∙ ap (λ j. 4 * places.block j) en.index

  known : (m.hart.registers frames_register ≡ control_address space.frames) × (m.hart.registers blocks_register ≡ control_address space.blocks)
  known = subst (λ o. KnowsSpace p.runner.has.level o m.hart) inside.outer member.node.space

  -- ---- where the frame ends

  -- the hart after so many lines, with that address in t0
  record HasSum (count : ℕ) : Type 0 where
    pub hart : Hart
    pub runs : RunsPrivately image cycle0 m.number count m.hart hart
    pub at : hart.pc ≡ 4 * (k + count)
    pub live : hart.ended ≡ false
    pub sum : hart.registers t0 ≡ word (m.hart.registers frames_register + 4 * words)
    pub local : hart.local ≡ m.hart.local
    pub same : (r : ℕ) → (r == 5) ≡ false → hart.registers r ≡ m.hart.registers r

  sum_by : (short : Bool) → (high_part (4 * words) == 0) ≡ short → LinesAt image bound k (map quiet (add_by short (4 * words) 12)) → HasSum (length (add_by short (4 * words) 12))
  sum_by true e lines =
      let number = 4 * words in
      let quiets : Quiets = (Addi t0 frames_register (low_part number), Plain) ∷ [] in
      let w = walked image bound cycle0 m.number en.running.code quiets k m.hart lines at_block en.at.live (tt, tt) in
      record {
        hart = walk (told_of cycle0 m.number) quiets m.hart;
        runs = w.runs;
        at = w.pc;
        live = w.live;
        sum = sum_of_low (space_frames m.hart) (low_part number) number (number_of_low_part number e);
        local = refl;
        same = λ r f. rw f;
      }
  sum_by false e lines =
      let number = 4 * words in
      let quiets : Quiets = (Lui t0 (high_part number), Plain) ∷ (Addi t0 t0 (low_part number), Plain) ∷ (Add t0 t0 frames_register, Plain) ∷ [] in
      let w = walked image bound cycle0 m.number en.running.code quiets k m.hart lines at_block en.at.live (tt, (tt, (tt, tt))) in
      record {
        hart = walk (told_of cycle0 m.number) quiets m.hart;
        runs = w.runs;
        at = w.pc;
        live = w.live;
        sum = sum_of_parts (space_frames m.hart) (word_sum (high_part number * 4096) (low_part number)) number (number_of_parts number);
        local = refl;
        same = λ r f. rw f;
      }

  -- ---- the two ways

  abbrev Done : (count : ℕ) → Type 0
  Done count = OneDoes (core_source core setting) image cycle0 1 (count + 4) 0 m p (Takes core image places nestings i op (Frame nesting words) setting first highest lowest size m.number p)

  module _ (count : ℕ) (sum : HasSum count) (lines : LinesAt image bound (k + count) (frame_lines nesting op.site)) (next : places.block (suc i) ≡ k + count + 8) where
    abbrev k1 : ℕ
    k1 = k + count

    abbrev cycle1 : MachineSetting
    cycle1 = in_cycles count cycle0

    abbrev h2 : Hart
    h2 = writes sum.hart 6 (0xf8000 * 4096)

    holds1 : Holds image cycle1
    holds1 = holds_in_cycles image count cycle0 en.running.code

    -- without room the site faults
    faults : free space < words → Done count
    faults lt =
        let few = place.fits.place in
        let is = en.ready.may in
        let header = is.header in
        let ordered = is.ordered in
        let within = is.within in
        let shared = is.shared in
        let frames = known.0 in
        let blocks = known.1 in
        let s = sum.sum in
        let at1 = sum.at in
        let l0 = lines.0 in
        let l1 = lines.1.0 in
        let l2 = lines.1.1.0 in
        let l3 = lines.1.1.1.0 in
        let l4 = lines.1.1.1.1.0 in
        let near = l4.within in
        let v4 = high_part op.site * 4096 in
        let v5 = word_sum v4 (low_part op.site) in
        let h3 = goes_to_pc h2 (word_sum h2.pc 4) in
        let h4 = writes h3 t1 v4 in
        let h5 = writes h4 t1 v5 in
        let cycle2 = later cycle1 in
        let cycle3 = later cycle2 in
        let t4 = later cycle3 in
        let t5 = in_cycles (count + 4) cycle0 in
        let holds = en.running.code in
        let b : h2.registers blocks_register ≡ control_address space.blocks = sum.same blocks_register refl ∙ blocks in
        let e2 : h2.pc ≡ 4 * suc k1 = omega arith in
        let e3 : h3.pc ≡ 4 * suc (suc k1) = omega arith in
        let e4 : h4.pc ≡ 4 * suc (suc (suc k1)) = omega arith in
        let e5 : h5.pc ≡ 4 * suc (suc (suc (suc k1))) = omega arith in
        let device : h5.registers device_register ≡ 0x30000000 = sum.same device_register refl ∙ en.at.stands.devices in
        let no_room = ap (λ x. is_some (if x then None else Some (record space { frames = space.frames + words }))) (lt-ltb (free space) words lt) in
        record {
          committing = h5;
          runs = runs_join image cycle0 m.number count 4 m.hart sum.hart h5 sum.runs (
            h2,
            private image cycle1 m.number k1 (Lui t1 0xf8000) sum.hart h2 holds1 l0 at1 sum.live (λ s. (s.reserved, refl)),
            (
              h3,
              bgeu_on image cycle2 m.number (suc k1) 13 5 16 h2 holds1 l1 e2 sum.live (lt-leb (h2.registers t0) (h2.registers blocks_register) (omega arith)),
              (
                h4,
                private image cycle3 m.number (suc (suc k1)) (Lui t1 (high_part op.site)) h3 h4 holds1 l2 e3 sum.live (λ s. (s.reserved, refl)),
                (
                  h5,
                  private image t4 m.number (suc (suc (suc k1))) (Addi t1 t1 (low_part op.site)) h4 h5 holds1 l3 e4 sum.live (λ s. (s.reserved, refl)),
                  refl,
                ),
              ),
            ),
          );
          commits = record {
            live = sum.live;
            counted = ap (count_in image.commits.items) e5 ∙ l4.counted;
            does = λ s. inr (record {
              site = op.site;
              part = fault_part core setting i op (Frame nesting words) s p place.stands refl no_room en.index;
              stops = λ earlier sh shows.
                  step_at image (suc (suc (suc (suc k1)))) 1 (Sw device_register t1 8) l4 t5 (holds_in_cycles image (count + 4) cycle0 holds) m.number h5 sh e5
                  ∙ sw-fault t5 m.number 26 6 8 h5 sh (omega (arith, device)) (ap (λ a. place_of (word_sum a 8)) device ∙ place_of-fault)
                  ∙ ap (λ v. Stops (Faulted v m.number)) (number_of_parts op.site ∙ site_is);
            });
          };
        }
      where
        site_is : word op.site ≡ op.site
        site_is = omega arith

    -- else the frames of the group end where it does
    abbrev address : ℕ
    address = word_sum (0xf8000 * 4096) (sum.hart.registers frames_register)

    abbrev k5 : ℕ
    k5 = suc (suc (suc (suc (suc k1))))

    abbrev cycle3 : MachineSetting
    cycle3 = later (later cycle1)

    abbrev h3 : Hart
    h3 = goes_to_pc h2 (word_sum h2.pc 16)

    abbrev larger : Space
    larger = record space { frames = space.frames + words }

    -- what the frame makes of its processor
    abbrev taken : Option Space → Owner
    taken o = record { runner = record { left = position (suc i) p.runner.left.callers; has = framed nesting p.runner.has o }; heap = p.heap }

    abbrev as_taken : Owner
    as_taken = with_frame core places (suc i) nesting space.frames p

    address_is : address ≡ address_of space.frames
    address_is =
        let is = en.ready.may in
        let ordered = is.ordered in
        let within = is.within in
        let shared = is.shared in
        let frames = known.0 in
        let same = sum.same frames_register refl in
        omega arith

    pc3 : h3.pc ≡ 4 * k5
    pc3 =
        let at1 = sum.at in
        let l7 = lines.1.1.1.1.1.1.1.0 in
        let near = l7.within in
        omega arith

    -- a hart that has taken it, but for the end of the group's frames
    record HasTaken : Type 0 where
      pub hart : Hart
      pub runs : RunsPrivately image cycle3 m.number 2 h3 hart
      pub at : hart.pc ≡ 4 * suc (suc k5)
      pub live : hart.ended ≡ false
      pub end : hart.registers t0 ≡ sum.hart.registers t0
      pub same : (r : ℕ) → (r == 5) ≡ false → (r == 6) ≡ false → (r == 14) ≡ false → hart.registers r ≡ m.hart.registers r
      pub kept : (x : ℕ) → (x ≡ group_word n → ⊥) → hart.local x ≡ m.hart.local x
      pub written : InMemory places hart.local (hart.registers group_frame_register) as_taken

    -- the function's own: a register has its address, and the header what that register had
    own_taken : nesting ≡ 0 → HasTaken
    own_taken own =
        let few = place.few in
        let calls = en.ready.in_range.waiting in
        let depth = en.ready.depth in
        let stands = en.at.stands in
        let within = en.ready.may.within in
        let takes : TakesFrame core places.frames nesting i (suc i) = place.fits.goes_on in
        let w = group_word n in
        let old = m.hart.registers group_frame_register in
        let h4 : Hart = record (moves h3) { local = put sum.hart.local w (sum.hart.registers group_frame_register) } in
        let h5 = writes h4 group_frame_register address in
        let is : (nesting == 0) ≡ true = eq-eqb nesting 0 own in
        let l5 = subst (λ b. IsAt image k5 (first_taking b) 0) is lines.1.1.1.1.1.0 in
        let l6 = subst (λ b. IsAt image (suc k5) (second_taking b) 0) is lines.1.1.1.1.1.1.0 in
        let near = lines.1.1.1.1.1.1.1.0.within in
        let e3 = pc3 in
        let e4 : h4.pc ≡ 4 * suc k5 = omega arith in
        let e5 : h5.pc ≡ 4 * suc (suc k5) = omega arith in
        let end : h3.registers end_register ≡ local_address (frame_end n) = sum.same end_register refl ∙ stands.behind in
        let word_at = value_place (h3.registers end_register) n 61 end calls (omega arith) (omega arith) in
        let memory : put m.hart.local w old ≡ h5.local =
        sym (ap (λ l. put l w (sum.hart.registers group_frame_register)) sum.local ∙ ap (put m.hart.local w) (sum.same group_frame_register refl)) in
        let as_own : InMemory places (put m.hart.local w old) (address_of space.frames) (with_frame core places (suc i) 0 space.frames p) =
        frame_written core places m.hart.local old p i (suc i) space.frames op.depth few calls en.index place.fits.room (omega arith)
        (subst (λ x. TakesFrame core places.frames x i (suc i)) own takes) (omega arith) (in_memory places p m.hart stands) in
        let here : InMemory places (put m.hart.local w old) (address_of space.frames) as_taken =
        subst (λ x. InMemory places (put m.hart.local w old) (address_of space.frames) (with_frame core places (suc i) x space.frames p)) (sym own) as_own in
        record {
          hart = h5;
          runs = (
            h4,
            private image cycle3 m.number k5 (Sw end_register group_frame_register at_group_frame) h3 h4 holds1 l5 e3 sum.live
                (λ s. can_run_goes (Sw end_register group_frame_register at_group_frame) (LocalAt w) h3 (word_at.0, word_at.1) cycle3 m.number s),
            (h5, private image (later cycle3) m.number (suc k5) (Add group_frame_register t1 frames_register) h4 h5 holds1 l6 e4 sum.live (λ s. (s.reserved, refl)), refl),
          );
          at = e5;
          live = sum.live;
          end = refl;
          same = λ r a b c. rw (c, b) (sum.same r a);
          kept = λ x e. ap (λ l. l x) (sym memory) ∙ other_word m.hart.local w old x e;
          written = subst (λ a. InMemory places h5.local a as_taken) (sym address_is) (subst (λ l. InMemory places l (address_of space.frames) as_taken) memory here);
        }

    -- that of a part
    part_is_taken : 0 < nesting → HasTaken
    part_is_taken part =
        let stands = en.at.stands in
        let takes : TakesFrame core places.frames nesting i (suc i) = place.fits.goes_on in
        let old = m.hart.registers group_frame_register in
        let h4 = writes h3 t1 (word_sum (h3.registers t1) 0) in
        let h5 = writes h4 t1 (word_sum (h4.registers t1) 0) in
        let is : (nesting == 0) ≡ false = ne_eqb nesting 0 (λ e. omega (arith, e, part)) in
        let l5 = subst (λ b. IsAt image k5 (first_taking b) 0) is lines.1.1.1.1.1.0 in
        let l6 = subst (λ b. IsAt image (suc k5) (second_taking b) 0) is lines.1.1.1.1.1.1.0 in
        let near = lines.1.1.1.1.1.1.1.0.within in
        let e3 = pc3 in
        let e4 : h4.pc ≡ 4 * suc k5 = omega arith in
        let e5 : h5.pc ≡ 4 * suc (suc k5) = omega arith in
        let here : InMemory places m.hart.local old as_taken =
        part_taken core places m.hart.local old p i (suc i) nesting space.frames en.index part takes (in_memory places p m.hart stands) in
        record {
          hart = h5;
          runs = (
            h4,
            private image cycle3 m.number k5 (Addi t1 t1 0) h3 h4 holds1 l5 e3 sum.live (λ s. (s.reserved, refl)),
            (h5, private image (later cycle3) m.number (suc k5) (Addi t1 t1 0) h4 h5 holds1 l6 e4 sum.live (λ s. (s.reserved, refl)), refl),
          );
          at = e5;
          live = sum.live;
          end = refl;
          same = λ r a b c. rw b (sum.same r a);
          kept = λ x e. ap (λ l. l x) sum.local;
          written = subst (λ a. InMemory places h5.local a as_taken) (sym (sum.same group_frame_register refl)) (subst (λ l. InMemory places l old as_taken) (sym sum.local) here);
        }

    frame_taken : (number : ℕ) → nesting ≡ number → HasTaken
    frame_taken zero e = own_taken e
    frame_taken (suc number) e = part_is_taken (omega (arith, e))

    abbrev at_end : HasTaken → Hart
    at_end x = writes x.hart frames_register (word_sum (x.hart.registers t0) 0)

    stands_behind : (x : HasTaken) → words ≤ free space → (at_end x).pc ≡ 4 * places.block (suc i) → IsMember places nestings setting None first (record m { hart = at_end x }) (taken (Some larger))
    stands_behind x le pc =
        let is = en.ready.may in
        let header = is.header in
        let ordered = is.ordered in
        let within = is.within in
        let shared = is.shared in
        let frames = known.0 in
        let blocks = known.1 in
        let total = sum.sum in
        let end = x.end in
        let few = place.few in
        let calls = en.ready.in_range.waiting in
        let depth = en.ready.depth in
        let stands = en.at.stands in
        let here = en.index in
        let h6 = at_end x in
        let callers = p.runner.left.callers in
        let many = many_callers places nestings m.hart.local callers p.runner.has.callers stands.waiting in
        let below = group_below places n in
        let outer =
        outer_by places nestings setting.processors (number_of p) m.hart.local x.hart.local i (suc i) callers p.runner.has.outer few place.stay
        (x.kept 4 (λ e. omega arith))
        (x.kept (frames_word (length callers)) (λ e. omega arith))
        (λ y from lt. x.kept y (λ e. omega arith))
        (λ y from lt.
        let from' = subst (λ c. saved_at places nestings c i ≤ y) many from in
        x.kept y (λ e. omega arith))
        (subst (λ a. HasOuter places nestings setting.processors (number_of p) m.hart.local (a ∷ callers) p.runner.has.outer) here member.node.outer.0) in
        let frames' : h6.registers frames_register ≡ control_address larger.frames = omega arith in
        let blocks' : h6.registers blocks_register ≡ control_address larger.blocks = x.same blocks_register refl refl refl ∙ blocks in
        let level' : Level = record (p.runner.has.level) { space = larger } in
        let first_same : first_word level' p.runner.has.outer ≡ first_word p.runner.has.level p.runner.has.outer =
        ap (first_word level') inside.outer ∙ sym (ap (first_word p.runner.has.level) inside.outer) in
        record {
          number = member.number;
          at = record {
            live = x.live;
            at = pc;
            stands =
                stands_in_space places as_taken h6 larger
                (stands_as places p as_taken m.hart h6 stands (
                  x.same zero_register refl refl refl,
                  x.same frame_register refl refl refl,
                  x.same end_register refl refl refl,
                  x.same number_register refl refl refl,
                  x.same rank_register refl refl refl,
                  x.same size_register refl refl refl,
                  x.same local_register refl refl refl,
                  x.same shared_register refl refl refl,
                  x.same heap_register refl refl refl,
                  x.same shared_mask_register refl refl refl,
                  x.same device_register refl refl refl,
                  x.same heap_mask_register refl refl refl,
                ) refl refl (x.same top_register refl refl refl ∙ stands.top) x.written);
          };
          node = record {
            node = x.same node_register refl refl refl ∙ member.node.node ∙ sym (ap control_address first_same);
            body = tt;
            space = subst (λ o. KnowsSpace level' o h6) (sym inside.outer) (frames', blocks');
            outer = (outer, member.node.outer.1);
          };
          words = first_same ∙ member.words;
        }

    takes_frame : words ≤ free space → Done count
    takes_frame le =
        let few = place.fits.place in
        let is = en.ready.may in
        let ordered = is.ordered in
        let within = is.within in
        let shared = is.shared in
        let frames = known.0 in
        let blocks = known.1 in
        let total = sum.sum in
        let at1 = sum.at in
        let l0 = lines.0 in
        let l1 = lines.1.0 in
        let l7 = lines.1.1.1.1.1.1.1.0 in
        let near = l7.within in
        let cycle2 = later cycle1 in
        let t5 = in_cycles (count + 4) cycle0 in
        let b : h2.registers blocks_register ≡ control_address space.blocks = sum.same blocks_register refl ∙ blocks in
        let e2 : h2.pc ≡ 4 * suc k1 = omega arith in
        let x = frame_taken nesting refl in
        let e5 = x.at in
        let h6 = at_end x in
        let e6 : h6.pc ≡ 4 * places.block (suc i) = omega arith in
        let not_full = le-ltb (free space) words le in
        let room = ap (λ y. is_some (if y then None else Some larger)) not_full in
        let is_taken : frame space words ≡ Some larger = ap (λ y. if y then None else Some larger) not_full in
        record {
          committing = x.hart;
          runs = runs_join image cycle0 m.number count 4 m.hart sum.hart x.hart sum.runs (
            h2,
            private image cycle1 m.number k1 (Lui t1 0xf8000) sum.hart h2 holds1 l0 at1 sum.live (λ s. (s.reserved, refl)),
            (
              h3,
              bgeu_taken image cycle2 m.number (suc k1) 13 5 16 h2 holds1 l1 e2 sum.live (le-leb (h2.registers t0) (h2.registers blocks_register) (omega arith)) (omega arith),
              x.runs,
            ),
          );
          commits = record {
            live = x.live;
            counted = ap (count_in image.commits.items) e5 ∙ l7.counted;
            does = λ s. inl (record {
              hart = h6;
              store = s;
              done = is_due core i op (Frame nesting words) p;
              part = due_part core setting i op (Frame nesting words) s p place.stands refl room en.index;
              goes = λ earlier sh shows. (
                sh,
                step_at image (suc (suc k5)) 1 (Addi frames_register t0 0) l7 t5 (holds_in_cycles image (count + 4) cycle0 en.running.code) m.number x.hart sh e5,
                shows,
                λ j e. refl,
              );
              follows = (
                h6,
                refl,
                (refl, subst (λ o. IsMember places nestings setting None first (record m { hart = h6 }) (taken o)) (sym is_taken) (stands_behind x le e6)),
              );
            });
          };
        }

    does : Done count
    does = elim (cases_lt (free space) words) [
      | inl lt ↦ faults lt
      | inr le ↦ takes_frame le
    ]

  -- ---- by the form of the sum

  does_by : (short : Bool) → (high_part (4 * words) == 0) ≡ short → Done (length (add_by short (4 * words) 12))
  does_by short e =
      let adds = map quiet (add_by short (4 * words) 12) in
      let block = subst (λ b. LinesAt image bound k (map quiet (add_by b (4 * words) 12) ++ frame_lines nesting op.site)) e place.block.lines in
      let long = subst (λ b. places.block (suc i) ≡ k + length (map quiet (add_by b (4 * words) 12) ++ frame_lines nesting op.site)) e place.block.next in
      let split = lines_split image bound k adds (frame_lines nesting op.site) block in
      let many : length adds ≡ length (add_by short (4 * words) 12) = length-map (add_by short (4 * words) 12) quiet in
      let all = length-append adds (frame_lines nesting op.site) in
      does (length (add_by short (4 * words) 12)) (sum_by short e split.0) (subst (λ c. LinesAt image bound (k + c) (frame_lines nesting op.site)) many split.1) (omega arith)

  pub frame_does : Done (length (add_number (4 * words) 12))
  frame_does = does_by (high_part (4 * words) == 0) refl

pub groups_take_frames : GroupsTakeFrames
groups_take_frames core image bound places nestings i op nesting words lowest size place small =
    step_together core image places nestings i op (Frame nesting words) (length (add_number (4 * words) 12) + 4) 0 lowest size
    (λ setting first highest t m p en member inside. frame_does core image bound places nestings i op nesting words place small setting first highest lowest size t m p en member inside)
