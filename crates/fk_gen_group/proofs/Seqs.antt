-- The lowest member comes to a body alone.
use Rattle.std.proofs.Common.{◌≡◌, ◌≢◌, ℕ, suc, ◌+◌, ◌*◌, ◌^◌, ◌<◌, ◌≤◌, List, [], ◌∷◌, ◌++◌, length, map, Bool, true, false, Some, None, sym, ap, subst, ◌∙◌, arith, refl, ◌⊎◌, inr, ⊎_elim, eq-eqb}
use Rattle.std.specs.Prelude.{◌==◌, if◌then◌else◌}
use Rattle.std.proofs.lemmas.Bool.{ne_eqb}
use Rattle.std.proofs.lemmas.List.{length-append}
use Rattle.fk_num.specs.Word.{Memory, word_sum}
use Rattle.fk_meaning_operation.specs.declared.operation.Operation.TheVariants.{Seq}
use Rattle.fk_meaning.specs.Processor.{Setting}
use Rattle.fk_meaning.specs.Group.{has_room}
use Rattle.fk_core.specs.declared.op.CoreOp.{CoreOp}
use Rattle.fk_core.specs.Next.{follows}
use Rattle.fk_image.specs.declared.Image.{Image}
use Rattle.fk_isa.specs.declared.instruction.Instruction.TheVariants.{Addi}
use Rattle.fk_machine.specs.Hart.{Hart, Setting as MachineSetting}
use Rattle.fk_machine.proofs.Performs.{writes, addi}
use Rattle.fk_machine.proofs.Places.{place_of-control}
use Rattle.fk_sim_nodes.specs.Node.{Member, Words, add}
use Rattle.fk_sim_nodes.specs.Alone.{Holds, IsAt, RunsPrivately, NodeCycle, later, in_cycles}
use Rattle.fk_sim_nodes.specs.Together.{Commits, Together}
use Rattle.fk_sim_nodes.specs.OnePlace.{AllAreAt, on_each, onward, onward_with, IsOwnWord, values_for, last_or, sum_from, each_finds}
use Rattle.fk_sim_nodes.proofs.Runs.{cycle_map}
use Rattle.fk_sim_nodes.proofs.Members.{cycle_commits}
use Rattle.fk_sim_nodes.proofs.OnePlace.{private_of_all, stores_of_all, adds_of_all}
use Rattle.fk_sim_block.specs.Owner.{Owner, Doing, number_of, core_source}
use Rattle.fk_sim_block.specs.Stands.{Places, zero_register}
use Rattle.fk_sim_block.specs.Block.{Enters}
use Rattle.fk_gen.specs.Lines.{label_of}
use Rattle.fk_gen.proofs.Walk.{private}
use Rattle.fk_gen.proofs.Jumps.{jumps, goes_to_pc, jal_private, beq_taken, beq_on}
use Rattle.fk_sim_block.specs.Node.{Nestings, OwnsHeader, control_address, agreed_word, node_register, body_register}
use Rattle.fk_sim_block.proofs.Spaces.{space_kept}
use Rattle.fk_sim_block.specs.Lockstep.{IsMember, AllComeAlone, LevelsStay, HaveParted, NoneIs, IsLowest, one_runs, is_due}
use Rattle.fk_gen.specs.Registers.{t0, t1, t2}
use Rattle.fk_gen_group.specs.Laws.{IsInPlace, GroupsSendOne}
use Rattle.fk_gen_group.proofs.Members.{Both, all_stand, entered, at_block, each_on, stand_on, all_alone, all_at_own, all_due}
use Rattle.fk_gen_group.proofs.Behind.{KeepsMost, kept, same_registers, goes_behind}

module _ (core : List CoreOp) (image : Image) (bound : ℕ → ℕ) (places : Places) (nestings : Nestings) (i : ℕ) (op : CoreOp) (place : IsInPlace core image bound places nestings i op Seq)
    (leads : LevelsStay nestings i op.target) (setting : Setting) (cycle0 : MachineSetting) (mine : Words) (first : ℕ) (owns : OwnsHeader mine first) (highest lowest size : ℕ) where
  abbrev word : ℕ
  word = first + agreed_word

  -- a member as it came, and while it has all but the free registers
  abbrev Came : Member → Owner → Type 0
  Came m p = Enters core image places setting cycle0 i op Seq p m.hart × IsMember places nestings setting None first m p

  record Near (m : Member) (p : Owner) : Type 0 where
    pub hart : Hart
    pub came : Came (record m { hart = hart }) p
    pub local : m.hart.local ≡ hart.local
    pub live : m.hart.ended ≡ false
    pub others : (r : ℕ) → r ≢ 5 → r ≢ 6 → r ≢ 7 → m.hart.registers r ≡ hart.registers r

  near_on : (m : Member) (p : Owner) (h : Hart) → h.local ≡ m.hart.local → h.ended ≡ m.hart.ended → ((r : ℕ) → r ≢ 5 → r ≢ 6 → r ≢ 7 → h.registers r ≡ m.hart.registers r) → Near m p
      → Near (record m { hart = h }) p
  near_on m p h local ended others near = record {
    hart = near.hart;
    came = near.came;
    local = local ∙ near.local;
    live = ended ∙ near.live;
    others = λ r a b c. others r a b c ∙ near.others r a b c;
  }

  nought : (m : Member) (p : Owner) → Near m p → m.hart.registers zero_register ≡ 0
  nought m p near = near.others zero_register (λ e. omega arith) (λ e. omega arith) (λ e. omega arith) ∙ near.came.0.at.stands.nought

  -- with the address of the node's word in t2, and with 1 in t1
  record Addressed (m : Member) (p : Owner) : Type 0 where
    pub near : Near m p
    pub address : m.hart.registers t2 ≡ control_address word

  record Ready (m : Member) (p : Owner) : Type 0 where
    pub near : Near m p
    pub address : m.hart.registers t2 ≡ control_address word
    pub one : m.hart.registers t1 ≡ 1

  abbrev addressed_hart : Member → Hart
  addressed_hart m = writes m.hart 7 (word_sum (m.hart.registers node_register) 8)

  abbrev ready_hart : Member → Hart
  ready_hart m = writes m.hart 6 (word_sum (m.hart.registers zero_register) 1)

  addressed : (m : Member) (p : Owner) → Came m p → Addressed (record m { hart = addressed_hart m }) p
  addressed m p came =
      let within = owns.within in
      let e = came.1.node.node ∙ ap control_address came.1.words in
      record {
        near = record { hart = m.hart; came = came; local = refl; live = came.0.at.live; others = λ r a b c. rw (ne_eqb r 7 c) };
        address = omega arith;
      }

  ready : (m : Member) (p : Owner) → Addressed m p → Ready (record m { hart = ready_hart m }) p
  ready m p a =
      let zero_is = nought m p a.near in
      record { near = near_on m p (ready_hart m) refl refl (λ r x y z. rw (ne_eqb r 6 y)) a.near; address = a.address; one = omega arith }

  stored : (m : Member) (p : Owner) → Ready m p → Ready (record m { hart = onward m.hart }) p
  stored m p r = record { near = near_on m p (onward m.hart) refl refl (λ j x y z. refl) r.near; address = r.address; one = r.one }

  at_word : (m : Member) (p : Owner) → Ready m p → IsOwnWord mine (m.hart.registers t2) word
  at_word m p r =
      let within = owns.within in
      let e = r.address in
      record { aligned = omega arith; place = place_of-control _ word (omega arith) (omega arith); own = owns.own agreed_word (omega arith) }

  at_stored : (m : Member) (p : Owner) → Ready m p → IsOwnWord mine (word_sum (m.hart.registers t2) 0) word
  at_stored m p r =
      let within = owns.within in
      let e = r.address in
      record { aligned = omega arith; place = place_of-control _ word (omega arith) (omega arith); own = owns.own agreed_word (omega arith) }

  -- ---- all store 0

  same_word : (r : ℕ) (m : Member) (ms : List Member) → values_for (λ m. word) r word (m ∷ ms) ≡ m.hart.registers r ∷ values_for (λ m. word) r word ms
  same_word r m ms = ap (λ b. add b (m.hart.registers r) (values_for (λ m. word) r word ms)) (eq-eqb word word refl)

  no_values : (r j : ℕ) (ms : List Member) → j ≢ word → values_for (λ m. word) r j ms ≡ []
  no_values r j [] ne = refl
  no_values r j (m ∷ ms) ne = ap (λ b. add b (m.hart.registers r) (values_for (λ m. word) r j ms)) (ne_eqb j word ne) ∙ no_values r j ms ne

  noughts : (v : ℕ) (ms : List Member) (ps : List Owner) → Both Ready ms ps → v ≡ 0 → last_or v (values_for (λ m. word) 0 word ms) ≡ 0
  noughts v [] [] all e = e
  noughts v (m ∷ ms) (p ∷ ps) all e =
      ap (last_or v) (same_word 0 m ms) ∙ noughts (m.hart.registers zero_register) ms ps all.1 (nought m p all.0.near)
  noughts v ms ps all e = absurd (assumption all)

  -- ---- each finds how many have added 1 before

  abbrev Ones : List Member → Type 0
  Ones [] = Unit {0}
  Ones (m ∷ ms) = (m.hart.registers t1 ≡ 1) × Ones ms

  ones_more : (ms : List Member) (m : Member) → Ones ms → m.hart.registers t1 ≡ 1 → Ones (ms ++ m ∷ [])
  ones_more [] m all e = (e, tt)
  ones_more (x ∷ ms) m all e = (all.0, ones_more ms m all.1 e)

  sum_ones : (v : ℕ) (ms : List Member) → Ones ms → v + length ms < 2 ^ 32 → sum_from v (values_for (λ m. word) 6 word ms) ≡ v + length ms
  sum_ones v [] ones lt = omega arith
  sum_ones v (m ∷ ms) ones lt =
      let one = ones.0 in
      let rest = sum_ones (word_sum v (m.hart.registers t1)) ms ones.1 (omega arith) in
      ap (sum_from v) (same_word 6 m ms) ∙ rest ∙ omega arith

  -- it finds 0, or not
  record Found (lowest_is : Bool) (m : Member) (p : Owner) : Type 0 where
    pub near : Near m p
    pub found : (m.hart.registers t0 == m.hart.registers zero_register) ≡ lowest_is

  found_more : (own : Memory) (before ms : List Member) (ps : List Owner) → own word ≡ 0 → Ones before → 0 < length before → length before + length ms < 2 ^ 32 → Both Ready ms ps
      → Both (Found false) (each_finds (λ m. word) 5 6 own before ms) ps
  found_more own before [] [] e ones some lt all = tt
  found_more own before (m ∷ ms) (p ∷ ps) e ones some lt all =
      let n = sum_ones 0 before ones (omega arith) in
      let v = sum_from (own word) (values_for (λ m. word) 6 word before) in
      let is : v ≡ 0 + length before = ap (λ x. sum_from x (values_for (λ m. word) 6 word before)) e ∙ n in
      let zero_is = nought m p all.0.near in
      let many = length-append before (m ∷ []) in (
        record {
          near = near_on m p (onward_with 5 v m.hart) refl refl (λ r x y z. rw (ne_eqb r 5 x)) all.0.near;
          found = ne_eqb v (m.hart.registers zero_register) (λ f. omega (arith, f));
        },
        found_more own (before ++ m ∷ []) ms ps e (ones_more before m ones all.0.one) (omega arith) (omega arith) all.1,
      )
  found_more own before ms ps e ones some lt all = absurd (assumption all)

  -- the lowest finds 0, and the others more
  abbrev FoundAll : List Member → List Owner → Type 0
  FoundAll [] [] = Unit {0}
  FoundAll (m ∷ ms) (p ∷ ps) = Found true m p × Both (Found false) ms ps
  FoundAll ms ps = ⊥

  found_all : (own : Memory) (ms : List Member) (ps : List Owner) → own word ≡ 0 → length ms ≤ 1024 → Both Ready ms ps → FoundAll (each_finds (λ m. word) 5 6 own [] ms) ps
  found_all own [] [] e few all = tt
  found_all own (m ∷ ms) (p ∷ ps) e few all = (
    record {
      near = near_on m p (onward_with 5 (own word) m.hart) refl refl (λ r x y z. rw (ne_eqb r 5 x)) all.0.near;
      found = eq-eqb (own word) (m.hart.registers zero_register) (e ∙ sym (nought m p all.0.near));
    },
    found_more own (m ∷ []) ms ps e (all.0.one, tt) (omega arith) (omega arith) all.1,
  )
  found_all own ms ps e few all = absurd (assumption all)

  -- ---- the cycles

  alone_cycle : (t : MachineSetting) (k rd rs imm : ℕ) (P Q : Member → Owner → Type 0) (ms : List Member) (ps : List Owner) (own : Memory) → Holds image t → IsAt image k (Addi rd rs imm) 0
      → ((m : Member) (p : Owner) → P m p → Q (record m { hart = writes m.hart rd (word_sum (m.hart.registers rs) imm) }) p) → AllAreAt k ms → Both P ms ps
      → NodeCycle image mine t 0 ms own (λ ms' own'. AllAreAt (suc k) ms' × Both Q ms' ps × (own' ≡ own))
  alone_cycle t k rd rs imm P Q ms ps own holds at f stand all =
      let g : Member → Hart = λ m. writes m.hart rd (word_sum (m.hart.registers rs) imm) in
      cycle_map image mine t 0 ms own (λ ms' own'. (ms' ≡ on_each g ms) × (own' ≡ own)) (λ ms' own'. AllAreAt (suc k) ms' × Both Q ms' ps × (own' ≡ own))
      (λ ms' own' x. (
        subst (AllAreAt (suc k)) (sym x.0) (stand_on k g ms at.within (λ m. (refl, refl)) stand),
        subst (λ l. Both Q l ps) (sym x.0) (each_on P Q g ms ps f all),
        x.1,
      ))
      (private_of_all image mine t k 0 (Addi rd rs imm) g ms own holds at stand (all_alone P t (Addi rd rs imm) g ms ps (λ m p x s. (s.reserved, addi t m.number rd rs imm m.hart s)) all))

  store_cycle : (t : MachineSetting) (ms : List Member) (ps : List Owner) (own : Memory) → Holds image t → AllAreAt (suc (suc (places.block i))) ms → Both Ready ms ps
      → NodeCycle image mine t 0 ms own
      (λ ms' own'. AllAreAt (suc (suc (suc (places.block i)))) ms' × Both Ready ms' ps × (((own word ≡ 0) ⊎ (ms ≡ [] → ⊥)) → own' word ≡ 0) × ((j : ℕ) → j ≢ word → own' j ≡ own j))
  store_cycle t ms ps own holds stand all =
      let at = place.block.lines.1.1.0 in
      let k = suc (suc (places.block i)) in
      cycle_map image mine t 0 ms own
      (λ ms' own'. (ms' ≡ on_each (λ m. onward m.hart) ms) × ((j : ℕ) → own' j ≡ last_or (own j) (values_for (λ m. word) 0 j ms)) × AllAreAt (suc k) ms')
      (λ ms' own'. AllAreAt (suc k) ms' × Both Ready ms' ps × (((own word ≡ 0) ⊎ (ms ≡ [] → ⊥)) → own' word ≡ 0) × ((j : ℕ) → j ≢ word → own' j ≡ own j))
      (λ ms' own' x. (
        x.2,
        subst (λ l. Both Ready l ps) (sym x.0) (each_on Ready Ready (λ m. onward m.hart) ms ps stored all),
        λ some. x.1 word ∙ noughts_of (own word) ms ps all some,
        λ j ne. x.1 j ∙ ap (last_or (own j)) (no_values 0 j ms ne),
      ))
      (stores_of_all image mine t k 0 7 0 0 (λ m. word) ms own holds at stand (all_at_own Ready mine (λ h. word_sum (h.registers t2) 0) word ms ps at_stored all))
    where
      noughts_of : (v : ℕ) (ms : List Member) (ps : List Owner) → Both Ready ms ps → ((v ≡ 0) ⊎ (ms ≡ [] → ⊥)) → last_or v (values_for (λ m. word) 0 word ms) ≡ 0
      noughts_of v [] [] all some = ⊎_elim (λ z. z) (λ f. absurd (f refl)) some
      noughts_of v (m ∷ ms) (p ∷ ps) all some = ap (last_or v) (same_word 0 m ms) ∙ noughts (m.hart.registers zero_register) ms ps all.1 (nought m p all.0.near)
      noughts_of v ms ps all some = absurd (assumption all)

  add_cycle : (t : MachineSetting) (ms : List Member) (ps : List Owner) (own : Memory) → Holds image t → own word ≡ 0 → length ms ≤ 1024 → AllAreAt (suc (suc (suc (places.block i)))) ms → Both Ready ms ps
      → NodeCycle image mine t 1 ms own (λ ms' own'. AllAreAt (suc (suc (suc (suc (places.block i))))) ms' × FoundAll ms' ps × ((j : ℕ) → j ≢ word → own' j ≡ own j))
  add_cycle t ms ps own holds e few stand all =
      let at = place.block.lines.1.1.1.0 in
      let k = suc (suc (suc (places.block i))) in
      cycle_map image mine t 1 ms own
      (λ ms' own'. (ms' ≡ each_finds (λ m. word) 5 6 own [] ms) × ((j : ℕ) → own' j ≡ sum_from (own j) (values_for (λ m. word) 6 j ms)) × AllAreAt (suc k) ms')
      (λ ms' own'. AllAreAt (suc k) ms' × FoundAll ms' ps × ((j : ℕ) → j ≢ word → own' j ≡ own j))
      (λ ms' own' x. (
        x.2,
        subst (λ l. FoundAll l ps) (sym x.0) (found_all own ms ps e few all),
        λ j ne. x.1 j ∙ ap (sum_from (own j)) (no_values 6 j ms ne),
      ))
      (adds_of_all image mine t k 1 5 7 6 (λ m. word) ms own holds at stand (all_at_own Ready mine (λ h. h.registers t2) word ms ps at_word all))

  -- ---- behind the commit

  -- where a processor goes on, and with what
  abbrev went : Bool → Owner → Owner
  went b p = record { runner = record { left = follows core Seq i op.target p.runner.left.callers b; has = p.runner.has }; heap = p.heap }

  abbrev Goes : Bool → Member → Owner → Type 0
  Goes b m p = IsMember places nestings setting (if b then Some 1 else None) first m (went b p)

  abbrev lowest_hart : Hart → Hart
  lowest_hart h = writes (goes_to_pc h (word_sum h.pc 8)) 11 (word_sum (h.registers zero_register) 1)

  abbrev other_hart : Hart → Hart
  other_hart h = jumps (goes_to_pc h (word_sum h.pc 4)) 0 (4 * bound (label_of op.target))

  lowest_goes : (t : MachineSetting) (m : Member) (p : Owner) → Holds image t → m.hart.pc ≡ 4 * suc (suc (suc (suc (places.block i)))) → Found true m p
      → RunsPrivately image t m.number 2 m.hart (lowest_hart m.hart) × Goes true (record m { hart = lowest_hart m.hart }) p
  lowest_goes t m p holds pc f =
      let lines = place.block.lines in
      let k = suc (suc (suc (suc (places.block i)))) in
      let at = lines.1.1.1.1.0 in
      let last = lines.1.1.1.1.1.1.0 in
      let within = last.within in
      let next = place.block.next in
      let near = f.near in
      let en = near.came.0 in
      let member = near.came.1 in
      let h1 = goes_to_pc m.hart (word_sum m.hart.pc 8) in
      let zero_is = nought m p near in
      let most : KeepsMost near.hart m.hart = record { live = near.live; local = near.local; others = near.others } in
      let behind = goes_behind core image bound places nestings i op Seq place (suc i) (place.fits.goes_on true) place.stay setting cycle0 None first (record m { hart = near.hart }) p (lowest_hart m.hart) en member near.live near.local
      (same_registers near.hart m.hart most) (kept near.hart m.hart 21 most (omega arith)) (omega arith) in (
        (
          h1,
          beq_taken image t m.number k 5 0 8 m.hart holds at pc near.live f.found (omega arith),
          (
            lowest_hart m.hart,
            private image (later t) m.number (suc (suc k)) (Addi body_register zero_register 1) h1 (lowest_hart m.hart) holds last (omega arith) near.live (λ s. (s.reserved, addi (later t) m.number 11 0 1 h1 s)),
            refl,
          ),
        ),
        record {
          number = member.number;
          at = behind.0;
          node = record {
            node = kept near.hart m.hart 10 most (omega arith) ∙ member.node.node;
            body = omega arith;
            space = space_kept p.runner.has.level p.runner.has.outer near.hart (lowest_hart m.hart) (kept near.hart m.hart 12 most (omega arith)) (kept near.hart m.hart 13 most (omega arith)) member.node.space;
            outer = behind.1;
          };
          words = member.words;
        },
      )

  other_goes : (t : MachineSetting) (m : Member) (p : Owner) → Holds image t → m.hart.pc ≡ 4 * suc (suc (suc (suc (places.block i)))) → Found false m p
      → RunsPrivately image t m.number 2 m.hart (other_hart m.hart) × Goes false (record m { hart = other_hart m.hart }) p
  other_goes t m p holds pc f =
      let lines = place.block.lines in
      let k = suc (suc (suc (suc (places.block i)))) in
      let at = lines.1.1.1.1.0 in
      let jump = lines.1.1.1.1.1.0 in
      let within = jump.within in
      let near = f.near in
      let en = near.came.0 in
      let member = near.came.1 in
      let h1 = goes_to_pc m.hart (word_sum m.hart.pc 4) in
      let most : KeepsMost near.hart (other_hart m.hart) = record { live = near.live; local = near.local; others = near.others } in
      let behind = goes_behind core image bound places nestings i op Seq place op.target (place.fits.goes_on false) leads setting cycle0 None first (record m { hart = near.hart }) p (other_hart m.hart) en member near.live near.local
      (same_registers near.hart (other_hart m.hart) most) (kept near.hart (other_hart m.hart) 21 most (omega arith)) (ap (λ k. 4 * k) (place.block.labels.blocks op.target)) in (
        (
          h1,
          beq_on image t m.number k 5 0 8 m.hart holds at pc near.live f.found,
          (
            other_hart m.hart,
            jal_private image bound (later t) m.number (suc k) 0 (label_of op.target) h1 holds jump (place.block.labels.within (label_of op.target)) (omega arith) near.live,
            refl,
          ),
        ),
        record {
          number = member.number;
          at = behind.0;
          node = record {
            node = kept near.hart (other_hart m.hart) 10 most (omega arith) ∙ member.node.node;
            body = tt;
            space = space_kept p.runner.has.level p.runner.has.outer near.hart (other_hart m.hart) (kept near.hart (other_hart m.hart) 12 most (omega arith)) (kept near.hart (other_hart m.hart) 13 most (omega arith)) member.node.space;
            outer = behind.1;
          };
          words = member.words;
        },
      )

  -- ---- all of them

  abbrev Gone : MachineSetting → List Member → List Owner → Type 0
  Gone t ms ps = AllComeAlone places nestings setting image t 2 (one_runs lowest) first ms (map (λ p. went (number_of p == lowest) p) ps)

  others_gone : (t : MachineSetting) (ms : List Member) (ps : List Owner) → Holds image t → AllAreAt (suc (suc (suc (suc (places.block i))))) ms → Both (Found false) ms ps → NoneIs lowest ps → Gone t ms ps
  others_gone t [] [] holds stand all none = tt
  others_gone t (m ∷ ms) (p ∷ ps) holds stand all none =
      let one = other_goes t m p holds stand.0 all.0 in (
        record { hart = other_hart m.hart; private = one.0; member = subst (λ b. Goes b (record m { hart = other_hart m.hart }) p) (sym none.0) one.1 },
        others_gone t ms ps holds stand.2 all.1 none.1,
      )
  others_gone t ms ps holds stand all none = absurd (assumption all)

  all_gone : (t : MachineSetting) (ms : List Member) (ps : List Owner) → Holds image t → AllAreAt (suc (suc (suc (suc (places.block i))))) ms → FoundAll ms ps → IsLowest lowest ps → Gone t ms ps
  all_gone t [] [] holds stand all is = tt
  all_gone t (m ∷ ms) (p ∷ ps) holds stand all is =
      let one = lowest_goes t m p holds stand.0 all.0 in (
        record { hart = lowest_hart m.hart; private = one.0; member = subst (λ b. Goes b (record m { hart = lowest_hart m.hart }) p) (sym is.0) one.1 },
        others_gone t ms ps holds stand.2 all.1 is.1,
      )
  all_gone t ms ps holds stand all is = absurd (assumption all)

  -- ---- together

  due_here : (m : Member) (p : Owner) → Ready m p → (has_room Seq p.runner.has ≡ true) × (p.runner.left.at ≡ i)
  due_here m p r = (refl, r.near.came.0.index)

  as_many : (P : Member → Owner → Type 0) (ms : List Member) (ps : List Owner) → Both P ms ps → length ms ≡ length ps
  as_many P [] [] all = refl
  as_many P (m ∷ ms) (p ∷ ps) all = ap (λ k. suc k) (as_many P ms ps all.1)
  as_many P ms ps all = absurd (assumption all)

  some_members : (P : Member → Owner → Type 0) (ms : List Member) (p : Owner) (ps : List Owner) → Both P ms (p ∷ ps) → ms ≡ [] → ⊥
  some_members P ms p ps all e = subst (λ l. Both P l (p ∷ ps)) e all

  abbrev Parted : List Owner → Memory → List Member → Memory → Type 0
  Parted ps before ms own = HaveParted core image places nestings i op Seq setting (later (in_cycles 3 cycle0)) 2 (one_runs lowest) first lowest size ps before ms own

  abbrev Goal : List Owner → Memory → List Member → List Doing → Memory → Type 0
  Goal ps own ms' ds own' =
      (ds ≡ map (is_due core i op Seq) ps) × Parted ps own ms' own'

  together : (ms : List Member) (p : Owner) (others : List Owner) (own : Memory) → Holds image cycle0 → length (p ∷ others) ≤ 1024 → IsLowest lowest (p ∷ others) → Both Came ms (p ∷ others)
      → Together (core_source core setting) image mine cycle0 1 3 ms (p ∷ others) own (Goal (p ∷ others) own)
  together ms p others own holds few is all =
      let ps = p ∷ others in
      let cycle1 = later cycle0 in
      let cycle2 = later cycle1 in
      let cycle3 = later cycle2 in
      let t4 = later cycle3 in
      let source = core_source core setting in
      let k = places.block i in
      let lines = place.block.lines in
      cycle_map image mine cycle0 0 ms own (λ ms1 own1. AllAreAt (suc k) ms1 × Both Addressed ms1 ps × (own1 ≡ own))
      (λ ms1 own1. NodeCycle image mine cycle1 0 ms1 own1 (λ ms2 own2. NodeCycle image mine cycle2 0 ms2 own2 (λ ms3 own3. Commits source image mine cycle3 1 ms3 ps own3 (Goal ps own))))
      (λ ms1 own1 x.
      cycle_map image mine cycle1 0 ms1 own1 (λ ms2 own2. AllAreAt (suc (suc k)) ms2 × Both Ready ms2 ps × (own2 ≡ own1))
      (λ ms2 own2. NodeCycle image mine cycle2 0 ms2 own2 (λ ms3 own3. Commits source image mine cycle3 1 ms3 ps own3 (Goal ps own)))
      (λ ms2 own2 y.
      cycle_map image mine cycle2 0 ms2 own2
      (λ ms3 own3. AllAreAt (suc (suc (suc k))) ms3 × Both Ready ms3 ps × (((own2 word ≡ 0) ⊎ (ms2 ≡ [] → ⊥)) → own3 word ≡ 0) × ((j : ℕ) → j ≢ word → own3 j ≡ own2 j))
      (λ ms3 own3. Commits source image mine cycle3 1 ms3 ps own3 (Goal ps own))
      (λ ms3 own3 z.
      cycle_commits source image mine cycle3 1 ms3 ps (map (is_due core i op Seq) ps) own3 (λ ms4 own4. Parted ps own ms4 own4)
      owns.apart
      (all_due core setting i op Seq Ready ms3 ps place.stands refl due_here z.1)
      (let many = as_many Ready ms3 ps z.1 in
      cycle_map image mine cycle3 1 ms3 own3 (λ ms4 own4. AllAreAt (suc (suc (suc (suc k)))) ms4 × FoundAll ms4 ps × ((j : ℕ) → j ≢ word → own4 j ≡ own3 j))
      (λ ms4 own4. Parted ps own ms4 own4)
      (λ ms4 own4 u.
      record { come = all_gone t4 ms4 ps holds u.0 u.1 is; others = λ j ne. u.2 j ne ∙ z.3 j ne ∙ ap (λ o. o j) y.2 ∙ ap (λ o. o j) x.2 })
      (add_cycle cycle3 ms3 ps own3 holds (z.2 (inr (some_members Ready ms2 p others y.1))) (omega arith) z.0 z.1)))
      (store_cycle cycle2 ms2 ps own2 holds y.0 y.1))
      (alone_cycle cycle1 (suc k) 6 0 1 Addressed Ready ms1 ps own1 holds lines.1.0 ready x.0 x.1))
      (alone_cycle cycle0 k 7 10 8 Came Addressed ms ps own holds lines.0 addressed (all_stand k Came ms ps (λ m p came. at_block core image places nestings i op Seq setting cycle0 first m p came.0) all) all)

  none : (own : Memory) → Together (core_source core setting) image mine cycle0 1 3 [] [] own (Goal [] own)
  none own = record { counted = tt; chain = (refl, record { come = tt; others = λ j ne. refl }) }

pub groups_send_one : GroupsSendOne
groups_send_one core image bound places nestings i op lowest size place leads setting t mine first [] [] own owns all asked =
    none core image bound places nestings i op place leads setting t mine first owns 0 lowest size own
groups_send_one core image bound places nestings i op lowest size place leads setting t mine first (m ∷ ms) (p ∷ ps) own owns all asked =
    let came = entered core image places nestings i op Seq setting t first (m ∷ ms) (p ∷ ps) all in
    together core image bound places nestings i op place leads setting t mine first owns 0 lowest size (m ∷ ms) p ps own all.0.running.code asked.0 asked.1 came
groups_send_one core image bound places nestings i op lowest size place leads setting t mine first ms ps own owns all asked = absurd (assumption all)
