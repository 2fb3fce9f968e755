-- How members count how many of them have a word in common.
use Rattle.std.proofs.Common.{◌≡◌, ◌≢◌, ℕ, suc, ◌+◌, ◌-◌, ◌*◌, ◌/◌, ◌<◌, ◌≤◌, List, [], ◌∷◌, ◌++◌, true, false, sym, ap, subst, ◌∙◌, arith, refl}
use Rattle.std.proofs.lemmas.Bool.{ne_eqb}
use Rattle.fk_num.specs.Word.{Memory, word_sum}
use Rattle.fk_image.specs.declared.Image.{Image}
use Rattle.fk_isa.specs.declared.instruction.Instruction.{Instruction}
use Rattle.fk_isa.specs.declared.instruction.Instruction.TheVariants.{Lw, Sw, AmoAddW}
use Rattle.fk_machine.specs.Hart.{Hart, Shared, Setting as MachineSetting}
use Rattle.fk_machine.specs.Step.{perform}
use Rattle.fk_machine.proofs.Places.{place_of-control}
use Rattle.fk_sim_nodes.specs.Node.{Member, Words}
use Rattle.fk_sim_nodes.specs.Alone.{Holds, IsAt, GoesAlone, NodeCycle}
use Rattle.fk_sim_nodes.specs.OnePlace.{AllAreAt, AllAtOwn, on_each, onward, onward_with, IsOwnWord, values_for, last_or, sum_from, each_finds}
use Rattle.fk_sim_nodes.proofs.Runs.{cycle_map}
use Rattle.fk_sim_nodes.proofs.OnePlace.{private_of_all, loads_of_all, stores_of_all, adds_of_all}
use Rattle.fk_sim_block.specs.Owner.{Owner}
use Rattle.fk_sim_block.specs.Node.{control_address, root_words}
use Rattle.fk_sim_block.specs.Stands.{zero_register}
use Rattle.fk_gen.specs.Registers.{t0}
use Rattle.fk_gen_group.proofs.Members.{Both, each_on, stand_on, all_alone}
use Rattle.fk_gen_group.proofs.Shares.{shares, shares_are, nothing_each}

-- the control word at an address
abbrev pub control_index : (address : ℕ) → ℕ
control_index a = (a - 0x18000000) / 4

-- a member at the lines that count: a register has the address of its word, another what it gives
pub record IsToCount (mine : Words) (ra rv : ℕ) (word count : Owner → ℕ) (m : Member) (p : Owner) : Type 0 where
  pub address : m.hart.registers ra ≡ control_address (word p)
  pub within : word p + 8 ≤ root_words + 64
  pub own : (offset : ℕ) → offset < 8 → mine (word p + offset) ≡ true
  pub value : m.hart.registers rv ≡ count p
  pub nought : m.hart.registers zero_register ≡ 0

-- all members run an instruction that touches nothing but the hart
pub alone_cycle : (image : Image) (mine : Words) (t : MachineSetting) (k : ℕ) (ins : Instruction) (g : Member → Hart) (P Q : Member → Owner → Type 0) (ms : List Member) (ps : List Owner) (own : Memory)
    → Holds image t → IsAt image k ins 0 → ((m : Member) → ((g m).pc ≡ word_sum m.hart.pc 4) × ((g m).ended ≡ m.hart.ended))
    → ((m : Member) (p : Owner) → P m p → (s : Shared) → GoesAlone (perform t m.number ins m.hart s) (g m) s) → ((m : Member) (p : Owner) → P m p → Q (record m { hart = g m }) p)
    → AllAreAt k ms → Both P ms ps → NodeCycle image mine t 0 ms own (λ ms' own'. AllAreAt (suc k) ms' × Both Q ms' ps × (own' ≡ own))
alone_cycle image mine t k ins g P Q ms ps own holds at next alone f stand all =
    cycle_map image mine t 0 ms own (λ ms' own'. (ms' ≡ on_each g ms) × (own' ≡ own)) (λ ms' own'. AllAreAt (suc k) ms' × Both Q ms' ps × (own' ≡ own))
    (λ ms' own' x. (
      subst (AllAreAt (suc k)) (sym x.0) (stand_on k g ms at.within next stand),
      subst (λ l. Both Q l ps) (sym x.0) (each_on P Q g ms ps f all),
      x.1,
    ))
    (private_of_all image mine t k 0 ins g ms own holds at stand (all_alone P t ins g ms ps alone all))

module _ (image : Image) (mine : Words) (ra rv : ℕ) (other : ra ≢ 5) (word count : Owner → ℕ) (Ready : Member → Owner → Type 0)
    (to_count : (m : Member) (p : Owner) → Ready m p → IsToCount mine ra rv word count m p) where
  -- one that still has all but t0
  pub record Near (m : Member) (p : Owner) : Type 0 where
    pub hart : Hart
    pub ready : Ready (record m { hart = hart }) p
    pub local : m.hart.local ≡ hart.local
    pub live : m.hart.ended ≡ hart.ended
    pub others : (r : ℕ) → r ≢ 5 → m.hart.registers r ≡ hart.registers r

  -- one that has not changed t0 either, and one that has a sum in it
  pub record Gives (m : Member) (p : Owner) : Type 0 where
    pub near : Near m p
    pub value : m.hart.registers rv ≡ count p

  pub record Knows (own : Memory) (m : Member) (p : Owner) : Type 0 where
    pub near : Near m p
    pub sum : m.hart.registers t0 ≡ own (word p)

  near_on : (m : Member) (p : Owner) (h : Hart) → h.local ≡ m.hart.local → h.ended ≡ m.hart.ended → ((r : ℕ) → r ≢ 5 → h.registers r ≡ m.hart.registers r) → Near m p
      → Near (record m { hart = h }) p
  near_on m p h local ended others near = record {
    hart = near.hart;
    ready = near.ready;
    local = local ∙ near.local;
    live = ended ∙ near.live;
    others = λ r ne. others r ne ∙ near.others r ne;
  }

  pub gives : (m : Member) (p : Owner) → Ready m p → Gives m p
  gives m p ready = record {
    near = record { hart = m.hart; ready = ready; local = refl; live = refl; others = λ r ne. refl };
    value = (to_count m p ready).value;
  }

  abbrev counts : (m : Member) (p : Owner) → (near : Near m p) → IsToCount mine ra rv word count (record m { hart = near.hart }) p
  counts m p near = to_count (record m { hart = near.hart }) p near.ready

  address_is : (m : Member) (p : Owner) → Near m p → m.hart.registers ra ≡ control_address (word p)
  address_is m p near = near.others ra other ∙ (counts m p near).address

  nought_is : (m : Member) (p : Owner) → Near m p → m.hart.registers zero_register ≡ 0
  nought_is m p near = near.others 0 (λ e. omega arith) ∙ (counts m p near).nought

  -- the word of a member, as its register tells
  abbrev word_of : (offset : ℕ) → Member → ℕ
  word_of offset m = control_index (m.hart.registers ra) + offset

  word_is : (offset : ℕ) (m : Member) (p : Owner) → Near m p → word_of offset m ≡ word p + offset
  word_is offset m p near = let e = address_is m p near in omega arith

  at_word : (offset : ℕ) → offset < 8 → (m : Member) (p : Owner) → Near m p → IsOwnWord mine (word_sum (m.hart.registers ra) (4 * offset)) (word_of offset m)
  at_word offset lt m p near =
      let e = address_is m p near in
      let c = counts m p near in
      let within = c.within in
      let same = word_is offset m p near in
      record {
        aligned = omega arith;
        place = place_of-control _ (word_of offset m) (omega arith) (omega arith);
        own = ap mine same ∙ c.own offset lt;
      }

  all_at : (Q : Member → Owner → Type 0) (offset : ℕ) → offset < 8 → ((m : Member) (p : Owner) → Q m p → Near m p) → (ms : List Member) (ps : List Owner) → Both Q ms ps
      → AllAtOwn mine (λ h. word_sum (h.registers ra) (4 * offset)) (word_of offset) ms
  all_at Q offset lt f [] [] all = tt
  all_at Q offset lt f (m ∷ ms) (p ∷ ps) all = (at_word offset lt m p (f m p all.0), all_at Q offset lt f ms ps all.1)
  all_at Q offset lt f ms ps all = absurd (assumption all)

  -- at the address without an offset
  at_start : (m : Member) (p : Owner) → Near m p → IsOwnWord mine (m.hart.registers ra) (word_of 0 m)
  at_start m p near =
      let e = address_is m p near in
      let c = counts m p near in
      let within = c.within in
      let same = word_is 0 m p near in
      record {
        aligned = omega arith;
        place = place_of-control _ (word_of 0 m) (omega arith) (omega arith);
        own = ap mine same ∙ c.own 0 (omega arith);
      }

  all_start : (ms : List Member) (ps : List Owner) → Both Gives ms ps → AllAtOwn mine (λ h. h.registers ra) (word_of 0) ms
  all_start [] [] all = tt
  all_start (m ∷ ms) (p ∷ ps) all = (at_start m p all.0.near, all_start ms ps all.1)
  all_start ms ps all = absurd (assumption all)

  -- ---- the cycles

  -- all clear a word
  abbrev pub Cleared : (offset : ℕ) → List Owner → Memory → Memory → Type 0
  Cleared offset ps own own' = (w : ℕ) → own' w ≡ last_or (own w) (shares (λ p. word p + offset) nothing_each w ps)

  clear_by : (Q : Member → Owner → Type 0) → ((m : Member) (p : Owner) → Q m p → Near m p) → ((m : Member) (p : Owner) → Q m p → Q (record m { hart = onward m.hart }) p)
      → (t : MachineSetting) (k c offset : ℕ) (ms : List Member) (ps : List Owner) (own : Memory) → offset < 8 → Holds image t → IsAt image k (Sw ra 0 (4 * offset)) c → AllAreAt k ms
      → Both Q ms ps → NodeCycle image mine t c ms own (λ ms' own'. AllAreAt (suc k) ms' × Both Q ms' ps × Cleared offset ps own own')
  clear_by Q f on t k c offset ms ps own lt holds at stand all =
      cycle_map image mine t c ms own
      (λ ms' own'. (ms' ≡ on_each (λ m. onward m.hart) ms) × ((w : ℕ) → own' w ≡ last_or (own w) (values_for (word_of offset) 0 w ms)) × AllAreAt (suc k) ms')
      (λ ms' own'. AllAreAt (suc k) ms' × Both Q ms' ps × Cleared offset ps own own')
      (λ ms' own' x. (
        x.2,
        subst (λ l. Both Q l ps) (sym x.0) (each_on Q Q (λ m. onward m.hart) ms ps on all),
        λ w. x.1 w ∙ ap (last_or (own w)) (shares_are Q (word_of offset) (λ p. word p + offset) nothing_each 0 w ms ps (λ m p q. word_is offset m p (f m p q)) (λ m p q. nought_is m p (f m p q)) all),
      ))
      (stores_of_all image mine t k c ra 0 (4 * offset) (word_of offset) ms own holds at stand (all_at Q offset lt f ms ps all))

  gives_on : (m : Member) (p : Owner) → Gives m p → Gives (record m { hart = onward m.hart }) p
  gives_on m p g = record { near = near_on m p (onward m.hart) refl refl (λ r ne. refl) g.near; value = g.value }

  knows_on : (v : Memory) (m : Member) (p : Owner) → Knows v m p → Knows v (record m { hart = onward m.hart }) p
  knows_on v m p s = record { near = near_on m p (onward m.hart) refl refl (λ r ne. refl) s.near; sum = s.sum }

  pub clear_cycle : (t : MachineSetting) (k offset : ℕ) (ms : List Member) (ps : List Owner) (own : Memory) → offset < 8 → Holds image t → IsAt image k (Sw ra 0 (4 * offset)) 0 → AllAreAt k ms
      → Both Gives ms ps → NodeCycle image mine t 0 ms own (λ ms' own'. AllAreAt (suc k) ms' × Both Gives ms' ps × Cleared offset ps own own')
  clear_cycle t k offset ms ps own lt holds at stand all = clear_by Gives (λ m p g. g.near) gives_on t k 0 offset ms ps own lt holds at stand all

  -- that is the commit of those who know the sum
  pub last_cycle : (v : Memory) (t : MachineSetting) (k : ℕ) (ms : List Member) (ps : List Owner) (own : Memory) → Holds image t → IsAt image k (Sw ra 0 0) 1 → AllAreAt k ms
      → Both (Knows v) ms ps → NodeCycle image mine t 1 ms own (λ ms' own'. AllAreAt (suc k) ms' × Both (Knows v) ms' ps × Cleared 0 ps own own')
  last_cycle v t k ms ps own holds at stand all = clear_by (Knows v) (λ m p s. s.near) (knows_on v) t k 1 0 ms ps own (omega arith) holds at stand all

  -- nobody looks at what it finds
  finds_nothing : (at : Member → ℕ) (own : Memory) (before ms : List Member) → each_finds at 0 rv own before ms ≡ on_each (λ m. onward m.hart) ms
  finds_nothing at own before [] = refl
  finds_nothing at own before (m ∷ ms) = ap (λ l. record m { hart = onward m.hart } ∷ l) (finds_nothing at own (before ++ m ∷ []) ms)

  nothing_more : (w : ℕ) → w + 0 ≡ w
  nothing_more w = omega arith

  abbrev pub Added : List Owner → Memory → Memory → Type 0
  Added ps own own' = (w : ℕ) → own' w ≡ sum_from (own w) (shares word count w ps)

  pub add_cycle : (t : MachineSetting) (k : ℕ) (ms : List Member) (ps : List Owner) (own : Memory) → Holds image t → IsAt image k (AmoAddW 0 ra rv false false) 0 → AllAreAt k ms
      → Both Gives ms ps → NodeCycle image mine t 0 ms own (λ ms' own'. AllAreAt (suc k) ms' × Both Gives ms' ps × Added ps own own')
  add_cycle t k ms ps own holds at stand all =
      cycle_map image mine t 0 ms own
      (λ ms' own'. (ms' ≡ each_finds (word_of 0) 0 rv own [] ms) × ((w : ℕ) → own' w ≡ sum_from (own w) (values_for (word_of 0) rv w ms)) × AllAreAt (suc k) ms')
      (λ ms' own'. AllAreAt (suc k) ms' × Both Gives ms' ps × Added ps own own')
      (λ ms' own' x. (
        x.2,
        subst (λ l. Both Gives l ps) (sym (x.0 ∙ finds_nothing (word_of 0) own [] ms)) (each_on Gives Gives (λ m. onward m.hart) ms ps gives_on all),
        λ w. x.1 w ∙ ap (sum_from (own w)) (shares_are Gives (word_of 0) word count rv w ms ps (λ m p g. word_is 0 m p g.near ∙ nothing_more (word p)) (λ m p g. g.value) all),
      ))
      (adds_of_all image mine t k 0 0 ra rv (word_of 0) ms own holds at stand (all_start ms ps all))

  pub load_cycle : (t : MachineSetting) (k : ℕ) (ms : List Member) (ps : List Owner) (own : Memory) → Holds image t → IsAt image k (Lw 5 ra 0) 0 → AllAreAt k ms
      → Both Gives ms ps → NodeCycle image mine t 0 ms own (λ ms' own'. AllAreAt (suc k) ms' × Both (Knows own) ms' ps × (own' ≡ own))
  load_cycle t k ms ps own holds at stand all =
      let h : Member → Hart = λ m. onward_with 5 (own (word_of 0 m)) m.hart in
      cycle_map image mine t 0 ms own (λ ms' own'. (ms' ≡ on_each h ms) × (own' ≡ own) × AllAreAt (suc k) ms') (λ ms' own'. AllAreAt (suc k) ms' × Both (Knows own) ms' ps × (own' ≡ own))
      (λ ms' own' x. (x.2, subst (λ l. Both (Knows own) l ps) (sym x.0) (each_on Gives (Knows own) h ms ps (tells own) all), x.1))
      (loads_of_all image mine t k 0 5 ra 0 (word_of 0) ms own holds at stand (all_at Gives 0 (omega arith) (λ m p g. g.near) ms ps all))
    where
      tells : (own : Memory) (m : Member) (p : Owner) → Gives m p → Knows own (record m { hart = onward_with 5 (own (word_of 0 m)) m.hart }) p
      tells own m p g = record {
        near = near_on m p (onward_with 5 (own (word_of 0 m)) m.hart) refl refl (λ r ne. rw (ne_eqb r 5 ne)) g.near;
        sum = ap own (word_is 0 m p g.near ∙ nothing_more (word p));
      }
