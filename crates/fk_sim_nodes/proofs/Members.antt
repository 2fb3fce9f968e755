-- Members up to their common commit.
use Rattle.std.proofs.Common.{◌≡◌, ℕ, zero, suc, ◌+◌, List, [], ◌∷◌, length, Some, None, Bool, true, false, cond, sym, ap, subst, ◌∙◌, arith, refl, inl, inr, ⊎_elim}
use Rattle.std.specs.Prelude.{map}
use Rattle.fk_num.specs.Word.{Memory}
use Rattle.fk_image.specs.declared.Image.{Image}
use Rattle.fk_machine.specs.declared.stand.Stand.TheVariants.{Faulted}
use Rattle.fk_machine.specs.Hart.{Hart, Shared, Setting, Stops}
use Rattle.fk_machine.specs.Step.{step}
use Rattle.fk_machine.specs.Cycle.{before, after_effect, turn}
use Rattle.fk_machine.specs.Run.{count_of}
use Rattle.fk_sim_nodes.specs.Node.{Member, Words, Has, AreApart}
use Rattle.fk_sim_nodes.specs.Source.{Source, Passes, Breaks, Shows}
use Rattle.fk_sim_nodes.specs.Chain.{runs, Passing, Chain}
use Rattle.fk_sim_nodes.specs.Alone.{later, in_cycles, Stays, NodeCycle, NodeRun}
use Rattle.fk_sim_nodes.specs.Together.{AllCount, AllTake, AllMove, Commits, Together, EachMoves, NodeCyclesAreCommits, MembersComeNearer, RunsLeadToCommits, MembersRestOnOwnWords, MovesAreChains, LowestFaultsForAll}
use Rattle.fk_sim_nodes.proofs.Runs.{cycle_map}

pub runs_at : (h : Hart) → h.ended ≡ false → runs h ≡ Some h.pc
runs_at h live = ap (λ e. cond e None (Some h.pc)) live

module _ {S P D : Type 0} (source : Source S P D) (image : Image) (mine : Words) where
  -- ---- a cycle of a node alone

  pub stays_passing : (t : Setting) (c : ℕ) (m : Member) (p : P) (d : D) (own : Memory) (h' : Hart) (own' : Memory) (earlier : List ℕ) (sh : Shared) (s : S) (Then : Hart → D → Memory → Type 0)
      → AreApart mine source.common → Shows source earlier sh s → Has mine sh.control own → Stays image mine t c m own h' own'
      → source.part c s p ≡ Passes s d → Then h' d own' → Passing source image mine t m p earlier sh s Then
  stays_passing t c m p d own h' own' earlier sh s Then apart shows has st takes then =
      let w = st.goes sh has in
      let at = runs_at m.hart st.live in
      let not_mine : (i : ℕ) → source.common i ≡ true → mine i ≡ false = λ i common. unowned i common (mine i) refl in
      record {
        hart = h';
        shared = record sh { control = w.control; reserved = w.reserved };
        own = own';
        store = s;
        done = d;
        part = ap (λ r. source.part (count_of image r) s p) at ∙ ap (λ n. source.part n s p) st.counted ∙ takes;
        turned = λ hs others.
            ap (λ e. turn e t m.number m.hart hs others sh) st.live
            ∙ ap (after_effect m.hart hs others sh) w.goes
            ∙ ap (λ r. before h' r (others (record sh { control = w.control; reserved = w.reserved }))) (sym at);
        shows = record { words = shows.words; output = shows.output; common = λ i common. w.keeps i (not_mine i common) ∙ shows.common i common };
        has = w.has;
        keeps = λ i others common. w.keeps i others;
        follows = then;
      }
    where
      unowned : (i : ℕ) → source.common i ≡ true → (b : Bool) → mine i ≡ b → mine i ≡ false
      unowned i common true e = absurd (let f = sym common ∙ apart i e in cc)
      unowned i common false e = e

  pub cycle_chain : (t : Setting) (c : ℕ) (ms : List Member) (ps : List P) (ds : List D) (own : Memory) (Then : List Member → Memory → Type 0) (Post : List Member → List D → Memory → Type 0)
      → AreApart mine source.common → AllTake source c ms ps ds → NodeCycle image mine t c ms own Then
      → ((ms' : List Member) (own' : Memory) → Then ms' own' → Post ms' ds own') → Chain source image mine t ms ps own Post
  cycle_chain t c [] [] [] own Then Post apart takes x f = f [] own x
  cycle_chain t c (m ∷ ms) (p ∷ ps) (d ∷ ds) own Then Post apart takes x f =
      λ earlier sh s shows has.
      inl (stays_passing t c m p d own x.0 x.1 earlier sh s
      (λ h d' own'. Chain source image mine t ms ps own' (λ ms' ds'. Post (record m { hart = h } ∷ ms') (d' ∷ ds')))
      apart shows has x.2 (takes.0 s)
      (cycle_chain t c ms ps ds x.1 (λ ms' own'. Then (record m { hart = x.0 } ∷ ms') own') (λ ms' ds'. Post (record m { hart = x.0 } ∷ ms') (d ∷ ds'))
      apart takes.1 x.3 (λ ms' own' y. f (record m { hart = x.0 } ∷ ms') own' y)))
  cycle_chain t c ms ps ds own Then Post apart takes x f = absurd (assumption takes)

  pub cycle_count : (t : Setting) (c : ℕ) (ms : List Member) (own : Memory) (Then : List Member → Memory → Type 0) → NodeCycle image mine t c ms own Then
      → AllCount image c ms
  cycle_count t c [] own Then x = tt
  cycle_count t c (m ∷ ms) own Then x = (
    ap (count_of image) (runs_at m.hart x.2.live) ∙ x.2.counted,
    cycle_count t c ms x.1 (λ ms' own'. Then (record m { hart = x.0 } ∷ ms') own') x.3,
  )

  pub cycle_commits : (t : Setting) (c : ℕ) (ms : List Member) (ps : List P) (ds : List D) (own : Memory) (Then : List Member → Memory → Type 0)
      → AreApart mine source.common → AllTake source c ms ps ds → NodeCycle image mine t c ms own Then
      → Commits source image mine t c ms ps own (λ ms' ds' own'. (ds' ≡ ds) × Then ms' own')
  cycle_commits t c ms ps ds own Then apart takes x = record {
    counted = cycle_count t c ms own Then x;
    chain = cycle_chain t c ms ps ds own Then (λ ms' ds' own'. (ds' ≡ ds) × Then ms' own') apart takes x (λ ms' own' y. (refl, y));
  }

  -- ---- before the commit

  idle_take : (idle : P → D) (ms : List Member) (ps : List P) → ((s : S) (p : P) → source.part 0 s p ≡ Passes s (idle p)) → length ms ≡ length ps
      → AllTake source 0 ms ps (map idle ps)
  idle_take idle [] [] is_idle many = tt
  idle_take idle (m ∷ ms) (p ∷ ps) is_idle many = (λ s. is_idle s p, idle_take idle ms ps is_idle (omega arith))
  idle_take idle [] (p ∷ ps) is_idle many = absurd (omega arith)
  idle_take idle (m ∷ ms) [] is_idle many = absurd (omega arith)

  pub nearer : (t : Setting) (c d : ℕ) (idle : P → D) (ms : List Member) (ps : List P) (own : Memory) (Then : List Member → List D → Memory → Type 0)
      → AreApart mine source.common → ((s : S) (p : P) → source.part 0 s p ≡ Passes s (idle p)) → length ms ≡ length ps
      → Together source image mine t c (suc d) ms ps own Then
      → Commits source image mine t 0 ms ps own (λ ms' ds own'. (ds ≡ map idle ps) × Together source image mine (later t) c d ms' ps own' Then)
  nearer t c d idle ms ps own Then apart is_idle many x =
      cycle_commits t 0 ms ps (map idle ps) own (λ ms' own'. Together source image mine (later t) c d ms' ps own' Then) apart
      (idle_take idle ms ps is_idle many) x

  pub run_leads : (t : Setting) (c b a : ℕ) (ms : List Member) (ps : List P) (own : Memory) (Then : List Member → List D → Memory → Type 0)
      → NodeRun image mine t b ms own (λ ms' own'. Together source image mine (in_cycles b t) c a ms' ps own' Then)
      → Together source image mine t c (b + a) ms ps own Then
  run_leads t c zero a ms ps own Then x =
      let same : a ≡ 0 + a = omega arith in
      subst (λ k. Together source image mine t c k ms ps own Then) same x
  run_leads t c (suc b) a ms ps own Then x =
      let same : suc (b + a) ≡ suc b + a = omega arith in
      subst (λ k. Together source image mine t c k ms ps own Then) same
      (cycle_map image mine t 0 ms own (λ ms' own'. NodeRun image mine (later t) b ms' own' (λ ms2 own2. Together source image mine (in_cycles b (later t)) c a ms2 ps own2 Then))
      (λ ms' own'. Together source image mine (later t) c (b + a) ms' ps own' Then)
      (λ ms' own' y. run_leads (later t) c b a ms' ps own' Then y) x)

  -- ---- what a chain or a common commit comes to may be weakened

  pub chain_map : (t : Setting) (ms : List Member) (ps : List P) (own : Memory) (Then Then' : List Member → List D → Memory → Type 0)
      → ((ms' : List Member) (ds : List D) (own' : Memory) → Then ms' ds own' → Then' ms' ds own')
      → Chain source image mine t ms ps own Then → Chain source image mine t ms ps own Then'
  chain_map t [] [] own Then Then' f x = f [] [] own x
  chain_map t (m ∷ ms) (p ∷ ps) own Then Then' f x =
      λ earlier sh s shows has.
      ⊎_elim
      (λ one. inl (record {
        hart = one.hart;
        shared = one.shared;
        own = one.own;
        store = one.store;
        done = one.done;
        part = one.part;
        turned = one.turned;
        shows = one.shows;
        has = one.has;
        keeps = one.keeps;
        follows =
            chain_map t ms ps one.own (λ ms' ds. Then (record m { hart = one.hart } ∷ ms') (one.done ∷ ds)) (λ ms' ds. Then' (record m { hart = one.hart } ∷ ms') (one.done ∷ ds))
            (λ ms' ds own' y. f (record m { hart = one.hart } ∷ ms') (one.done ∷ ds) own' y) one.follows;
      }))
      (λ one. inr one)
      (x earlier sh s shows has)
  chain_map t ms ps own Then Then' f x = absurd (assumption x)

  pub together_map : (t : Setting) (c d : ℕ) (ms : List Member) (ps : List P) (own : Memory) (Then Then' : List Member → List D → Memory → Type 0)
      → ((ms' : List Member) (ds : List D) (own' : Memory) → Then ms' ds own' → Then' ms' ds own')
      → Together source image mine t c d ms ps own Then → Together source image mine t c d ms ps own Then'
  together_map t c zero ms ps own Then Then' f x = record { counted = x.counted; chain = chain_map t ms ps own Then Then' f x.chain }
  together_map t c (suc d) ms ps own Then Then' f x =
      cycle_map image mine t 0 ms own (λ ms' own'. Together source image mine (later t) c d ms' ps own' Then) (λ ms' own'. Together source image mine (later t) c d ms' ps own' Then')
      (λ ms' own' y. together_map (later t) c d ms' ps own' Then Then' f y) x

  -- ---- the node's own words alone

  has_same : (control own own2 : Memory) → Has mine own own2 → Has mine control own2 → Has mine control own
  has_same control own own2 same has = λ i o. has i o ∙ sym (same i o)

  pub chain_same : (t : Setting) (m : Member) (ms : List Member) (ps : List P) (own own2 : Memory) (Then : List Member → List D → Memory → Type 0)
      → Has mine own own2 → Chain source image mine t (m ∷ ms) ps own Then → Chain source image mine t (m ∷ ms) ps own2 Then
  chain_same t m ms [] own own2 Then same x = x
  chain_same t m ms (p ∷ ps) own own2 Then same x = λ earlier sh s shows has. x earlier sh s shows (has_same sh.control own own2 same has)

  pub together_same : (t : Setting) (c d : ℕ) (m : Member) (ms : List Member) (ps : List P) (own own2 : Memory) (Then : List Member → List D → Memory → Type 0)
      → Has mine own own2 → Together source image mine t c d (m ∷ ms) ps own Then → Together source image mine t c d (m ∷ ms) ps own2 Then
  together_same t c zero m ms ps own own2 Then same x = record { counted = x.counted; chain = chain_same t m ms ps own own2 Then same x.chain }
  together_same t c (suc d) m ms ps own own2 Then same x = (
    x.0,
    x.1,
    record { live = x.2.live; counted = x.2.counted; goes = λ sh has. x.2.goes sh (has_same sh.control own own2 same has) },
    x.3,
  )

  -- ---- turns on whatever words

  pub moving : (t : Setting) (Moves : Memory → Member → P → Memory → Hart → D → Type 0) (ms : List Member) (ps : List P) (own : Memory) (Then : List Member → List D → Memory → Type 0)
      → EachMoves source image mine t Moves ms ps
      → ((ms' : List Member) (ds : List D) (own' : Memory) → AllMove Moves own ms ps own' ms' ds → Then ms' ds own')
      → Chain source image mine t ms ps own Then
  moving t Moves [] [] own Then each f = f [] [] own refl
  moving t Moves (m ∷ ms) (p ∷ ps) own Then each f =
      λ earlier sh s shows has.
      ⊎_elim
      (λ one. inl (record {
        hart = one.hart;
        shared = one.shared;
        own = one.own;
        store = one.store;
        done = one.done;
        part = one.part;
        turned = one.turned;
        shows = one.shows;
        has = one.has;
        keeps = one.keeps;
        follows =
            moving t Moves ms ps one.own (λ ms' ds. Then (record m { hart = one.hart } ∷ ms') (one.done ∷ ds)) each.1
            (λ ms' ds own' rest. f (record m { hart = one.hart } ∷ ms') (one.done ∷ ds) own' (one.own, refl, one.follows, rest));
      }))
      (λ one. inr one)
      (each.0 own earlier sh s shows has)
  moving t Moves ms ps own Then each f = absurd (assumption each)

  -- ---- a fault

  pub lowest_faults : (t : Setting) (c site : ℕ) (m : Member) (ms : List Member) (p : P) (ps : List P) (own : Memory) (Then : List Member → List D → Memory → Type 0)
      → AllCount image c (m ∷ ms) → m.hart.ended ≡ false → ((s : S) → source.part c s p ≡ Breaks site)
      → ((sh : Shared) → Has mine sh.control own → step t m.number m.hart sh ≡ Stops (Faulted site m.number))
      → Commits source image mine t c (m ∷ ms) (p ∷ ps) own Then
  lowest_faults t c site m ms p ps own Then counted live breaks stops = record {
    counted = counted;
    chain = λ earlier sh s shows has. inr (record {
      site = site;
      live = live;
      part = ap (λ n. source.part n s p) counted.0 ∙ breaks s;
      turned = λ hs others. ap (λ e. turn e t m.number m.hart hs others sh) live ∙ ap (after_effect m.hart hs others sh) (stops sh has);
    });
  }

pub node_cycles_are_commits : (S P D : Type 0) → NodeCyclesAreCommits S P D
node_cycles_are_commits S P D source image mine t c ms ps ds own test apart takes x =
    cycle_commits source image mine t c ms ps ds own (λ ms' own'. test ms' own' ≡ true) apart takes x

pub members_come_nearer : (S P D : Type 0) → MembersComeNearer S P D
members_come_nearer S P D source image mine t c d idle ms ps own test apart is_idle many x =
    nearer source image mine t c d idle ms ps own (λ ms' ds own'. test ms' ds own' ≡ true) apart is_idle many x

pub runs_lead_to_commits : (S P D : Type 0) → RunsLeadToCommits S P D
runs_lead_to_commits S P D source image mine t c b a ms ps own test x =
    run_leads source image mine t c b a ms ps own (λ ms'' ds own''. test ms'' ds own'' ≡ true) x

pub members_rest_on_own_words : (S P D : Type 0) → MembersRestOnOwnWords S P D
members_rest_on_own_words S P D source image mine t c d m ms ps own own2 test same x =
    together_same source image mine t c d m ms ps own own2 (λ ms' ds own'. test ms' ds own' ≡ true) same x

pub moves_are_chains : (S P D : Type 0) → MovesAreChains S P D
moves_are_chains S P D source image mine t test ms ps own each =
    moving source image mine t (λ before m p after h d. test before m p after h d ≡ true) ms ps own
    (λ ms' ds own'. AllMove (λ before m p after h d. test before m p after h d ≡ true) own ms ps own' ms' ds) each (λ ms' ds own' all. all)

pub lowest_faults_for_all : (S P D : Type 0) → LowestFaultsForAll S P D
lowest_faults_for_all S P D source image mine t c site m ms p ps own counted live breaks stops =
    lowest_faults source image mine t c site m ms p ps own (λ ms' ds own'. ⊥) counted live breaks stops
