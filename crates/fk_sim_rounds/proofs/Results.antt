-- The parts of processors in a cycle are a round of the run beside them.
use Rattle.std.proofs.Common.{◌≡◌, ℕ, zero, suc, ◌+◌, ◌<◌, ◌≤◌, List, [], ◌∷◌, length, Option, Some, None, sym, ap, subst, ◌∙◌, refl, arith}
use Rattle.std.specs.Prelude.{map}
use Rattle.std.proofs.lemmas.List.{length-map}
use Rattle.fk_num.specs.Word.{Memory}
use Rattle.fk_tree.specs.Tree.{Tree}
use Rattle.fk_meaning_store.specs.Store.{heap_start}
use Rattle.fk_meaning.specs.Processor.{Setting}
use Rattle.fk_meaning.specs.Round.{Runner, Fault, State, Round, cut, Acting, Phases, all_requests, asking, settled, tree_phase, result}
use Rattle.fk_core.specs.declared.op.CoreOp.{CoreOp}
use Rattle.fk_core.specs.Next.{Position, next}
use Rattle.fk_sim_nodes.specs.Source.{AllPass, FaultsAfter}
use Rattle.fk_sim_match.specs.Stage.{Stage, Ended, Acts, Meets, count_for, operations_of, distance, counts_for, AllDoOne}
use Rattle.fk_space.specs.Space.{Space}
use Rattle.fk_sim_match.specs.Rounds.{IsDueAt, AllDue}
use Rattle.fk_sim_heap.specs.Shows.{ShowsTop, number_full}
use Rattle.fk_sim_heap.proofs.Rounds.{number_is}
use Rattle.fk_sim_block.specs.Owner.{Commons, commons_of, Owner, Doing, core_source}
use Rattle.fk_sim_rounds.proofs.Rounds as rounds
use Rattle.fk_sim_rounds.specs.Next.{JumpsLead, landed, all_landed}
use Rattle.fk_sim_rounds.specs.After.{actings, runners_of, tree_after, owner_after, owners_after}
use Rattle.fk_sim_rounds.specs.Beside.{landed_runner, landed_state, HaveHeaps, notes_of, AreInOrder, IsBeside}
use Rattle.fk_sim_rounds.specs.Results.{IsAfter, IsFault, CyclesAreResults, CutsAreFaults}
use Rattle.fk_sim_rounds.proofs.Landed.{results_land}

-- ---- lists of processors

one_unit : (n : ℕ) (d : Option ℕ) → n ≡ 1 → rounds.IsUnit (count_for n d)
one_unit n None one = tt
one_unit n (Some zero) one = subst rounds.IsUnit (sym one) tt
one_unit n (Some (suc d)) one = tt

pub counts_are_units : (stages : List Stage) → AllDoOne stages → rounds.AreUnits (counts_for stages)
counts_are_units [] ones = tt
counts_are_units (s ∷ stages) ones = (one_unit (operations_of s) (distance s) ones.0, counts_are_units stages ones.1)

-- who is about to do what its stage tells does one operation
does_one : (core : List CoreOp) (tree : Tree) (spaces : ℕ → Space) (g : ℕ) (s : Stage) (r : Runner Position) → IsDueAt core tree spaces g s r → operations_of s ≡ 1
does_one core tree spaces g Ended r due = refl
does_one core tree spaces g (Acts d inner) r due = ap suc due.single
does_one core tree spaces g (Meets e w f) r due = refl

pub due_do_one : (core : List CoreOp) (tree : Tree) (spaces : ℕ → Space) (number : ℕ) (stages : List Stage) (rs : List (Runner Position)) → AllDue core tree spaces number stages rs → AllDoOne stages
due_do_one core tree spaces number [] [] due = tt
due_do_one core tree spaces number (s ∷ stages) (r ∷ rs) due =
    (does_one core tree spaces (tree.places number) s r due.1, due_do_one core tree spaces (suc number) stages rs due.2)
due_do_one core tree spaces number stages rs due = absurd (assumption due)

pub actings_same : (ds : List Doing) → rounds.actings ds ≡ actings ds
actings_same [] = refl
actings_same (d ∷ ds) = ap (λ l. d.acting ∷ l) (actings_same ds)

module _ (core : List CoreOp) where
  in_order : (number : ℕ) (rs : List (Runner Position)) → AreInOrder number rs → rounds.AreNumbered number (map (landed_runner core) rs)
  in_order number [] order = tt
  in_order number (r ∷ rs) order = (order.0, in_order (suc number) rs order.1)

  -- they are those of the store
  owners_are : (number : ℕ) (heaps : ℕ → Memory) (ps : List Owner) (rs : List (Runner Position)) → AreInOrder number rs → runners_of ps ≡ map (landed_runner core) rs → HaveHeaps number heaps ps
      → ps ≡ rounds.owners heaps (notes_of ps) (map (landed_runner core) rs)
  owners_are number heaps [] [] order same own = refl
  owners_are number heaps (p ∷ ps) (r ∷ rs) order same own =
      let first : p.runner ≡ landed_runner core r = cc in
      let rest : runners_of ps ≡ map (landed_runner core) rs = cc in
      ap (λ w. let q : Owner = record { runner = p.runner; heap = record { words = w; full = p.heap.full } } in q ∷ ps) (sym own.0 ∙ ap heaps (sym order.0))
      ∙ ap (λ x. let q : Owner = record { runner = x; heap = record { words = heaps r.has.number; full = p.heap.full } } in q ∷ ps) first
      ∙ ap (λ l. rounds.owner heaps p.heap.full (landed_runner core r) ∷ l) (owners_are (suc number) heaps ps rs order.1 rest own.1)
  owners_are number heaps [] (r ∷ rs) order same own = absurd (cc)
  owners_are number heaps (p ∷ ps) [] order same own = absurd (cc)

  -- the heap begins behind the first word of shared data, and few have noted that it is full
  begins : (setting : Setting) → 0 < heap_start (setting.globals + setting.inputs)
  begins setting = omega arith

  few_notes : (ps : List Owner) → length ps ≤ 1024 → 0 + length (notes_of ps) ≤ 1024
  few_notes ps few = let e = length-map ps (λ p. p.heap.full) in omega arith

  many_notes : (ps : List Owner) (rs : List (Runner Position)) → runners_of ps ≡ rs → length (notes_of ps) ≡ length rs
  many_notes ps rs e = length-map ps (λ p. p.heap.full) ∙ sym (length-map ps (λ p. p.runner)) ∙ ap (λ l. length l) e

  notes_are : (acting : List (Acting Position)) (old new : Tree) (ds : List Doing) → notes_of (all_landed core (map (owner_after acting old new) ds)) ≡ rounds.notes_in ds
  notes_are acting old new [] = refl
  notes_are acting old new (d ∷ ds) = ap (λ l. d.heap.full ∷ l) (notes_are acting old new ds)

  as_many : (setting : Setting) (counts : List ℕ) (ps : List Owner) (s : Commons) (ds : List Doing) (s' : Commons) → AllPass (core_source core setting) counts ps s ds s' → length ds ≡ length ps
  as_many setting [] [] s [] s' all = refl
  as_many setting (c ∷ counts) (p ∷ ps) s (d ∷ ds) s' all = ap suc (as_many setting counts ps all.0 ds s' all.2)
  as_many setting counts ps s ds s' all = absurd (assumption all)

  after_many : (acting : List (Acting Position)) (old new : Tree) (ds : List Doing) → length (all_landed core (map (owner_after acting old new) ds)) ≡ length ds
  after_many acting old new [] = refl
  after_many acting old new (d ∷ ds) = ap suc (after_many acting old new ds)

  -- each does its part of the round
  pub all_passed : (setting : Setting) (stages : List Stage) (s : State Position) (ps : List Owner) (did : List Doing) (shared shared' : Commons) → AreInOrder 0 s.runners → IsBeside core setting s ps shared
      → AllDoOne stages → AllPass (core_source core setting) (counts_for stages) ps shared did shared' → rounds.Passed core setting 0 (counts_for stages) (map (landed_runner core) s.runners) s.store 0 did shared'
  all_passed setting stages s ps did shared shared' order beside ones all =
      let round = counts_for stages in
      let runners = map (landed_runner core) s.runners in
      let are = owners_are 0 s.store.heaps ps s.runners order beside.runners beside.heaps in
      rounds.passed core setting 0 round (notes_of ps) runners s.store shared.asked 0 did shared' (counts_are_units stages ones) (in_order 0 s.runners order)
      (many_notes ps runners beside.runners) (begins setting) (few_notes ps beside.few) (subst (ShowsTop (heap_start (setting.globals + setting.inputs)) s.store.top shared.asked) (sym (number_is (notes_of ps))) beside.top)
      (subst (λ c. AllPass (core_source core setting) round (rounds.owners s.store.heaps (notes_of ps) runners) c did shared') (sym beside.commons)
      (subst (λ l. AllPass (core_source core setting) round l shared did shared') are all))

  settled_are : (acting : List (Acting Position)) (old new : Tree) (ds : List Doing)
      → runners_of (all_landed core (map (owner_after acting old new) ds)) ≡ map (landed_runner core) (settled acting old new (actings ds))
  settled_are acting old new [] = refl
  settled_are acting old new (d ∷ ds) = ap (λ l. (landed core (owner_after acting old new d)).runner ∷ l) (settled_are acting old new ds)

  heaps_are : (acting : List (Acting Position)) (old new : Tree) (number : ℕ) (heaps : ℕ → Memory) (ds : List Doing) → rounds.AreOwn number heaps ds
      → HaveHeaps number heaps (all_landed core (map (owner_after acting old new) ds))
  heaps_are acting old new number heaps [] own = tt
  heaps_are acting old new number heaps (d ∷ ds) own = (own.1, heaps_are acting old new (suc number) heaps ds own.2)

module _ (core : List CoreOp) (setting : Setting) (s : State Position) (ps : List Owner) (shared : Commons) (leads : JumpsLead core) (order : AreInOrder 0 s.runners)
    (beside : IsBeside core setting s ps shared) where
  abbrev landing : State Position
  landing = landed_state core s

  are : ps ≡ rounds.owners s.store.heaps (notes_of ps) (map (landed_runner core) s.runners)
  are = owners_are core 0 s.store.heaps ps s.runners order beside.runners beside.heaps

  -- a round of the landed state is one of the state
  same : (round : Round) → landed_state core (result (next core) setting round landing) ≡ landed_state core (result (next core) setting round s)
  same round = results_land core leads setting round s

  abbrev requests_of : (round : Round) → Phases Position
  requests_of round = all_requests 0 (asking (next core) setting round landing.runners) s.store

  abbrev phase_of : Phases Position → State Position
  phase_of r = tree_phase s.tree r.store r.acting r.fault

  pub is_after : (stages : List Stage) (did : List Doing) (shared' : Commons) → AllDoOne stages → AllPass (core_source core setting) (counts_for stages) ps shared did shared'
      → IsAfter core setting stages s did shared'
  is_after stages did shared' ones all =
      let round = counts_for stages in
      let acting = actings did in
      let new = tree_after s.tree did in
      let p = all_passed core setting stages s ps did shared shared' order beside ones all in
      let served : requests_of round ≡ record { store = p.store; acting = acting; fault = None }
      = p.all ∙ ap (λ l. let r : Phases Position = record { store = p.store; acting = l; fault = None } in r) (actings_same did) in
      let left : State Position = record { store = p.store; tree = new; runners = settled acting s.tree new acting; fault = None } in
      let is : result (next core) setting round landing ≡ left = ap phase_of served in
      let same_state : landed_state core left ≡ landed_state core (result (next core) setting round s) = ap (landed_state core) (sym is) ∙ same round in
      let store_is : p.store ≡ (result (next core) setting round s).store = ap (λ u. u.store) same_state in
      record {
        tree = sym (ap (λ u. u.tree) same_state);
        beside = record {
          going = sym (ap (λ u. u.fault) same_state);
          runners = settled_are core acting s.tree new did ∙ ap (λ u. u.runners) same_state;
          heaps = subst (λ st. HaveHeaps 0 st.heaps (all_landed core (owners_after s.tree new did))) store_is (heaps_are core acting s.tree new 0 p.store.heaps did p.own);
          commons = ap (commons_of shared'.asked) (sym store_is) ∙ p.commons;
          few =
              let long : length (all_landed core (owners_after s.tree new did)) ≡ length ps = after_many core acting s.tree new did ∙ as_many core setting round ps shared did shared' all in
              subst (λ n. n ≤ 1024) (sym long) beside.few;
          top = subst (λ t. ShowsTop (heap_start (setting.globals + setting.inputs)) t shared'.asked (number_full (notes_of (all_landed core (owners_after s.tree new did))))) (ap (λ st. st.top) store_is)
              (subst (ShowsTop (heap_start (setting.globals + setting.inputs)) p.store.top shared'.asked) (number_is (rounds.notes_in did) ∙ ap number_full (sym (notes_are core acting s.tree new did))) p.shows);
        };
      }

  pub is_fault : (stages : List Stage) (place site : ℕ) (shared' : Commons) → AllDoOne stages → FaultsAfter (core_source core setting) place site (counts_for stages) ps shared shared'
      → IsFault core setting stages s place site shared'
  is_fault stages place site shared' ones all =
      let round = counts_for stages in
      let here = subst (λ c. FaultsAfter (core_source core setting) place site round (rounds.owners s.store.heaps (notes_of ps) landing.runners) c shared') (sym beside.commons)
      (subst (λ l. FaultsAfter (core_source core setting) place site round l shared shared') are all) in
      let units = counts_are_units stages ones in
      let numbered = in_order core 0 s.runners order in
      let few = few_notes core ps beside.few in
      let shows = subst (ShowsTop (heap_start (setting.globals + setting.inputs)) s.store.top shared.asked) (sym (number_is (notes_of ps))) beside.top in
      let whole = rounds.faulted core setting 0 place site round (notes_of ps) landing.runners s.store shared.asked 0 shared' units numbered (begins core setting) few shows here in
      let part = rounds.faulted core setting 0 place site (cut (suc place) round) (notes_of ps) landing.runners s.store shared.asked 0 shared' (rounds.cut_units (suc place) round units) numbered (begins core setting) few shows
      (rounds.cut_faults core setting place site round (rounds.owners s.store.heaps (notes_of ps) landing.runners) (commons_of shared.asked s.store) shared' here) in
      record {
        whole = faults round whole.fault;
        stopped = faults (cut (suc place) round) part.fault;
        commons = ap (commons_of shared'.asked) (sym (ap (λ u. u.store) (same (cut (suc place) round)))) ∙ store_of (requests_of (cut (suc place) round)) ∙ part.commons;
      }
    where
      phase_fault : (r : Phases Position) (f : Fault) → r.fault ≡ Some f → (phase_of r).fault ≡ Some f
      phase_fault r f e = ap (λ x. (tree_phase s.tree r.store r.acting x).fault) e

      phase_store : (r : Phases Position) (x : Option Fault) → (tree_phase s.tree r.store r.acting x).store ≡ r.store
      phase_store r None = refl
      phase_store r (Some f) = refl

      store_of : (r : Phases Position) → commons_of shared'.asked (phase_of r).store ≡ commons_of shared'.asked r.store
      store_of r = ap (commons_of shared'.asked) (phase_store r r.fault)

      faults : (round : Round) → (requests_of round).fault ≡ Some (record { site = site; processor = 0 + place })
          → (result (next core) setting round s).fault ≡ Some (record { site = site; processor = place })
      faults round e =
          let f : Fault = record { site = site; processor = place } in
          let zero_is : 0 + place ≡ place = omega arith in
          sym (ap (λ u. u.fault) (same round)) ∙ phase_fault (requests_of round) f (e ∙ ap (λ k. let x : Fault = record { site = site; processor = k } in Some x) zero_is)

pub cycles_are_results : CyclesAreResults
cycles_are_results core setting stages s ps did shared shared' leads order beside ones all = is_after core setting s ps shared leads order beside stages did shared' ones all

pub cuts_are_faults : CutsAreFaults
cuts_are_faults core setting stages s ps place site shared shared' leads order beside ones all =
    is_fault core setting s ps shared leads order beside stages place site shared' ones all
