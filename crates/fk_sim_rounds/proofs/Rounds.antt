-- The parts of processors, one after another, are the requests of a round.
use Rattle.std.proofs.Common.{◌≡◌, ℕ, zero, suc, ◌+◌, ◌<◌, ◌≤◌, List, [], ◌∷◌, length, Option, Some, None, Bool, true, false, sym, ap, subst, ◌∙◌, refl, arith}
use Rattle.std.specs.Prelude.{if◌then◌else◌}
use Rattle.fk_num.specs.Word.{Memory, word_sum}
use Rattle.fk_meaning_operation.specs.Kinds.{class_of}
use Rattle.fk_meaning_operation.specs.declared.kinds.Class.{Class}
use Rattle.fk_meaning_operation.specs.declared.kinds.Class.TheVariants.{Local, Request, Tree}
use Rattle.fk_meaning_operation.specs.declared.operation.Operation.{Operation}
use Rattle.fk_meaning_operation.specs.declared.operation.Operation.TheVariants.{Heap}
use Rattle.fk_meaning_store.specs.Store.{Store, heap_start}
use Rattle.fk_meaning_store.specs.Serve.{words_of}
use Rattle.fk_meaning_store.specs.Serve as store
use Rattle.fk_meaning.specs.Processor.{Setting, values, last}
use Rattle.fk_meaning.specs.Request.{request as request_of}
use Rattle.fk_meaning.specs.Group.{has_room}
use Rattle.fk_meaning.specs.Round.{Step, Runner, Fault, Round, cut, Acting, taking, Phase, Passes, Breaks, Phases, do_local, local_phase, do_request, answered, request_phase, before_others, after_phase, all_requests, begin, asking}
use Rattle.fk_core.specs.declared.op.CoreOp.{CoreOp}
use Rattle.fk_core.specs.Next.{Position, next}
use Rattle.fk_sim_nodes.specs.Source as nodes
use Rattle.fk_sim_nodes.specs.Whole.{first_of}
use Rattle.fk_sim_block.specs.Owner.{Commons, commons_of, found, Owner, Doing, as_part, is_hire, hires, asks, part, core_source}
use Rattle.fk_sim_heap.specs.Count.{added_by, is_past}
use Rattle.fk_sim_heap.specs.Shows.{and_full, ShowsTop}
use Rattle.fk_sim_heap.proofs.Requests.{requests_are_counted}
use Rattle.fk_sim_heap.proofs.Rounds.{beside, beside_and, beside_few, and_few}
use Rattle.fk_sim_rounds.proofs.Numbers.{local_number, answer_number}
use Rattle.fk_sim_rounds.proofs.Stores.{seen, ArePhasesAlike, phase_alike}

-- ---- owners

abbrev pub owner : (heaps : ℕ → Memory) → (full : Bool) → Runner Position → Owner
owner heaps full r = record { runner = r; heap = record { words = heaps r.has.number; full = full } }

-- each with its note about the global heap
abbrev pub owners : (heaps : ℕ → Memory) → (notes : List Bool) → List (Runner Position) → List Owner
owners heaps [] rs = []
owners heaps (f ∷ fs) [] = []
owners heaps (f ∷ fs) (r ∷ rs) = owner heaps f r ∷ owners heaps fs rs

abbrev pub notes_in : List Doing → List Bool
notes_in [] = []
notes_in (d ∷ ds) = d.heap.full ∷ notes_in ds

-- runners in the order of their numbers
abbrev pub AreNumbered : ℕ → List (Runner Position) → Type 0
AreNumbered number [] = Unit {0}
AreNumbered number (r ∷ rs) = (r.has.number ≡ number) × AreNumbered (suc number) rs

abbrev pub actings : List Doing → List (Acting Position)
actings [] = []
actings (d ∷ ds) = d.acting ∷ actings ds

-- each has its number, and its heap is the one of the store
abbrev pub AreOwn : ℕ → (ℕ → Memory) → List Doing → Type 0
AreOwn number heaps [] = Unit {0}
AreOwn number heaps (d ∷ ds) = (d.acting.runner.has.number ≡ number) × (heaps number ≡ d.heap.words) × AreOwn (suc number) heaps ds

abbrev pub IsUnit : ℕ → Type 0
IsUnit zero = Unit {0}
IsUnit (suc zero) = Unit {0}
IsUnit (suc (suc c)) = ⊥

abbrev pub AreUnits : List ℕ → Type 0
AreUnits [] = Unit {0}
AreUnits (c ∷ counts) = IsUnit c × AreUnits counts

-- who has other heaps above them is the same
owners_same : (heaps heaps' : ℕ → Memory) (number : ℕ) (fs : List Bool) (rs : List (Runner Position)) → AreNumbered number rs → ((g : ℕ) → (g < number → ⊥) → heaps' g ≡ heaps g)
    → owners heaps' fs rs ≡ owners heaps fs rs
owners_same heaps heaps' number [] rs numbered same = refl
owners_same heaps heaps' number (f ∷ fs) [] numbered same = refl
owners_same heaps heaps' number (f ∷ fs) (r ∷ rs) numbered same =
    let e = numbered.0 in
    ap (λ words. let p : Owner = record { runner = r; heap = record { words = words; full = f } } in p ∷ owners heaps' fs rs) (same r.has.number (λ lt. omega arith))
    ∙ ap (λ ps. owner heaps f r ∷ ps) (owners_same heaps heaps' (suc number) fs rs numbered.1 (λ g no. same g (λ lt. no (omega arith))))

hire_is : (operation : Operation) → is_hire operation ≡ true → operation ≡ Heap
hire_is Heap e = refl
hire_is operation e = absurd (cc)

module _ (core : List CoreOp) (set : Setting) where
  -- ---- one of them

  -- a processor after its local operations
  abbrev pub acted : (count : ℕ) → Runner Position → Acting Position
  acted c r = let a = begin (next core) set c r in local_phase (next core) set a a.due

  due_number : (r : Runner Position) (due : Option (Step Position)) → (local_phase (next core) set (taking r due) due).runner.has.number ≡ r.has.number
  due_number r None = refl
  due_number r (Some step) = by (class_of step.operation)
    where
      by : (c : Class) → (do_local (next core) set (taking r (Some step)) c step).runner.has.number ≡ r.has.number
      by Local = local_number set step.operation r.has
      by Request = refl
      by Tree = refl

  acted_number : (c : ℕ) (r : Runner Position) → IsUnit c → (acted c r).runner.has.number ≡ r.has.number
  acted_number zero r unit = refl
  acted_number (suc zero) r unit = due_number r (next core r.left)
  acted_number (suc (suc c)) r unit = absurd unit

  abbrev number_in : ℕ → Phase Position → ℕ
  number_in other (Passes s a) = a.runner.has.number
  number_in other (Breaks site) = other

  phase_number : (s s' : Store) (a b : Acting Position) (due : Option (Step Position)) → request_phase s a due ≡ Passes s' b → b.runner.has.number ≡ a.runner.has.number
  phase_number s s' a b None e = sym (ap (number_in 0) e)
  phase_number s s' a b (Some step) e = by (class_of step.operation) e
    where
      served : (answer : store.Answer) → answered step a.runner.has answer ≡ Passes s' b → b.runner.has.number ≡ a.runner.has.number
      served (store.Served s1 v) e = sym (ap (number_in 0) e) ∙ answer_number step.operation v a.runner.has
      served (store.Faults kind) e = absurd (cc)

      roomy : (room : Bool) → (if room then Passes s a else Breaks step.site) ≡ Passes s' b → b.runner.has.number ≡ a.runner.has.number
      roomy true e = sym (ap (number_in 0) e)
      roomy false e = absurd (cc)

      by : (c : Class) → do_request s a c step ≡ Passes s' b → b.runner.has.number ≡ a.runner.has.number
      by Local e = sym (ap (number_in 0) e)
      by Request e = served (store.serve (request_of step.operation a.runner.has) s a.runner.has.number) e
      by Tree e = roomy (has_room step.operation a.runner.has) e

  -- the first word of the global heap
  abbrev first : ℕ
  first = heap_start (set.globals + set.inputs)

  -- a part that passes, on a whole store, beside so many others that have found the global heap full
  pub record OnStore (s : Store) (others : ℕ) (r : Runner Position) (a : Acting Position) (due : Option (Step Position)) (s1 : Commons) (d : Doing) : Type 0 where
    pub store : Store
    pub passes : request_phase s a due ≡ Passes store d.acting
    pub commons : commons_of s1.asked store ≡ s1
    pub own : store.heaps r.has.number ≡ d.heap.words
    pub kept : (g : ℕ) → (g ≡ r.has.number → ⊥) → store.heaps g ≡ s.heaps g
    pub shows : ShowsTop first store.top s1.asked (and_full d.heap.full others)

  abbrev did_in : Doing → nodes.Part Commons Doing → Doing
  did_in other (nodes.Passes s d) = d
  did_in other (nodes.Breaks site) = other

  abbrev left_in : Commons → nodes.Part Commons Doing → Commons
  left_in other (nodes.Passes s d) = s
  left_in other (nodes.Breaks site) = other

  -- the top of the global heap, the words asked for and a note are other ones that are equal
  shows_so : (top top' count count' others : ℕ) (f f' : Bool) → top' ≡ top → count ≡ count' → f ≡ f' → ShowsTop first top count (and_full f others)
      → ShowsTop first top' count' (and_full f' others)
  shows_so top top' count count' others f f' e g i shows =
      subst (λ x. ShowsTop first x count' (and_full f' others)) (sym e)
      (subst (λ n. ShowsTop first top n (and_full f' others)) g (subst (λ b. ShowsTop first top count (and_full b others)) i shows))

  -- it asks for no block of the global heap
  on_alike : (s : Store) (asked others : ℕ) (full : Bool) (r : Runner Position) (a : Acting Position) (due : Option (Step Position)) (s1 : Commons) (d : Doing) (x y : Phase Position)
      → request_phase s a due ≡ x → ArePhasesAlike r.has.number s x y → as_part asked (owner s.heaps full r) y ≡ nodes.Passes s1 d
      → ShowsTop first s.top asked (and_full full others) → OnStore s others r a due s1 d
  on_alike s asked others full r a due s1 d (Passes s' b) (Passes s2 b2) phase alike e shows =
      let acting : b ≡ d.acting = alike.1 ∙ ap (λ x. (did_in d x).acting) e in
      let left : commons_of asked s2 ≡ s1 = ap (left_in s1) e in
      let count : asked ≡ s1.asked = ap (λ c. c.asked) left in
      record {
        store = s';
        passes = phase ∙ ap (Passes s') acting;
        commons = ap (λ n. commons_of n s') (sym count)
            ∙ ap (λ w. let c : Commons = record { words = w; output = s'.output; asked = asked } in c) alike.0.words
            ∙ ap (λ o. let c : Commons = record { words = s2.words; output = o; asked = asked } in c) alike.0.output
            ∙ left;
        own = alike.0.own ∙ ap (λ x. (did_in d x).heap.words) e;
        kept = alike.0.others;
        shows = shows_so s.top s'.top asked s1.asked others full d.heap.full alike.0.top count (ap (λ x. (did_in d x).heap.full) e) shows;
      }
  on_alike s asked others full r a due s1 d (Breaks x) (Breaks y) phase alike e shows = absurd (cc)
  on_alike s asked others full r a due s1 d (Passes s' b) (Breaks y) phase alike e shows = absurd alike
  on_alike s asked others full r a due s1 d (Breaks x) (Passes s2 b2) phase alike e shows = absurd alike

  abbrev with_asked : ℕ → Commons → Commons
  with_asked n s = record s { asked = n }

  -- it does
  on_hire : (s : Store) (asked others : ℕ) (full : Bool) (r : Runner Position) (a : Acting Position) (step : Step Position) (s1 : Commons) (d : Doing)
      → is_hire step.operation ≡ true → hires first (commons_of asked s) (owner s.heaps full r) a step ≡ nodes.Passes s1 d
      → 0 < first → others < 1024 → ShowsTop first s.top asked (and_full full others) → OnStore s others r a (Some step) s1 d
  on_hire s asked others full r a step s1 d hire e begins few shows =
      let p = a.runner.has in
      let words = words_of (last (values p)) in
      let one = requests_are_counted first asked others words full s begins few shows in
      let is = hire_is step.operation hire in
      let left : with_asked (word_sum asked (added_by full words)) (commons_of asked s) ≡ s1 = ap (left_in s1) e in
      let count : word_sum asked (added_by full words) ≡ s1.asked = ap (λ c. c.asked) left in
      record {
        store = record s { top = one.top };
        passes = ap (λ o. do_request s a (class_of o) step) is
            ∙ ap (λ o. answered step p (store.serve (request_of o p) s p.number)) is
            ∙ ap (answered step p) one.served
            ∙ ap (Passes (record s { top = one.top })) (ap (λ x. (did_in d x).acting) e);
        commons = ap (λ n. commons_of n (record s { top = one.top })) (sym count) ∙ left;
        own = ap (λ x. (did_in d x).heap.words) e;
        kept = λ g ne. refl;
        shows = shows_so one.top one.top (word_sum asked (added_by full words)) s1.asked others (is_past first (word_sum asked (added_by full words))) d.heap.full refl count
            (ap (λ x. (did_in d x).heap.full) e) one.shows;
      }

  abbrev asked_of : Commons → Owner → Acting Position → Step Position → Bool → nodes.Part Commons Doing
  asked_of s p a step hire = if hire then hires first s p a step else as_part s.asked p (request_phase (found s p.heap) a (Some step))

  on_due : (s : Store) (asked others : ℕ) (full : Bool) (r : Runner Position) (a : Acting Position) (due : Option (Step Position)) (s1 : Commons) (d : Doing)
      → a.runner.has.number ≡ r.has.number → asks core set (commons_of asked s) (owner s.heaps full r) a due ≡ nodes.Passes s1 d
      → 0 < first → others < 1024 → ShowsTop first s.top asked (and_full full others) → OnStore s others r a due s1 d
  on_due s asked others full r a None s1 d number e begins few shows =
      on_alike s asked others full r a None s1 d (Passes s a) (Passes (seen s r.has.number) a) refl (phase_alike r.has.number s a None number tt) e shows
  on_due s asked others full r a (Some step) s1 d number e begins few shows = by (is_hire step.operation) refl
    where
      by : (b : Bool) → is_hire step.operation ≡ b → OnStore s others r a (Some step) s1 d
      by true hire =
          on_hire s asked others full r a step s1 d hire (sym (ap (asked_of (commons_of asked s) (owner s.heaps full r) a step) hire) ∙ e) begins few shows
      by false other =
          on_alike s asked others full r a (Some step) s1 d (request_phase s a (Some step)) (request_phase (seen s r.has.number) a (Some step)) refl
          (phase_alike r.has.number s a (Some step) number other) (sym (ap (asked_of (commons_of asked s) (owner s.heaps full r) a step) other) ∙ e) shows

  on_store : (s : Store) (asked others : ℕ) (full : Bool) (c : ℕ) (r : Runner Position) (s1 : Commons) (d : Doing) → IsUnit c
      → part core set c (commons_of asked s) (owner s.heaps full r) ≡ nodes.Passes s1 d
      → 0 < first → others < 1024 → ShowsTop first s.top asked (and_full full others) → OnStore s others r (acted c r) (acted c r).due s1 d
  on_store s asked others full c r s1 d unit e begins few shows =
      on_due s asked others full r (acted c r) (acted c r).due s1 d (acted_number c r unit) e begins few shows

  fault_by : (s : Store) (asked site : ℕ) (full : Bool) (r : Runner Position) (a : Acting Position) (due : Option (Step Position)) (x y : Phase Position)
      → request_phase s a due ≡ x → ArePhasesAlike r.has.number s x y → as_part asked (owner s.heaps full r) y ≡ nodes.Breaks site
      → request_phase s a due ≡ Breaks site
  fault_by s asked site full r a due (Passes s' b) (Passes s2 b2) phase alike e = absurd (cc)
  fault_by s asked site full r a due (Breaks x) (Breaks y) phase alike e = let same : y ≡ site = cc in phase ∙ ap (λ z. Breaks z) (alike ∙ same)
  fault_by s asked site full r a due (Passes s' b) (Breaks y) phase alike e = absurd alike
  fault_by s asked site full r a due (Breaks x) (Passes s2 b2) phase alike e = absurd alike

  -- a request for a block of the global heap never faults
  fault_due : (s : Store) (asked site : ℕ) (full : Bool) (r : Runner Position) (a : Acting Position) (due : Option (Step Position)) → a.runner.has.number ≡ r.has.number
      → asks core set (commons_of asked s) (owner s.heaps full r) a due ≡ nodes.Breaks site → request_phase s a due ≡ Breaks site
  fault_due s asked site full r a None number e = absurd (cc)
  fault_due s asked site full r a (Some step) number e = by (is_hire step.operation) refl
    where
      never : hires first (commons_of asked s) (owner s.heaps full r) a step ≡ nodes.Breaks site → ⊥
      never f = cc

      by : (b : Bool) → is_hire step.operation ≡ b → request_phase s a (Some step) ≡ Breaks site
      by true hire = absurd (never (sym (ap (asked_of (commons_of asked s) (owner s.heaps full r) a step) hire) ∙ e))
      by false other =
          fault_by s asked site full r a (Some step) (request_phase s a (Some step)) (request_phase (seen s r.has.number) a (Some step)) refl
          (phase_alike r.has.number s a (Some step) number other) (sym (ap (asked_of (commons_of asked s) (owner s.heaps full r) a step) other) ∙ e)

  fault_on : (s : Store) (asked c site : ℕ) (full : Bool) (r : Runner Position) → IsUnit c
      → part core set c (commons_of asked s) (owner s.heaps full r) ≡ nodes.Breaks site → request_phase s (acted c r) (acted c r).due ≡ Breaks site
  fault_on s asked c site full r unit e = fault_due s asked site full r (acted c r) (acted c r).due (acted_number c r unit) e

  -- ---- all of them

  abbrev pub served_from : ℕ → Round → List (Runner Position) → Store → Phases Position
  served_from number round rs s = all_requests number (asking (next core) set round rs) s

  -- the phases with one processor more
  abbrev with_first : ℕ → ℕ → Round → Runner Position → List (Runner Position) → Store → Phase Position → Phases Position
  with_first number c round r rs s x =
      after_phase number s (acted c r) (asking (next core) set round rs) (all_requests (suc number) (asking (next core) set round rs)) x

  pub record Passed (number : ℕ) (round : Round) (rs : List (Runner Position)) (s : Store) (others : ℕ) (ds : List Doing) (s1 : Commons) : Type 0 where
    pub store : Store
    pub all : served_from number round rs s ≡ record { store = store; acting = actings ds; fault = None }
    pub commons : commons_of s1.asked store ≡ s1
    pub own : AreOwn number store.heaps ds
    pub below : (g : ℕ) → g < number → store.heaps g ≡ s.heaps g
    pub shows : ShowsTop first store.top s1.asked (beside others (notes_in ds))

  passed_first : (number c : ℕ) (round : Round) (r : Runner Position) (rs : List (Runner Position)) (s : Store) (others n : ℕ) (d : Doing) (ds : List Doing) (s1 s2 : Commons)
      → IsUnit c → r.has.number ≡ number → (one : OnStore s n r (acted c r) (acted c r).due s1 d) → Passed (suc number) round rs one.store (and_full d.heap.full others) ds s2
      → Passed number (c ∷ round) (r ∷ rs) s others (d ∷ ds) s2
  passed_first number c round r rs s others n d ds s1 s2 unit e one rest = record {
    store = rest.store;
    all = ap (with_first number c round r rs s) one.passes ∙ ap (before_others d.acting) rest.all;
    commons = rest.commons;
    own = (
      phase_number s one.store (acted c r) d.acting (acted c r).due one.passes ∙ acted_number c r unit ∙ e,
      rest.below number (omega arith) ∙ subst (λ k. one.store.heaps k ≡ d.heap.words) e one.own,
      rest.own,
    );
    below = λ g lt. rest.below g (omega arith) ∙ one.kept g (λ f. omega arith);
    shows = rest.shows;
  }

  pub passed : (number : ℕ) (round : Round) (fs : List Bool) (rs : List (Runner Position)) (s : Store) (asked others : ℕ) (ds : List Doing) (s2 : Commons) → AreUnits round → AreNumbered number rs
      → length fs ≡ length rs → 0 < first → others + length fs ≤ 1024 → ShowsTop first s.top asked (beside others fs)
      → nodes.AllPass (core_source core set) round (owners s.heaps fs rs) (commons_of asked s) ds s2 → Passed number round rs s others ds s2
  passed number [] [] [] s asked others [] s2 units numbered many begins few shows all = record {
    store = s;
    all = refl;
    commons = ap (λ n. commons_of n s) (ap (λ c. c.asked) all) ∙ sym all;
    own = tt;
    below = λ g lt. refl;
    shows = subst (λ n. ShowsTop first s.top n others) (sym (ap (λ c. c.asked) all)) shows;
  }
  passed number (c ∷ round) (f ∷ fs) (r ∷ rs) s asked others (d ∷ ds) s2 units numbered many begins few shows all =
      let le = beside_few others fs in
      let most : others + suc (length fs) ≤ 1024 = few in
      let one = on_store s asked (beside others fs) f c r all.0 d units.0 all.1 begins (omega arith) (subst (ShowsTop first s.top asked) (beside_and f others fs) shows) in
      let same = owners_same s.heaps one.store.heaps (suc number) fs rs numbered.1 (λ g no. one.kept g (λ f. no (omega (arith, f, numbered.0)))) in
      passed_first number c round r rs s others (beside others fs) d ds all.0 s2 units.0 numbered.0 one
      (passed (suc number) round fs rs one.store all.0.asked (and_full d.heap.full others) ds s2 units.1 numbered.1 (omega arith) begins (and_few d.heap.full others (length fs) few)
      (subst (ShowsTop first one.store.top all.0.asked) (sym (beside_and d.heap.full others fs)) one.shows)
      (subst (λ ps. nodes.AllPass (core_source core set) round ps (commons_of all.0.asked one.store) ds s2) (sym same)
      (subst (λ x. nodes.AllPass (core_source core set) round (owners s.heaps fs rs) x ds s2) (sym one.commons) all.2)))
  passed number [] [] (r ∷ rs) s asked others [] s2 units numbered many begins few shows all = absurd (omega arith)
  passed number [] (f ∷ fs) [] s asked others [] s2 units numbered many begins few shows all = absurd (omega arith)
  passed number round fs rs s asked others ds s2 units numbered many begins few shows all = absurd (assumption all)

  pub record Faulted (number place site : ℕ) (round : Round) (rs : List (Runner Position)) (s : Store) (s1 : Commons) : Type 0 where
    pub fault : (served_from number round rs s).fault ≡ Some (record { site = site; processor = number + place })
    pub commons : commons_of s1.asked (served_from number round rs s).store ≡ s1

  pub faulted : (number place site : ℕ) (round : Round) (fs : List Bool) (rs : List (Runner Position)) (s : Store) (asked others : ℕ) (s2 : Commons) → AreUnits round → AreNumbered number rs
      → 0 < first → others + length fs ≤ 1024 → ShowsTop first s.top asked (beside others fs)
      → nodes.FaultsAfter (core_source core set) place site round (owners s.heaps fs rs) (commons_of asked s) s2 → Faulted number place site round rs s s2
  faulted number zero site (c ∷ round) (f ∷ fs) (r ∷ rs) s asked others s2 units numbered begins few shows all =
      let e = ap (with_first number c round r rs s) (fault_on s asked c site f r units.0 all.0) in
      let here : number ≡ number + 0 = omega arith in
      record {
        fault = ap (λ x. x.fault) e ∙ ap (λ k. let f : Fault = record { site = site; processor = k } in Some f) here;
        commons = ap (λ x. commons_of s2.asked x.store) e ∙ ap (λ n. commons_of n s) (ap (λ c. c.asked) all.1) ∙ sym all.1;
      }
  faulted number (suc place) site (c ∷ round) (f ∷ fs) (r ∷ rs) s asked others s2 units numbered begins few shows all =
      let le = beside_few others fs in
      let most : others + suc (length fs) ≤ 1024 = few in
      let d = all.1 in
      let one = on_store s asked (beside others fs) f c r all.0 d units.0 all.2 begins (omega arith) (subst (ShowsTop first s.top asked) (beside_and f others fs) shows) in
      let same = owners_same s.heaps one.store.heaps (suc number) fs rs numbered.1 (λ g no. one.kept g (λ f. no (omega (arith, f, numbered.0)))) in
      let rest = faulted (suc number) place site round fs rs one.store all.0.asked (and_full d.heap.full others) s2 units.1 numbered.1 begins (and_few d.heap.full others (length fs) few)
      (subst (ShowsTop first one.store.top all.0.asked) (sym (beside_and d.heap.full others fs)) one.shows)
      (subst (λ ps. nodes.FaultsAfter (core_source core set) place site round ps (commons_of all.0.asked one.store) s2) (sym same)
      (subst (λ x. nodes.FaultsAfter (core_source core set) place site round (owners s.heaps fs rs) x s2) (sym one.commons) all.3)) in
      let e = ap (with_first number c round r rs s) one.passes in
      let here : suc number + place ≡ number + suc place = omega arith in
      record {
        fault = ap (λ x. x.fault) e ∙ rest.fault ∙ ap (λ k. let f : Fault = record { site = site; processor = k } in Some f) here;
        commons = ap (λ x. commons_of s2.asked x.store) e ∙ rest.commons;
      }
  faulted number place site round fs rs s asked others s2 units numbered begins few shows all = absurd (assumption all)

-- ---- a round that is cut

pub first_cut : (n : ℕ) (round : Round) → first_of n round ≡ cut n round
first_cut zero [] = refl
first_cut zero (c ∷ round) = ap (λ l. 0 ∷ l) (first_cut zero round)
first_cut (suc n) [] = refl
first_cut (suc n) (c ∷ round) = ap (λ l. c ∷ l) (first_cut n round)

pub cut_units : (n : ℕ) (round : Round) → AreUnits round → AreUnits (cut n round)
cut_units zero [] units = tt
cut_units zero (c ∷ round) units = (tt, cut_units zero round units.1)
cut_units (suc n) [] units = tt
cut_units (suc n) (c ∷ round) units = (units.0, cut_units n round units.1)

pub cut_faults : (core : List CoreOp) (set : Setting) (place site : ℕ) (round : Round) (ps : List Owner) (s s1 : Commons)
    → nodes.FaultsAfter (core_source core set) place site round ps s s1 → nodes.FaultsAfter (core_source core set) place site (cut (suc place) round) ps s s1
cut_faults core set zero site (c ∷ round) (p ∷ ps) s s1 all = all
cut_faults core set (suc place) site (c ∷ round) (p ∷ ps) s s1 all = (all.0, all.1, all.2, cut_faults core set place site round ps all.0 s1 all.3)
cut_faults core set place site round ps s s1 all = absurd (assumption all)
