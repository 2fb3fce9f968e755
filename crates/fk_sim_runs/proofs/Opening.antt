-- The beginning: all harts are in the root, each on the way to its first commit.
use Rattle.std.proofs.Common.{◌≡◌, ◌≢◌, ℕ, zero, suc, ◌+◌, ◌≤◌, ◌<◌, List, [], ◌∷◌, length, Some, None, Bool, true, false, cond, sym, ap, subst, ◌∙◌, refl, arith, ⊎_elim}
use Rattle.std.specs.Prelude.{◌==◌, map, replicate, slice_index, is_some}
use Rattle.std.proofs.lemmas.Bool.{cases_eq, ne_eqb, and_parts, cond-true, false≢true}
use Rattle.fk_space.specs.Space.{Space}
use Rattle.fk_tree.specs.declared.node.Kind.{Kind}
use Rattle.fk_tree.specs.declared.node.Kind.TheVariants.{Asynchronous}
use Rattle.fk_tree.specs.Tree as trees
use Rattle.fk_tree.specs.Tree.{Tree, kind_of, is_member, node_of, below, root, is_from}
use Rattle.fk_tree.specs.Sound.{is_ascending}
use Rattle.fk_tree.proofs.Lists.{length-below, below-has}
use Rattle.fk_tree.proofs.Shapes.{with_other}
use Rattle.fk_tree.proofs.RootSound.{root_sound}
use Rattle.fk_meaning_store.specs.Store.{heap_start}
use Rattle.fk_meaning.specs.Processor.{Setting, setting_of}
use Rattle.fk_meaning.specs.Round.{Runner, State}
use Rattle.fk_meaning.specs.Schedule.{beginners}
use Rattle.fk_core.specs.declared.op.CoreOp.{CoreOp}
use Rattle.fk_core.specs.Next.{Position, position, list_opening}
use Rattle.fk_image.specs.declared.Image.{Image}
use Rattle.fk_machine.specs.declared.stand.Stand.TheVariants.{Running, Finished}
use Rattle.fk_machine.specs.Hart.{Hart, Setting as MachineSetting}
use Rattle.fk_machine.specs.Cycle as machine
use Rattle.fk_machine.specs.Cycle.{first_hart, all_ended}
use Rattle.fk_sim_nodes.specs.Node.{Member, numbered, add, of_node, AreAsMany}
use Rattle.fk_sim_nodes.specs.Phase.{Phase, Outside, Away, Coming, Waiting, Leaving, Each, IsIdle, Settled}
use Rattle.fk_sim_nodes.proofs.Between.{words_open_at_zero}
use Rattle.fk_sim_match.specs.Stage.{Stage, Ended, Acts, Meets, absent, kept, phase_of}
use Rattle.fk_sim_match.specs.Plan.{Plan, Blocks, IsOpen, phases, phases_from, StandsAt, AllStandAt, Binds}
use Rattle.fk_sim_match.specs.Change.{IsFresh}
use Rattle.fk_sim_heap.specs.Shows.{ShowsTop, number_full}
use Rattle.fk_sim_heap.proofs.Requests.{heaps_begin_uncounted}
use Rattle.fk_sim_block.specs.Owner.{Owner, Doing, commons_of, core_source}
use Rattle.fk_sim_block.specs.Stands.{Places}
use Rattle.fk_sim_block.specs.Block.{IsRunning, beginner}
use Rattle.fk_sim_block.specs.Node.{Nestings, StandsInNode, barrier_word}
use Rattle.fk_sim_block.specs.Law.{Cycles, GroupLaw}
use Rattle.fk_sim_match.specs.Nodes.{first_of, own_words, HaveSpaces, body_at, meeters_at, is_arrival, is_lockstep, plan_of}
use Rattle.fk_sim_match.specs.Behind.{runs_of, blocks_of}
use Rattle.fk_sim_match.specs.Rounds.{AllDue}
use Rattle.fk_sim_match.proofs.Nodes.{tells, open_at}
use Rattle.fk_sim_rounds.specs.Next.{JumpsLead, landed, HasNext}
use Rattle.fk_sim_rounds.specs.Comes.{IsNode, ComesTo}
use Rattle.fk_sim_rounds.specs.After.{runners_of, ArePlaces, AllLanded}
use Rattle.fk_sim_rounds.proofs.Comes.{members_come_to_stages}
use Rattle.fk_sim_rounds.proofs.Counts.{Fine, AllFine, phases_count, count_is}
use Rattle.fk_sim_rounds.specs.Beside.{landed_runner, HaveHeaps, notes_of, AreInOrder}
use Rattle.fk_sim_rounds.specs.Homes.{AllHome}
use Rattle.fk_sim_rounds.specs.Follow.{IsFollowed}
use Rattle.fk_sim_rounds.proofs.Landed.{landing_twice}
use Rattle.fk_sim_rounds.proofs.Ended.{harts_end_with_processors}
use Rattle.fk_sim_runs.specs.Facts.{HasSpace}
use Rattle.fk_sim_runs.specs.Opening.{AreSoon, OpensWith, OpeningsAreFollowed}

-- ---- lists of one element

many_same : {A : Type 0} (n : ℕ) (x : A) → length (replicate n x) ≡ n
many_same zero x = refl
many_same (suc n) x = ap suc (many_same n x)

-- nobody stands in another node than the root
of_none : {A : Type 0} (g n : ℕ) (xs : List A) → g ≢ 0 → of_node g (replicate n 0) xs ≡ []
of_none g zero xs ne = refl
of_none g (suc n) [] ne = refl
of_none g (suc n) (x ∷ xs) ne = ap (λ b. add b x (of_node g (replicate n 0) xs)) (ne_eqb 0 g (λ e. ne (sym e))) ∙ of_none g n xs ne

no_one_ended : (n : ℕ) → 1 ≤ n → all_ended (replicate n first_hart) ≡ false
no_one_ended zero le = absurd (omega (arith, le))
no_one_ended (suc n) le = refl

-- a node with members is there
filled : (ms : List ℕ) (kind : Kind) → 1 ≤ length ms → (kind_of (node_of ms 0 kind) ≡ Some kind) × (is_some (node_of ms 0 kind) ≡ true)
filled [] kind le = absurd (omega (arith, le))
filled (m ∷ ms) kind le = (refl, refl)

-- ---- who is on its way has not arrived

idle_absent : (t : ℕ) (member : Bool) → IsIdle t (absent member)
idle_absent t true = tt
idle_absent t false = tt

idle_at : (t : ℕ) (here : Bool) (f : Phase) (member : Bool) → IsIdle t f → IsIdle t (cond here f (absent member))
idle_at t true f member idle = idle
idle_at t false f member idle = idle_absent t member

fresh_idle : (u : MachineSetting) (w : ℕ) (member : Bool) (s : Stage) → IsFresh u s → IsIdle u.finished (phase_of w member (Some s))
fresh_idle u w member Ended fresh = idle_absent u.finished member
fresh_idle u w member (Acts d inner) fresh = idle_absent u.finished member
fresh_idle u w member (Meets e v (Coming d)) fresh = idle_at u.finished (v == w) (Coming d) member fresh
fresh_idle u w member (Meets e v Outside) fresh = absurd fresh
fresh_idle u w member (Meets e v Away) fresh = absurd fresh
fresh_idle u w member (Meets e v Waiting) fresh = absurd fresh
fresh_idle u w member (Meets e v (Leaving d)) fresh = absurd fresh

module _ (core : List CoreOp) (image : Image) (places : Places) (nestings : Nestings) (cycles : Cycles) (firsts : List ℕ) (main : ℕ) (spaces : ℕ → Space) (input : List ℕ) (p : ℕ)
    (the_law : GroupLaw core image places nestings cycles firsts main) (leads : JumpsLead core) (some : 1 ≤ p) (few : p ≤ 1024) (few_inputs : length input ≤ 65536) (room : HasSpace (setting_of p image.globals.items input))
    (has_next : (number : ℕ) → number < p → HasNext core nestings (setting_of p image.globals.items input) (root p) number (landed core (beginner (setting_of p image.globals.items input) (slice_index firsts) main number))) where
  abbrev setting : Setting
  setting = setting_of p image.globals.items input

  abbrev plan : Plan
  plan = plan_of (root p) spaces (replicate p 0)

  abbrev blocks : Blocks Owner Doing
  blocks = blocks_of core image places nestings (setting_of p image.globals.items input) (plan_of (root p) spaces (replicate p 0)) (first_of spaces)

  abbrev t : MachineSetting
  t = machine.setting_of (machine.machine_opening image input p)

  -- ---- the root

  abbrev lone : Kind
  lone = Asynchronous false

  length_is : length (below p []) ≡ p
  length_is = let e = length-below p [] in omega (arith, e)

  root_is : (trees.kind (root p) 0 ≡ Some lone) × (is_some ((root p).nodes 0) ≡ true)
  root_is = let e = length_is in filled (below p []) lone (omega (arith, e, some))

  members_are : trees.members (root p) 0 ≡ below p []
  members_are = let sound = root_sound p some in sound.root

  size_is : p ≡ length (trees.members (root p) 0)
  size_is = sym length_is ∙ ap (λ ms. length ms) (sym members_are)

  no_other : (g : ℕ) → g ≢ 0 → (root p).nodes g ≡ None
  no_other g ne = with_other 0 (node_of (below p []) 0 lone) (λ i. None) g ne

  nobody : (g : ℕ) → g ≢ 0 → is_some ((root p).nodes g) ≡ true → ⊥
  nobody g ne is = false≢true (sym (ap is_some (no_other g ne)) ∙ is)

  spaced : HaveSpaces (root p) spaces
  spaced = record {
    header = λ g ne is. absurd (nobody g ne is);
    within = λ g ne is. absurd (nobody g ne is);
    waits = λ g ne is. absurd (nobody g ne is);
    nested = λ g ne is up. absurd (nobody g ne is);
    apart = λ g k ne ne' differ is is' same. absurd (nobody g ne is);
  }

  free : (g : ℕ) → is_lockstep (trees.kind (root p) g) ≡ false
  free g =
      ⊎_elim
      (λ e. ap (λ k. is_lockstep (trees.kind (root p) k)) e ∙ ap is_lockstep root_is.0)
      (λ ne. ap (λ o. is_lockstep (kind_of o)) (no_other g ne))
      (cases_eq g 0)

  node : IsNode (root p) spaces 0
  node = record { spaced = spaced; there = root_is.1; given = omega arith }

  -- at both of its words all meet
  all_meet : (offset : ℕ) → is_arrival offset ≡ true → meeters_at (root p) 0 offset ≡ below p []
  all_meet zero is = ap (λ k. body_at k 0 (trees.members (root p) 0)) root_is.0 ∙ members_are
  all_meet (suc zero) is = members_are
  all_meet (suc (suc i)) is = absurd (false≢true is)

  record AllMeet (w : ℕ) : Type 0 where
    size : plan.size w ≡ p
    member : (h : ℕ) → plan.member w h ≡ is_member h (below p [])

  meet_at : (offset : ℕ) → offset < 8 → is_arrival offset ≡ true → AllMeet (first_of spaces 0 + offset)
  meet_at offset lt is =
      let told = tells (root p) spaces spaced (replicate p 0) 0 offset root_is.1 (omega arith) lt in
      let all = all_meet offset is in
      record { size = told.size ∙ ap (λ ms. length ms) all ∙ length_is; member = λ h. told.member h ∙ ap (λ ms. is_member h ms) all }

  meet_in : (w : ℕ) → IsOpen plan 0 w → AllMeet w
  meet_in w is_open =
      let x = open_at (root p) spaces spaced (replicate p 0) 0 w (omega arith) is_open in
      subst AllMeet x.word (meet_at x.offset x.few x.arrival)

  runs_are : (number : ℕ) → number < p → runs_of plan (first_of spaces 0) number ≡ Some p
  runs_are number lt =
      let w = first_of spaces 0 + barrier_word in
      let all = meet_at 0 (omega arith) refl in
      cond-true (plan.member w number) (Some (plan.size w)) None (all.member number ∙ below-has p number [] lt) ∙ ap (λ n. Some n) all.size

  -- ---- each hart

  abbrev opener : (number : ℕ) → Owner
  opener number = landed core (beginner (setting_of p image.globals.items input) (slice_index firsts) main number)

  abbrev at_first : (number : ℕ) → Member
  at_first number = record { number = number; hart = first_hart }

  running : IsRunning image setting t
  running = record { code = refl; processors = many_same p first_hart; inputs = refl; globals = refl; few = few; few_inputs = few_inputs }

  comes : (number : ℕ) → number < p → ComesTo core image places nestings setting (root p) spaces (replicate p 0) t 0 (at_first number) (opener number)
  comes number lt =
      let b = the_law.begins setting t number running lt in
      let one = beginner setting (slice_index firsts) main number in
      members_come_to_stages core image places nestings cycles firsts main setting (root p) spaces (replicate p 0) t b.begins.cycles (at_first number) b.begins.hart one the_law leads node (free 0)
      running lt b.begins.few b.begins.runs b.begins.at (subst (λ r. StandsInNode places nestings setting r one b.begins.hart) (sym (runs_are number lt)) b.node)
      (record { number_is = refl; words = refl; size = size_is; range = λ ne. absurd (ne refl) }) (has_next number lt)

  -- ---- all of them

  abbrev openers : (number count : ℕ) → List Owner
  openers number zero = []
  openers number (suc n) = landed core (beginner (setting_of p image.globals.items input) (slice_index firsts) main number) ∷ openers (suc number) n

  abbrev harts : (count : ℕ) → List Hart
  harts count = replicate count first_hart

  record Opens (number count : ℕ) : Type 0 where
    stages : List Stage
    soon : AreSoon stages
    due : AllDue core (root p) spaces number stages (runners_of (openers number count))
    many : AreAsMany {A = ℕ} (replicate count 0) (harts count) (openers number count)
    many_stages : AreAsMany {A = ℕ} (replicate count 0) (harts count) stages
    fine : AllFine plan 0 number (replicate count 0) stages
    idle : (w : ℕ) → Each (IsIdle 0) (phases_from plan 0 w number (replicate count 0) (kept stages))
    stand : AllStandAt (core_source core setting) image plan blocks t 0 (of_node 0 (replicate count 0) stages) (of_node 0 (replicate count 0) (numbered number (harts count)))
        (of_node 0 (replicate count 0) (openers number count))

  stands_fine : (number : ℕ) (s : Stage) → StandsAt (core_source core setting) image plan blocks t 0 s (at_first number) (opener number) → Fine plan number s
  stands_fine number Ended stands = tt
  stands_fine number (Acts d inner) stands = tt
  stands_fine number (Meets e v f) stands = (stands.0, stands.2)

  opens : (number count : ℕ) → number + count ≤ p → Opens number count
  opens number zero le = record { stages = []; soon = tt; due = tt; many = tt; many_stages = tt; fine = tt; idle = λ w. tt; stand = tt }
  opens number (suc n) le =
      let one = comes number (omega (arith, le)) in
      let rest = opens (suc number) n (omega (arith, le)) in
      record {
        stages = one.stage ∷ rest.stages;
        soon = (one.soon, rest.soon);
        due = (refl, one.due, rest.due);
        many = rest.many;
        many_stages = rest.many_stages;
        fine = (λ e. stands_fine number one.stage one.stands, rest.fine);
        idle = λ w. (fresh_idle t w (plan.member w number) one.stage one.fresh, rest.idle w);
        stand = (one.stands, rest.stand);
      }

  -- ---- the state beside them

  abbrev first : State Position
  first = list_opening main image.globals.items firsts input p

  abbrev beginning : (number count : ℕ) → List (Runner Position)
  beginning number count = beginners (setting_of p image.globals.items input) (slice_index firsts) (position main []) number count

  in_order : (number count : ℕ) → AreInOrder number (beginning number count)
  in_order number zero = tt
  in_order number (suc n) = (refl, in_order (suc number) n)

  runners_are : (number count : ℕ) → runners_of (openers number count) ≡ map (landed_runner core) (beginning number count)
  runners_are number zero = refl
  runners_are number (suc n) = ap (λ l. (opener number).runner ∷ l) (runners_are (suc number) n)

  heaps_are : (number count : ℕ) → HaveHeaps number (λ h i. 0) (openers number count)
  heaps_are number zero = tt
  heaps_are number (suc n) = (refl, heaps_are (suc number) n)

  openers_many : (number count : ℕ) → length (openers number count) ≡ count
  openers_many number zero = refl
  openers_many number (suc n) = ap suc (openers_many (suc number) n)

  -- nobody has noted that the heap is full
  none_noted : (number count : ℕ) → number_full (notes_of (openers number count)) ≡ 0
  none_noted number zero = refl
  none_noted number (suc n) = none_noted (suc number) n

  few_openers : length (openers 0 p) ≤ 1024
  few_openers = let many = openers_many 0 p in omega (arith, many, few)

  abbrev start : ℕ
  start = heap_start (setting.globals + setting.inputs)

  top : ShowsTop start first.store.top 0 (number_full (notes_of (openers 0 p)))
  top = subst (ShowsTop start first.store.top 0) (sym (none_noted 0 p)) (heaps_begin_uncounted start (omega (arith, room)))

  all_home : (number count : ℕ) → AllHome (root p) spaces number (openers number count)
  all_home number zero = tt
  all_home number (suc n) = (refl, (refl, size_is), all_home (suc number) n)

  all_landed : (number count : ℕ) → AllLanded core (openers number count)
  all_landed number zero = tt
  all_landed number (suc n) = (landing_twice core leads main, all_landed (suc number) n)

  in_root : (number count : ℕ) → ArePlaces (root p) number (replicate count 0)
  in_root number zero = tt
  in_root number (suc n) = (refl, in_root (suc number) n)

  -- ---- the plan of the root

  module _ (all : Opens 0 p) where
    settled : (w : ℕ) → IsOpen plan 0 w → Settled 0 (plan.size w) 0 (phases plan 0 w (kept all.stages))
    settled w is_open =
        let meet = meet_in w is_open in
        let sound = root_sound p some in
        let zero_node : ℕ = 0 in
        let same = many_same p zero_node in
        let count = phases_count plan 0 w 0 (replicate p 0) all.stages (below p []) meet.member all.fine
        ∙ count_is 0 (replicate p 0) (below p []) (ap is_ascending (sym members_are) ∙ sound.ascending 0)
        (λ h is. let lt = sound.within 0 h (ap (λ ms. is_member h ms) members_are ∙ is) in (omega arith, omega (arith, lt, same)))
        ∙ length_is in
        subst (λ n. Settled 0 n 0 (phases plan 0 w (kept all.stages))) (count ∙ sym meet.size) (words_open_at_zero 0 (phases plan 0 w (kept all.stages)) (all.idle w))

    binds : (g : ℕ) → Binds (core_source core setting) image plan blocks false t g (of_node g (replicate p 0) all.stages) (of_node g (replicate p 0) (numbered 0 (harts p)))
        (of_node g (replicate p 0) (openers 0 p)) (λ i. 0)
    binds g =
        ⊎_elim
        (λ e.
        subst
        (λ k.
        AllStandAt (core_source core setting) image plan blocks t k (of_node k (replicate p 0) all.stages) (of_node k (replicate p 0) (numbered 0 (harts p)))
        (of_node k (replicate p 0) (openers 0 p))) (sym e) all.stand)
        (λ ne.
        subst
        (λ xs. AllStandAt (core_source core setting) image plan blocks t g xs (of_node g (replicate p 0) (numbered 0 (harts p))) (of_node g (replicate p 0) (openers 0 p)))
        (sym (of_none g p all.stages ne))
        (subst (λ ms. AllStandAt (core_source core setting) image plan blocks t g [] ms (of_node g (replicate p 0) (openers 0 p))) (sym (of_none g p (numbered 0 (harts p)) ne))
        (subst (λ ps. AllStandAt (core_source core setting) image plan blocks t g [] [] ps) (sym (of_none g p (openers 0 p) ne)) tt)))
        (cases_eq g 0)

    followed : IsFollowed core image places nestings setting spaces first (replicate p 0) t [] all.stages (harts p) (machine.unprinted (machine.machine_opening image input p).shared)
    followed = record {
      ps = openers 0 p;
      shared = commons_of 0 first.store;
      before = record {
        running = running;
        sound = root_sound p some;
        spaced = spaced;
        stand = in_root 0 p;
        many = many_same {A = ℕ} p 0;
        as_many = all.many;
        landed = all_landed 0 p;
        due = all.due;
      };
      order = in_order 0 p;
      beside = record { going = refl; runners = runners_are 0 p; heaps = heaps_are 0 p; commons = refl; few = few_openers; top = top };
      homes = all_home 0 p;
      shows = record { words = refl; output = refl; common = λ i e. refl };
      bound = record {
        as_many = all.many;
        stages_as_many = all.many_stages;
        binds = λ g.
            subst
            (λ b.
            Binds (core_source core setting) image plan blocks b t g (of_node g (replicate p 0) all.stages) (of_node g (replicate p 0) (numbered 0 (harts p)))
            (of_node g (replicate p 0) (openers 0 p)) (λ i. 0)) (sym (free g)) (binds g);
        counts = λ g w alone is_open.
            ⊎_elim
            (λ e. subst (λ k. Settled 0 (plan.size w) 0 (phases plan k w (kept all.stages))) (sym e) (settled w (subst (λ k. IsOpen plan k w) e is_open)))
            (λ ne. absurd (nobody g ne (and_parts (is_some ((root p).nodes g)) (is_from (first_of spaces g) (own_words spaces g (trees.kind (root p) g)) w) is_open.0).0))
            (cases_eq g 0);
      };
    }

  opens_with : OpensWith core image places nestings spaces firsts main input p
  opens_with =
      let all = opens 0 p (omega arith) in
      let f = followed all in
      record {
        stages = all.stages;
        soon = all.soon;
        goes = record {
          followed = f;
          stand =
              ap (λ e. cond e Finished Running)
              (sym (no_one_ended p some)
              ∙ harts_end_with_processors core image places nestings setting spaces first (replicate p 0) t [] all.stages (harts p) (machine.unprinted (machine.machine_opening image input p).shared) leads f);
        };
      }

pub openings_are_followed : OpeningsAreFollowed
openings_are_followed core image places nestings cycles firsts main spaces input p the_law leads some few few_inputs room has_next =
    opens_with core image places nestings cycles firsts main spaces input p the_law leads some few few_inputs room has_next
