-- From one cycle to the next a machine follows a run.
use Rattle.std.proofs.Common.{◌≡◌, ℕ, zero, suc, ◌+◌, ◌^◌, ◌<◌, List, [], ◌∷◌, ◌++◌, length, Some, true, false, ◌&&◌, sym, ap, subst, ◌∙◌, refl, arith, ◌⊎◌, inl, inr, ⊎_elim}
use Rattle.std.specs.Prelude.{map, is_none}
use Rattle.std.proofs.lemmas.Bool.{and_from}
use Rattle.std.proofs.lemmas.List.{append-nil, length-map}
use Rattle.fk_space.specs.Space.{Space}
use Rattle.fk_tree.specs.Tree.{Tree}
use Rattle.fk_meaning.specs.Processor.{Setting}
use Rattle.fk_meaning.specs.Round.{Runner, Acting, State, result, is_allowed}
use Rattle.fk_core.specs.declared.op.CoreOp.{CoreOp}
use Rattle.fk_core.specs.Next.{Position, next}
use Rattle.fk_image.specs.declared.Image.{Image}
use Rattle.fk_machine.specs.declared.stand.Stand.TheVariants.{Faulted}
use Rattle.fk_machine.specs.Hart.{Hart, Shared, Setting as MachineSetting}
use Rattle.fk_machine.specs.Cycle.{turns}
use Rattle.fk_sim_nodes.specs.Source.{AllPass, FaultsAfter}
use Rattle.fk_sim_nodes.specs.Alone.{later}
use Rattle.fk_sim_nodes.specs.Node.{Member, Words, numbered}
use Rattle.fk_sim_nodes.specs.Whole.{planned, first_of, IsCut}
use Rattle.fk_sim_match.specs.Stage.{Stage, counts_for, AllDoOne}
use Rattle.fk_sim_match.specs.Plan.{IsBound}
use Rattle.fk_sim_block.specs.Owner.{Commons, Heaps, Owner, idle, core_source}
use Rattle.fk_sim_block.specs.Stands.{Places}
use Rattle.fk_sim_block.specs.Block.{gone_to}
use Rattle.fk_sim_rounds.proofs.Cycles.{runs_later}
use Rattle.fk_sim_rounds.proofs.Rounds.{first_cut}
use Rattle.fk_sim_block.specs.Node.{Nestings}
use Rattle.fk_sim_block.specs.Start.{most_united}
use Rattle.fk_sim_block.specs.Law.{Cycles, GroupLaw}
use Rattle.fk_sim_match.specs.Nodes as plans
use Rattle.fk_sim_match.specs.Nodes.{nodes_of, plan_of, united}
use Rattle.fk_sim_match.specs.Behind.{blocks_of}
use Rattle.fk_sim_match.specs.Uniting.{NobodyUnites, SomebodyUnites}
use Rattle.fk_sim_match.specs.Standing.{all_act}
use Rattle.fk_sim_match.proofs.Joining.{nobody_or_somebody}
use Rattle.fk_sim_match.specs.Rounds.{AllDue, owners_of}
use Rattle.fk_sim_match.proofs.Rounds.{rounds_are_allowed}
use Rattle.fk_sim_rounds.specs.Next.{JumpsLead, all_landed, AllAt}
use Rattle.fk_sim_rounds.specs.After.{actings, runners_of, tree_after, owner_after, owners_after, AllKeep, ArePlaces, AllLanded}
use Rattle.fk_sim_rounds.specs.After.{GroupsGoOn}
use Rattle.fk_sim_rounds.specs.Rounds.{IsTree, IsBefore, IsKnownRound, PlanGoesOn}
use Rattle.fk_sim_rounds.specs.Start.{IsBeforeStart}
use Rattle.fk_sim_rounds.proofs.Groups.{many_length}
use Rattle.fk_sim_rounds.proofs.Trees.{all_keep}
use Rattle.fk_sim_rounds.proofs.Unite.{cycles_unite}
use Rattle.fk_sim_rounds.proofs.Cycle.{cycles_bind_again}
use Rattle.fk_sim_rounds.specs.Beside.{landed_runner, landed_state, AreInOrder, IsBeside}
use Rattle.fk_sim_rounds.specs.Union.{AreNearBegin, AllLandAt}
use Rattle.fk_sim_rounds.specs.Follow.{IsFollowed, FollowsRound, FollowsFault, FollowsUnion, CyclesFollowRounds}
use Rattle.fk_sim_rounds.proofs.Landed.{landing_twice, allowed_land}
use Rattle.fk_sim_rounds.specs.Homes.{AllHome, AllNext, PartsAreTold}
use Rattle.fk_sim_rounds.proofs.Results.{due_do_one, is_after, is_fault}
use Rattle.fk_sim_rounds.proofs.Homes.{homes_stay, homes_go_on}

-- ---- the landed state as the plan has it

module _ (core : List CoreOp) where
  nodes_are : (tree : Tree) (number : ℕ) (nodes : List ℕ) (rs : List (Runner Position)) → ArePlaces tree number nodes → AreInOrder number rs → length nodes ≡ length rs
      → nodes_of tree (map (landed_runner core) rs) ≡ nodes
  nodes_are tree number [] [] here order e = refl
  nodes_are tree number (n ∷ nodes) (r ∷ rs) here order e =
      ap (λ k. tree.places k ∷ nodes_of tree (map (landed_runner core) rs)) order.0 ∙ ap (λ k. k ∷ nodes_of tree (map (landed_runner core) rs)) (sym here.0)
      ∙ ap (λ l. n ∷ l) (nodes_are tree (suc number) nodes rs here.1 order.1 (omega (arith, e)))
  nodes_are tree number [] (r ∷ rs) here order e = absurd (omega (arith, e))
  nodes_are tree number (n ∷ nodes) [] here order e = absurd (omega (arith, e))

  -- the heaps of processors, each by the number of its processor
  abbrev heaps_of : List Owner → ℕ → Heaps
  heaps_of [] h = record { words = λ i. 0; full = false }
  heaps_of (p ∷ ps) zero = p.heap
  heaps_of (p ∷ ps) (suc h) = heaps_of ps h

  owners_are : (number : ℕ) (heaps : ℕ → Heaps) (ps : List Owner) (rs : List (Runner Position)) → AreInOrder number rs → runners_of ps ≡ map (landed_runner core) rs
      → ((h : ℕ) → heaps (number + h) ≡ heaps_of ps h) → owners_of heaps (map (landed_runner core) rs) ≡ ps
  owners_are number heaps [] [] order same own = refl
  owners_are number heaps (p ∷ ps) (r ∷ rs) order same own =
      let first : p.runner ≡ landed_runner core r = cc in
      let others : runners_of ps ≡ map (landed_runner core) rs = cc in
      let here : number ≡ number + 0 = omega arith in
      let rest : (h : ℕ) → heaps (suc number + h) ≡ heaps_of ps h = λ h. let e : suc number + h ≡ number + suc h = omega arith in ap heaps e ∙ own (suc h) in
      ap (λ x. let q : Owner = record { runner = x; heap = heaps r.has.number } in q ∷ owners_of heaps (map (landed_runner core) rs)) (sym first)
      ∙ ap (λ h. let q : Owner = record { runner = p.runner; heap = h } in q ∷ owners_of heaps (map (landed_runner core) rs)) (ap heaps (order.0 ∙ here) ∙ own 0)
      ∙ ap (λ l. p ∷ l) (owners_are (suc number) heaps ps rs order.1 others rest)
  owners_are number heaps [] (r ∷ rs) order same own = absurd (cc)
  owners_are number heaps (p ∷ ps) [] order same own = absurd (cc)

  pub many_runners : (number : ℕ) (tree : Tree) (spaces : ℕ → Space) (stages : List Stage) (rs : List (Runner Position)) → AllDue core tree spaces number stages rs → AreInOrder number rs
  many_runners number tree spaces [] [] due = tt
  many_runners number tree spaces (x ∷ stages) (r ∷ rs) due = (due.0, many_runners (suc number) tree spaces stages rs due.2)
  many_runners number tree spaces stages rs due = absurd (assumption due)

  -- numbers stay where runners land
  pub in_order_back : (number : ℕ) (rs : List (Runner Position)) → AreInOrder number (map (landed_runner core) rs) → AreInOrder number rs
  in_order_back number [] order = tt
  in_order_back number (r ∷ rs) order = (order.0, in_order_back (suc number) rs order.1)

  runners_length : (ps : List Owner) (rs : List (Runner Position)) → runners_of ps ≡ map (landed_runner core) rs → length rs ≡ length ps
  runners_length [] [] same = refl
  runners_length (p ∷ ps) (r ∷ rs) same = ap suc (runners_length ps rs (cc))
  runners_length [] (r ∷ rs) same = absurd (cc)
  runners_length (p ∷ ps) [] same = absurd (cc)

  pub landed_homes : (tree : Tree) (spaces : ℕ → Space) (number : ℕ) (ps : List Owner) → AllHome tree spaces number ps → AllHome tree spaces number (all_landed core ps)
  landed_homes tree spaces number [] home = tt
  landed_homes tree spaces number (p ∷ ps) home = (home.0, home.1, landed_homes tree spaces (suc number) ps home.2)

  pub all_land : (leads : JumpsLead core) (ps : List Owner) → AllLanded core (all_landed core ps)
  all_land leads [] = tt
  all_land leads (p ∷ ps) = (landing_twice core leads p.runner.left.at, all_land leads ps)

module _ (core : List CoreOp) (image : Image) (places : Places) (nestings : Nestings) (setting : Setting) (spaces : ℕ → Space) (s : State Position) (nodes : List ℕ) (t : MachineSetting) (printed : List ℕ)
    (stages : List Stage) (hs : List Hart) (sh : Shared) (leads : JumpsLead core) (f : IsFollowed core image places nestings setting spaces s nodes t printed stages hs sh) where
  abbrev rs : List (Runner Position)
  rs = map (landed_runner core) s.runners

  many : length nodes ≡ length f.ps
  many = (many_length nodes hs f.ps f.before.as_many).1

  long : length s.runners ≡ length f.ps
  long = runners_length core f.ps s.runners f.beside.runners

  -- the round of those whose stages commit is allowed
  allowed : is_allowed (next core) setting (counts_for stages) s ≡ true
  allowed =
      let as_many = f.before.many in
      let size : length nodes ≡ length s.runners = many ∙ sym long in
      let here = nodes_are core s.tree 0 nodes s.runners f.before.stand f.order size in
      let heaps : ℕ → Heaps = heaps_of core f.ps in
      let are = owners_are core 0 heaps f.ps s.runners f.order f.beside.runners (λ h. let e : 0 + h ≡ h = omega arith in ap heaps e) in
      sym (allowed_land core leads setting (counts_for stages) s)
      ∙ rounds_are_allowed core image places nestings setting setting.processors spaces t stages hs (λ g. sh.control) heaps (landed_state core s) f.before.spaced f.before.sound
      (length-map s.runners (landed_runner core) ∙ sym size ∙ as_many)
      (subst (AllDue core s.tree spaces 0 stages) f.beside.runners f.before.due)
      (subst
      (λ ns.
      IsBound (core_source core setting) image (plan_of s.tree spaces ns) (blocks_of core image places nestings setting (plan_of s.tree spaces ns) (plans.first_of spaces)) t stages hs
      (owners_of heaps rs) (λ g. sh.control)) (sym here)
      (subst
      (λ l.
      IsBound (core_source core setting) image (plan_of s.tree spaces nodes) (blocks_of core image places nestings setting (plan_of s.tree spaces nodes) (plans.first_of spaces)) t stages hs l
      (λ g. sh.control)) (sym are) f.bound))

-- a cycle that is cut is a stopped round
pub cut_follows : (core : List CoreOp) (image : Image) (places : Places) (nestings : Nestings) (setting : Setting) (spaces : ℕ → Space) (s : State Position) (nodes : List ℕ) (t : MachineSetting) (printed : List ℕ)
    (stages : List Stage) (hs : List Hart) (sh : Shared) (words : ℕ → Words) (ps : List Owner) (shared : Commons) → JumpsLead core → AreInOrder 0 s.runners → IsBeside core setting s ps shared
    → AllDoOne stages → is_allowed (next core) setting (counts_for stages) s ≡ true → planned image hs ≡ counts_for stages → IsCut (core_source core setting) image words printed 0 hs ps shared (turns t 0 hs sh)
    → FollowsFault core image places nestings setting spaces s nodes t printed stages hs sh
cut_follows core image places nestings setting spaces s nodes t printed stages hs sh words ps shared leads order beside ones may counts c =
    let zero_is : 0 + c.place ≡ c.place = omega arith in
    let fault = is_fault core setting s ps shared leads order beside stages c.place c.site c.store ones (subst (λ x. FaultsAfter (core_source core setting) c.place c.site x ps shared c.store) counts c.faults) in
    record {
      site = c.site;
      place = c.place;
      stops = c.stops ∙ ap (λ k. Some (Faulted c.site k)) zero_is;
      counts = c.counts ∙ ap (first_of (suc c.place)) counts ∙ first_cut (suc c.place) (counts_for stages);
      stopped = record {
        running = beside.going;
        whole = counts_for stages;
        allowed = may;
        fault = record { site = c.site; processor = c.place };
        faults = fault.whole;
        is_cut = refl;
      };
      shared = c.store;
      shows = c.shows;
      fault = fault;
    }

-- where nobody unites with others
abbrev Follows : (core : List CoreOp) → Image → Places → Nestings → Setting → (spaces : ℕ → Space) → State Position → (nodes : List ℕ) → MachineSetting → (printed : List ℕ) → List Stage → List Hart → Shared → Type 0
Follows core image places nestings setting spaces s nodes t printed stages hs sh =
    (planned image hs ≡ counts_for stages)
    × (FollowsRound core image places nestings setting spaces s nodes t printed stages hs sh
    ⊎ (FollowsFault core image places nestings setting spaces s nodes t printed stages hs sh ⊎ FollowsUnion core image places nestings setting spaces s nodes t printed stages hs sh))

follows_apart : (core : List CoreOp) (image : Image) (places : Places) (nestings : Nestings) (cycles : Cycles) (firsts : List ℕ) (main : ℕ) (setting : Setting) (spaces : ℕ → Space) (s : State Position) (nodes : List ℕ)
    (t : MachineSetting) (printed : List ℕ) (stages : List Stage) (hs : List Hart) (sh : Shared) → GroupLaw core image places nestings cycles firsts main → JumpsLead core → length hs < 2 ^ 31
    → IsFollowed core image places nestings setting spaces s nodes t printed stages hs sh → NobodyUnites stages → Follows core image places nestings setting spaces s nodes t printed stages hs sh
follows_apart core image places nestings cycles firsts main setting spaces s nodes t printed stages hs sh the_law leads few f nobody =
    let source = core_source core setting in
    let done = turns t 0 hs sh in
    let ones = due_do_one core s.tree spaces 0 stages (runners_of f.ps) f.before.due in
    let may = allowed core image places nestings setting spaces s nodes t printed stages hs sh leads f in
    let cycle = cycles_bind_again core image places nestings cycles firsts main setting s.tree spaces nodes t printed stages hs f.ps (λ g. sh.control) sh f.shared the_law leads f.before few f.shows
    (λ g i o. refl) f.bound nobody in
    let next_state = result (next core) setting (counts_for stages) s in (
      cycle.0,
      ⊎_elim
          (λ r.
          let whole = r.whole in
          let new = tree_after s.tree whole.did in
          let after = is_after core setting s f.ps f.shared leads f.order f.beside stages whole.did whole.store ones
          (subst (λ c. AllPass source c f.ps f.shared whole.did whole.store) cycle.0 whole.parts) in
          let e : next_state.tree ≡ new = after.tree in
          let harts = (many_length nodes done.harts whole.did whole.as_many).1 in
          let as_many = f.before.many in
          let homes : IsKnownRound s.tree whole.did → PartsAreTold new spaces 0 whole.did (owners_after s.tree new whole.did) → AllHome new spaces 0 (owners_after s.tree new whole.did)
          = λ known told.
          homes_stay core setting s.tree spaces stages f.ps whole.did f.shared whole.store f.before.sound (omega (arith, harts, as_many)) f.homes ones
          (subst (λ c. AllPass source c f.ps f.shared whole.did whole.store) cycle.0 whole.parts) known told in
          inl
          (record {
            going = whole.going;
            counts = whole.counts ∙ cycle.0;
            possible =
                and_from (is_none s.fault && is_allowed (next core) setting (counts_for stages) s) (is_none next_state.fault)
                (and_from (is_none s.fault) (is_allowed (next core) setting (counts_for stages) s) (ap is_none f.beside.going) may) (ap is_none after.beside.going);
            nobody = nobody;
            did = whole.did;
            tree = e;
            afters = r.left.afters;
            makes = record {
              ps = f.ps;
              shared = f.shared;
              store = whole.store;
              order = f.order;
              beside = f.beside;
              singles = ones;
              passes = subst (λ c. AllPass source c f.ps f.shared whole.did whole.store) cycle.0 whole.parts;
              stay = r.left.stay;
            };
            again = λ nodes' known tree' there many' told on goes.
                let at_home = homes known (subst (λ x. PartsAreTold x spaces 0 whole.did (owners_after s.tree x whole.did)) e told) in
                let b = r.again nodes' known (subst (λ x. IsTree setting x spaces) e tree') (subst (λ x. ArePlaces x 0 nodes') e there) many'
                (homes_go_on core nestings setting new spaces r.left.afters whole.did (owners_after s.tree new whole.did) at_home
                (subst (λ x. AllNext core nestings setting x 0 r.left.afters whole.did (owners_after s.tree x whole.did)) e on))
                (subst (λ x. GroupsGoOn core nestings x nodes' r.left.afters (owners_after s.tree x whole.did)) e goes) in
                let ps' = all_landed core (owners_after s.tree new whole.did) in
                let before : IsBefore core image setting next_state.tree spaces nodes' (later t) b.stages' done.harts ps'
                = record {
                  running = runs_later image setting 1 t f.before.running;
                  sound = tree'.sound;
                  spaced = tree'.spaced;
                  stand = there;
                  many = many' ∙ f.before.many;
                  as_many = b.on.goes.bound.as_many;
                  landed = all_land core leads (owners_after s.tree new whole.did);
                  due = subst (λ x. AllDue core x spaces 0 b.stages' (runners_of ps')) (sym e) b.due;
                } in (
                  b.stages',
                  b.on.goes.near,
                  b.soon,
                  record {
                    ps = ps';
                    shared = whole.store;
                    before = before;
                    order = in_order_back core 0 next_state.runners (subst (AreInOrder 0) after.beside.runners (many_runners core 0 new spaces b.stages' (runners_of ps') b.due));
                    beside = after.beside;
                    homes = subst (λ x. AllHome x spaces 0 ps') (sym e) (landed_homes core new spaces 0 (owners_after s.tree new whole.did) at_home);
                    shows = record { words = whole.shows.words; output = append-nil (printed ++ done.shared.output) ∙ whole.shows.output; common = whole.shows.common };
                    bound =
                        subst
                        (λ x.
                        IsBound source image (plan_of x spaces nodes') (blocks_of core image places nestings setting (plan_of x spaces nodes') (plans.first_of spaces)) (later t) b.stages' done.harts ps'
                        (λ g. done.shared.control)) (sym e) b.on.goes.bound;
                  },
                  subst
                      (λ x.
                      PlanGoesOn core image places nestings setting spaces (plan_of s.tree spaces nodes) (plan_of x spaces nodes') t stages b.stages' done.harts r.left.afters f.ps
                      (all_landed core (owners_after s.tree x whole.did)) (λ g. sh.control) done.shared.control) (sym e) b.on,
                );
          }))
          (λ c. inr (inl (cut_follows core image places nestings setting spaces s nodes t printed stages hs sh (plan_of s.tree spaces nodes).words f.ps f.shared leads f.order f.beside ones may cycle.0 c)))
          cycle.1,
    )

-- ---- who has done nothing

pub idle_keep : (ps : List Owner) → AllKeep (map idle ps)
idle_keep [] = tt
idle_keep (p ∷ ps) = (tt, idle_keep ps)

pub idle_stay : (acting : List (Acting Position)) (old new : Tree) (ps : List Owner) → map (owner_after acting old new) (map idle ps) ≡ ps
idle_stay acting old new [] = refl
idle_stay acting old new (p ∷ ps) = ap (λ l. p ∷ l) (idle_stay acting old new ps)

pub still_landed : (core : List CoreOp) (ps : List Owner) → AllLanded core ps → all_landed core ps ≡ ps
still_landed core [] land = refl
still_landed core (p ∷ ps) land = ap (λ j. gone_to j p ∷ all_landed core ps) land.0 ∙ ap (λ l. p ∷ l) (still_landed core ps land.1)

lands_at : (core : List CoreOp) (i : ℕ) (ps : List Owner) (rs : List (Runner Position)) → runners_of ps ≡ map (landed_runner core) rs → AllLandAt core i rs → AllAt i ps
lands_at core i [] [] same at = tt
lands_at core i (p ∷ ps) (r ∷ rs) same at =
    let first : p.runner ≡ landed_runner core r = cc in
    let others : runners_of ps ≡ map (landed_runner core) rs = cc in
    (ap (λ x. x.left.at) first ∙ at.0, lands_at core i ps rs others at.1)
lands_at core i [] (r ∷ rs) same at = absurd (cc)
lands_at core i (p ∷ ps) [] same at = absurd (cc)

acts_near : (d : ℕ) → d < most_united → (ms : List Member) → AreNearBegin (all_act d ms)
acts_near d few [] = tt
acts_near d few (m ∷ ms) = ((few, refl), acts_near d few ms)

-- where all have met
follows_union : (core : List CoreOp) (image : Image) (places : Places) (nestings : Nestings) (cycles : Cycles) (firsts : List ℕ) (main : ℕ) (setting : Setting) (spaces : ℕ → Space) (s : State Position) (nodes : List ℕ)
    (t : MachineSetting) (printed : List ℕ) (stages : List Stage) (hs : List Hart) (sh : Shared) → GroupLaw core image places nestings cycles firsts main → JumpsLead core → length hs < 2 ^ 31
    → IsFollowed core image places nestings setting spaces s nodes t printed stages hs sh → SomebodyUnites stages → Follows core image places nestings setting spaces s nodes t printed stages hs sh
follows_union core image places nestings cycles firsts main setting spaces s nodes t printed stages hs sh the_law leads few f some =
    let source = core_source core setting in
    let done = turns t 0 hs sh in
    let ones = due_do_one core s.tree spaces 0 stages (runners_of f.ps) f.before.due in
    let may = allowed core image places nestings setting spaces s nodes t printed stages hs sh leads f in
    let cycle = cycles_unite core image places nestings cycles firsts main setting s.tree spaces nodes t printed stages hs f.ps (λ g. sh.control) sh f.shared the_law f.before few f.shows
    (λ g i o. refl) f.bound some in
    let next_state = result (next core) setting (counts_for stages) s in
    let x = cycle.1 in
    let whole = x.whole in
    let after = is_after core setting s f.ps f.shared leads f.order f.beside stages whole.did whole.store ones
    (subst (λ c. AllPass source c f.ps f.shared whole.did whole.store) cycle.0 whole.parts) in
    let new = tree_after s.tree whole.did in
    let tree_stays : new ≡ s.tree = all_keep (actings whole.did) s.tree whole.did s.tree (subst AllKeep (sym x.idle) (idle_keep f.ps)) in
    let e : s.tree ≡ next_state.tree = sym (after.tree ∙ tree_stays) in
    let owners : all_landed core (owners_after s.tree new whole.did) ≡ f.ps
    = ap (λ l. all_landed core (map (owner_after (actings whole.did) s.tree new) l)) x.idle ∙ ap (all_landed core) (idle_stay (actings whole.did) s.tree new f.ps) ∙ still_landed core f.ps f.before.landed in
    let beside : IsBeside core setting next_state f.ps whole.store = subst (λ l. IsBeside core setting next_state l whole.store) owners after.beside in (
      cycle.0,
      inr (inr (record {
        going = whole.going;
        counts = whole.counts ∙ cycle.0;
        possible =
            and_from (is_none s.fault && is_allowed (next core) setting (counts_for stages) s) (is_none next_state.fault)
            (and_from (is_none s.fault) (is_allowed (next core) setting (counts_for stages) s) (ap is_none f.beside.going) may) (ap is_none after.beside.going);
        all = x.all;
        again = λ i at.
            let y = x.together i (lands_at core i f.ps s.runners f.beside.runners at) in (
              all_act y.distance (numbered 0 done.harts),
              y.near,
              record {
                ps = f.ps;
                shared = whole.store;
                before = subst (λ k. IsBeforeStart image setting k spaces nodes (later t) done.harts f.ps) e x.before;
                landed = f.before.landed;
                i = i;
                op = y.op;
                stands = y.stands;
                about = y.about;
                near = acts_near y.distance y.few (numbered 0 done.harts);
                roots = x.roots;
                order = in_order_back core 0 next_state.runners (subst (AreInOrder 0) beside.runners (many_runners core 0 s.tree spaces stages (runners_of f.ps) f.before.due));
                beside = beside;
                homes = subst (λ k. AllHome k spaces 0 f.ps) e f.homes;
                shows = record { words = whole.shows.words; output = append-nil (printed ++ done.shared.output) ∙ whole.shows.output; common = whole.shows.common };
                bound =
                    subst
                    (λ k.
                    IsBound source image (united (plan_of k spaces nodes)) (blocks_of core image places nestings setting (united (plan_of k spaces nodes)) (plans.first_of spaces)) (later t)
                    (all_act y.distance (numbered 0 done.harts)) done.harts f.ps (λ g. done.shared.control)) e y.bound;
              },
            );
      })),
    )

pub cycles_follow_rounds : CyclesFollowRounds
cycles_follow_rounds core image places nestings cycles firsts main setting spaces s nodes t printed stages hs sh the_law leads few f =
    ⊎_elim (λ nobody. follows_apart core image places nestings cycles firsts main setting spaces s nodes t printed stages hs sh the_law leads few f nobody)
    (λ some. follows_union core image places nestings cycles firsts main setting spaces s nodes t printed stages hs sh the_law leads few f some) (nobody_or_somebody stages)
