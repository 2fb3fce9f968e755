-- Those who have met at the beginning of `start` come to the round in which the group begins.
use Rattle.std.proofs.Common.{◌≡◌, ℕ, zero, suc, ◌+◌, ◌≤◌, ◌<◌, List, [], ◌∷◌, ◌++◌, length, Option, Some, None, true, ◌&&◌, sym, ap, subst, ◌∙◌, refl, arith, inl, inr, ⊎_elim}
use Rattle.std.specs.Prelude.{map, is_none}
use Rattle.std.proofs.lemmas.Bool.{and_from}
use Rattle.std.proofs.lemmas.List.{append-nil}
use Rattle.fk_space.specs.Space.{Space}
use Rattle.fk_meaning_operation.specs.declared.operation.Operation.TheVariants.{Begin}
use Rattle.fk_tree.specs.Sound.{IsSound}
use Rattle.fk_meaning.specs.Processor.{Setting, group_space}
use Rattle.fk_meaning.specs.Round.{Runner, State, taking, result, is_allowed, all_may_act, all_fit, joint_at, begin_all}
use Rattle.fk_core.specs.declared.op.CoreOp.{CoreOp}
use Rattle.fk_core.specs.Next.{Position, next}
use Rattle.fk_image.specs.declared.Image.{Image}
use Rattle.fk_machine.specs.Hart.{Hart, Shared, Setting as MachineSetting}
use Rattle.fk_machine.specs.Cycle.{turns, unprinted}
use Rattle.fk_sim_nodes.specs.Node.{Member, numbered, of_node, AreAsMany}
use Rattle.fk_sim_nodes.specs.Source.{AllPass, Passes, Shows}
use Rattle.fk_sim_nodes.specs.Alone.{later}
use Rattle.fk_sim_match.specs.Stage.{Stage, Ended, Acts, Meets, IsOver, Pairwise, Remains, count_of_stage, counts_for, AllDoOne, kept}
use Rattle.fk_sim_match.specs.Plan.{Plan, Blocks, AllAct, InLockstep, IsBound}
use Rattle.fk_sim_match.specs.Cycle.{AllHaveCommitted}
use Rattle.fk_sim_match.proofs.Left.{first_alike, second_alike, both_alike}
use Rattle.fk_sim_block.specs.Owner.{Commons, Owner, Doing, phases, part, core_source}
use Rattle.fk_sim_block.specs.Stands.{Places}
use Rattle.fk_sim_block.specs.Next.{OpAt, step_at}
use Rattle.fk_sim_block.specs.Node.{Nestings}
use Rattle.fk_sim_block.specs.Lockstep.{is_due}
use Rattle.fk_sim_match.specs.Nodes as plans
use Rattle.fk_sim_match.specs.Nodes.{plan_of, united}
use Rattle.fk_sim_match.specs.Behind.{blocks_of}
use Rattle.fk_sim_match.specs.Rounds.{AllDue}
use Rattle.fk_sim_rounds.specs.Next.{JumpsLead, all_landed, HasRange, AllAbout}
use Rattle.fk_sim_rounds.specs.After.{actings, runners_of, tree_after, owner_after, owners_after, StepsAt, AllKeep, ArePlaces, GroupsGoOn}
use Rattle.fk_sim_rounds.specs.Rounds.{IsTree, IsBefore}
use Rattle.fk_sim_rounds.specs.Start.{IsBeforeStart}
use Rattle.fk_sim_rounds.specs.Unite.{AreInRoot}
use Rattle.fk_sim_rounds.proofs.Cycles.{runs_later}
use Rattle.fk_sim_rounds.proofs.Groups.{many_length}
use Rattle.fk_sim_rounds.proofs.Trees.{all_keep}
use Rattle.fk_sim_rounds.proofs.Starts.{of_all, many_numbered, rounds_start}
use Rattle.fk_sim_rounds.proofs.Nearer.{cycles_come_to_start}
use Rattle.fk_sim_rounds.specs.Beside.{landed_runner, AreInOrder, IsBeside}
use Rattle.fk_sim_rounds.specs.Comes.{AllHave}
use Rattle.fk_sim_rounds.specs.Homes.{AllHome, AllNext}
use Rattle.fk_sim_rounds.specs.Union.{IsNearBegin, AreNearBegin, IsUnited}
use Rattle.fk_sim_rounds.specs.Starts.{CyclesFollowStarts}
use Rattle.fk_sim_rounds.proofs.Landed.{allowed_land}
use Rattle.fk_sim_rounds.proofs.Results.{is_after}
use Rattle.fk_sim_rounds.proofs.Homes.{homes_go_on}
use Rattle.fk_sim_rounds.proofs.HomesBegin.{steps_begin, homes_begin}
use Rattle.fk_sim_rounds.proofs.Allowed.{is_next, allowed}
use Rattle.fk_sim_rounds.proofs.Follow.{cut_follows, many_runners, in_order_back, landed_homes, all_land, idle_keep, idle_stay, still_landed}

-- who takes the beginning of the group takes it for the tree
takes_begin : (core : List CoreOp) (setting : Setting) (i : ℕ) (op : CoreOp) (s : Commons) (p : Owner)
    → phases core setting s p (taking p.runner (Some (step_at core i op Begin p.runner.left.callers))) ≡ Passes s (is_due core i op Begin p)
takes_begin core setting i op s p = refl

module _ (core : List CoreOp) (image : Image) (setting : Setting) (plan : Plan) (blocks : Blocks Owner Doing) (i : ℕ) (op : CoreOp) (stands : OpAt core i op Begin) where
  -- all have committed
  now : (d : ℕ) (stages : List Stage) (ms : List Member) (ps : List Owner) (afters : List (Option Stage)) → (length ps ≡ 0 → ⊥) → AllAct (core_source core setting) image plan blocks d 0 stages ms ps
      → Pairwise Remains stages afters → AllHaveCommitted afters → d ≡ 0
  now d [] [] [] afters some all remains gone = absurd (some refl)
  now d (s ∷ stages) (m ∷ ms) (p ∷ ps) (None ∷ afters) some all remains gone = let over : Some d ≡ Some 0 = subst IsOver all.0 remains.0 in cc
  now d (s ∷ stages) (m ∷ ms) (p ∷ ps) (Some a ∷ afters) some all remains gone = absurd (let e = gone.0 in cc)
  now d stages ms ps afters some all remains gone = absurd (assumption (all, remains))

  -- each commits one operation
  singles : (d inner : ℕ) (stages : List Stage) (ms : List Member) (ps : List Owner) → (length ps ≡ 0 → ⊥) → AllAct (core_source core setting) image plan blocks d inner stages ms ps
      → AreNearBegin stages → inner ≡ 0
  singles d inner [] [] [] some all near = absurd (some refl)
  singles d inner (s ∷ stages) (m ∷ ms) (p ∷ ps) some all near = (subst IsNearBegin all.0 near.0).1
  singles d inner stages ms ps some all near = absurd (assumption all)

  -- so each has begun it
  begun : (stages : List Stage) (ms : List Member) (ps : List Owner) (s s' : Commons) (ds : List Doing) → AllAct (core_source core setting) image plan blocks 0 0 stages ms ps → AllAbout i op Begin ps
      → AllPass (core_source core setting) (counts_for stages) ps s ds s' → ds ≡ map (is_due core i op Begin) ps
  begun [] [] [] s s' [] all about pass = refl
  begun (x ∷ stages) (m ∷ ms) (p ∷ ps) s s' (d ∷ ds) all about pass =
      let next_is = is_next core image setting plan blocks i op stands p about.0 in
      let one : part core setting 1 s p ≡ Passes pass.0 d = subst (λ y. part core setting (count_of_stage y) s p ≡ Passes pass.0 d) all.0 pass.1 in
      let took : part core setting 1 s p ≡ Passes s (is_due core i op Begin p)
      = ap (λ n. phases core setting s p (taking p.runner n)) next_is ∙ takes_begin core setting i op s p in
      let does : d ≡ is_due core i op Begin p = let e = sym one ∙ took in cc in
      ap (λ y. y ∷ ds) does ∙ ap (λ l. is_due core i op Begin p ∷ l) (begun stages ms ps pass.0 s' ds all.1 about.2 pass.2)
  begun stages ms ps s s' ds all about pass = absurd (assumption (all, pass))

-- all commit one operation
pub near_do_one : (stages : List Stage) → AreNearBegin stages → AllDoOne stages
near_do_one [] near = tt
near_do_one (Acts d inner ∷ stages) near = (ap suc near.0.1, near_do_one stages near.1)
near_do_one (Ended ∷ stages) near = absurd near.0
near_do_one (Meets e w f ∷ stages) near = absurd near.0

-- who does not commit stays near its commit
stays_near : (s s' : Stage) → Remains s (Some s') → IsNearBegin s → IsNearBegin s'
stays_near (Acts zero inner) s' remains near = absurd (let over = remains.3 in cc)
stays_near (Acts (suc d) inner) (Acts e inner') remains near =
    let same : e ≡ d = let nearer = remains.1 in cc in
    let few = near.0 in (omega (arith, same, few), remains.2 ∙ near.1)
stays_near (Acts (suc d) inner) Ended remains near = absurd remains.2
stays_near (Acts (suc d) inner) (Meets e w f) remains near = absurd remains.2
stays_near Ended s' remains near = absurd near
stays_near (Meets e w f) s' remains near = absurd near

all_stay_near : (stages stages' : List Stage) → Pairwise Remains stages (kept stages') → AreNearBegin stages → AreNearBegin stages'
all_stay_near [] [] remain near = tt
all_stay_near (s ∷ stages) (s' ∷ stages') remain near = (stays_near s s' remain.0 near.0, all_stay_near stages stages' remain.1 near.1)
all_stay_near [] (s' ∷ stages') remain near = absurd remain
all_stay_near (s ∷ stages) [] remain near = absurd remain

-- the space of the root
from_roots : (nestings : Nestings) (setting : Setting) (whole : Space) (ps : List Owner) → HasRange whole (group_space setting) → AreInRoot nestings setting ps → AllHave whole ps
from_roots nestings setting whole [] e roots = tt
from_roots nestings setting whole (p ∷ ps) e roots =
    ((ap (λ x. x.low) roots.0.space ∙ e.0, ap (λ x. x.high) roots.0.space ∙ e.1), from_roots nestings setting whole ps e roots.1)

module _ (core : List CoreOp) (image : Image) (places : Places) (nestings : Nestings) (setting : Setting) (spaces : ℕ → Space) (s : State Position) (nodes : List ℕ) (t : MachineSetting) (printed : List ℕ)
    (stages : List Stage) (hs : List Hart) (sh : Shared) (leads : JumpsLead core) (f : IsUnited core image places nestings setting spaces s nodes t printed stages hs sh) where
  abbrev plan : Plan
  plan = united (plan_of s.tree spaces nodes)

  abbrev blocks : Blocks Owner Doing
  blocks = blocks_of core image places nestings setting (united (plan_of s.tree spaces nodes)) (plans.first_of spaces)

  root : (h : ℕ) → 0 ≤ h → h < 0 + length nodes → s.tree.places h ≡ 0
  root h le lt = let size = f.before.many in f.before.in_root h (omega (arith, lt, size))

  pub group : InLockstep (core_source core setting) image plan blocks t 0 (of_node 0 nodes stages) (of_node 0 nodes (numbered 0 hs)) (of_node 0 nodes f.ps) sh.control
  group = f.bound.binds 0

  abbrev pub distance : ℕ
  distance = group.distance

  many : length f.ps ≡ setting.processors
  many = let long = (many_length nodes hs f.ps f.before.as_many).1 in let size = f.before.many in omega (arith, long, size)

  some : length f.ps ≡ 0 → ⊥
  some none = let size = many in let positive = f.before.sound.some in omega (arith, none, size, positive)

  all_alike : AllAct (core_source core setting) image plan blocks distance group.inner stages (numbered 0 hs) f.ps
  all_alike =
      let source = core_source core setting in
      subst (λ l. AllAct source image plan blocks distance group.inner l (numbered 0 hs) f.ps) (of_all s.tree 0 nodes hs stages root f.before.stand f.bound.stages_as_many)
      (subst (λ l. AllAct source image plan blocks distance group.inner (of_node 0 nodes stages) l f.ps)
      (of_all s.tree 0 nodes hs (numbered 0 hs) root f.before.stand (many_numbered 0 nodes hs f.ps f.before.as_many))
      (subst (λ l. AllAct source image plan blocks distance group.inner (of_node 0 nodes stages) (of_node 0 nodes (numbered 0 hs)) l) (of_all s.tree 0 nodes hs f.ps root f.before.stand f.before.as_many)
      group.alike))

  pub all_act : AllAct (core_source core setting) image plan blocks distance 0 stages (numbered 0 hs) f.ps
  all_act =
      subst (λ k. AllAct (core_source core setting) image plan blocks distance k stages (numbered 0 hs) f.ps)
      (singles core image setting plan blocks f.i f.op f.stands distance group.inner stages (numbered 0 hs) f.ps some all_alike f.near) all_alike

  pub may : is_allowed (next core) setting (counts_for stages) s ≡ true
  may =
      sym (allowed_land core leads setting (counts_for stages) s)
      ∙ subst
      (λ rs.
      (all_may_act (next core) setting (counts_for stages) rs && all_fit (counts_for stages) (joint_at (begin_all (next core) setting (counts_for stages) rs)) s.tree 0 (counts_for stages)) ≡ true)
      f.beside.runners
      (allowed core image setting plan blocks f.i f.op f.stands s.tree f.before.alone f.before.kind f.before.sound f.before.in_root stages (numbered 0 hs) f.ps many f.about distance all_act)

  -- processors are in order beside the next state
  order_next : (u : State Position) (rs : List (Runner Position)) → AreInOrder 0 rs → rs ≡ map (landed_runner core) u.runners → AreInOrder 0 u.runners
  order_next u rs order same = in_order_back core 0 u.runners (subst (AreInOrder 0) same order)

  order_here : AreInOrder 0 (runners_of f.ps)
  order_here = subst (AreInOrder 0) (sym f.beside.runners) (landed_order 0 s.runners f.order)
    where
      landed_order : (number : ℕ) (rs : List (Runner Position)) → AreInOrder number rs → AreInOrder number (map (landed_runner core) rs)
      landed_order number [] order = tt
      landed_order number (r ∷ rs) order = (order.0, landed_order (suc number) rs order.1)

pub cycles_follow_starts : CyclesFollowStarts
cycles_follow_starts core image places nestings cycles firsts main setting spaces s nodes t printed stages hs sh the_law leads few f =
    let source = core_source core setting in
    let done = turns t 0 hs sh in
    let ones = near_do_one stages f.near in
    let is_may = may core image places nestings setting spaces s nodes t printed stages hs sh leads f in
    let cycle = cycles_come_to_start core image places nestings setting s.tree spaces nodes t printed stages hs f.ps (λ g. sh.control) sh f.shared f.before few f.shows (λ g i o. refl) f.bound in
    let next_state = result (next core) setting (counts_for stages) s in (
      cycle.0,
      ⊎_elim
          (λ r.
          let whole = r.whole in
          let new = tree_after s.tree whole.did in
          let parts = subst (λ c. AllPass source c f.ps f.shared whole.did whole.store) cycle.0 whole.parts in
          let after = is_after core setting s f.ps f.shared leads f.order f.beside stages whole.did whole.store ones parts in
          let e : next_state.tree ≡ new = after.tree in
          let shows' : Shows source (printed ++ done.shared.output) (unprinted done.shared) whole.store = record { words = whole.shows.words; output = append-nil (printed ++ done.shared.output) ∙ whole.shows.output; common = whole.shows.common } in
          let as_many : AreAsMany nodes done.harts f.ps
          = both_alike nodes done.harts f.ps (first_alike nodes done.harts whole.did whole.as_many) (second_alike nodes hs f.ps f.before.as_many) in
          inl
          (record {
            going = whole.going;
            counts = whole.counts ∙ cycle.0;
            possible =
                and_from (is_none s.fault && is_allowed (next core) setting (counts_for stages) s) (is_none next_state.fault)
                (and_from (is_none s.fault) (is_allowed (next core) setting (counts_for stages) s) (ap is_none f.beside.going) is_may) (ap is_none after.beside.going);
            did = whole.did;
            tree = e;
            afters = r.left.afters;
            makes = record { ps = f.ps; shared = f.shared; store = whole.store; order = f.order; beside = f.beside; singles = ones; passes = parts; stay = r.left.stay };
            goes =
                ⊎_elim
                (λ x.
                let stays : new ≡ s.tree = all_keep (actings whole.did) s.tree whole.did s.tree (subst AllKeep (sym x.idle) (idle_keep f.ps)) in
                let back : s.tree ≡ next_state.tree = sym (e ∙ stays) in
                let owners : all_landed core (owners_after s.tree new whole.did) ≡ f.ps
                = ap (λ l. all_landed core (map (owner_after (actings whole.did) s.tree new) l)) x.idle ∙ ap (all_landed core) (idle_stay (actings whole.did) s.tree new f.ps) ∙ still_landed core f.ps f.landed in
                let beside : IsBeside core setting next_state f.ps whole.store = subst (λ l. IsBeside core setting next_state l whole.store) owners after.beside in
                let before : IsBeforeStart image setting s.tree spaces nodes (later t) done.harts f.ps
                = record {
                  running = runs_later image setting 1 t f.before.running;
                  sound = f.before.sound;
                  spaced = f.before.spaced;
                  stand = f.before.stand;
                  many = f.before.many;
                  as_many = as_many;
                  alone = f.before.alone;
                  kind = f.before.kind;
                  in_root = f.before.in_root;
                } in
                inl (
                  x.stages',
                  x.near,
                  record {
                    ps = f.ps;
                    shared = whole.store;
                    before = subst (λ k. IsBeforeStart image setting k spaces nodes (later t) done.harts f.ps) back before;
                    landed = f.landed;
                    i = f.i;
                    op = f.op;
                    stands = f.stands;
                    about = f.about;
                    near = all_stay_near stages x.stages' (subst (Pairwise Remains stages) x.are r.left.stay) f.near;
                    roots = f.roots;
                    order = order_next core image places nestings setting spaces s nodes t printed stages hs sh leads f next_state (runners_of f.ps)
                        (order_here core image places nestings setting spaces s nodes t printed stages hs sh leads f) beside.runners;
                    beside = beside;
                    homes = subst (λ k. AllHome k spaces 0 f.ps) back f.homes;
                    shows = shows';
                    bound =
                        subst
                        (λ k.
                        IsBound source image (united (plan_of k spaces nodes)) (blocks_of core image places nestings setting (united (plan_of k spaces nodes)) (plans.first_of spaces)) (later t) x.stages'
                        done.harts f.ps (λ g. done.shared.control)) back x.bound;
                  },
                ))
                (λ gone.
                inr (
                  gone,
                  λ nodes' tree' there many' rest range on goes.
                      let d = distance core image places nestings setting spaces s nodes t printed stages hs sh leads f in
                      let all = all_act core image places nestings setting spaces s nodes t printed stages hs sh leads f in
                      let plan' = united (plan_of s.tree spaces nodes) in
                      let blocks' = blocks_of core image places nestings setting plan' (plans.first_of spaces) in
                      let zero_is : d ≡ 0
                      = now core image setting plan' blocks' f.i f.op f.stands d stages (numbered 0 hs) f.ps r.left.afters (some core image places nestings setting spaces s nodes t printed stages hs sh leads f) all
                      r.left.stay gone in
                      let did_is : whole.did ≡ map (is_due core f.i f.op Begin) f.ps
                      = begun core image setting plan' blocks' f.i f.op f.stands stages (numbered 0 hs) f.ps f.shared whole.store whole.did
                      (subst (λ k. AllAct source image plan' blocks' k 0 stages (numbered 0 hs) f.ps) zero_is all) f.about parts in
                      let size = many core image places nestings setting spaces s nodes t printed stages hs sh leads f in
                      let steps : StepsAt s.tree 0 0 Begin whole.did
                      = subst (λ l. StepsAt s.tree 0 0 Begin l) (sym did_is) (steps_begin core setting s.tree spaces f.i f.op f.before.sound f.before.in_root 0 f.ps (omega (arith, size)) f.homes) in
                      let here : IsBeforeStart image setting s.tree spaces nodes t done.harts f.ps
                      = record {
                        running = f.before.running;
                        sound = f.before.sound;
                        spaced = f.before.spaced;
                        stand = f.before.stand;
                        many = f.before.many;
                        as_many = as_many;
                        alone = f.before.alone;
                        kind = f.before.kind;
                        in_root = f.before.in_root;
                      } in
                      let homes' : AllHome new spaces 0 (owners_after s.tree new whole.did)
                      = homes_begin core setting s.tree spaces f.before.alone f.i f.op f.ps whole.did f.before.sound f.before.kind f.before.in_root size f.homes
                      (from_roots nestings setting (spaces s.tree.given) f.ps range f.roots) did_is (subst (λ x. IsSound setting.processors x) e tree'.sound) in
                      let b = rounds_start core image places nestings cycles firsts main setting s.tree spaces nodes nodes' t stages hs done.harts f.ps whole.did (λ g. sh.control) whole.own done.shared.control the_law
                      leads here few f.bound r.left whole.has steps rest (subst (λ x. IsTree setting x spaces) e tree') (subst (λ x. ArePlaces x 0 nodes') e there) many'
                      (homes_go_on core nestings setting new spaces r.left.afters whole.did (owners_after s.tree new whole.did) homes'
                      (subst (λ x. AllNext core nestings setting x 0 r.left.afters whole.did (owners_after s.tree x whole.did)) e on))
                      (subst (λ x. GroupsGoOn core nestings x nodes' r.left.afters (owners_after s.tree x whole.did)) e goes) in
                      let ps' = all_landed core (owners_after s.tree new whole.did) in
                      let before : IsBefore core image setting next_state.tree spaces nodes' (later t) b.stages' done.harts ps'
                      = record {
                        running = runs_later image setting 1 t f.before.running;
                        sound = tree'.sound;
                        spaced = tree'.spaced;
                        stand = there;
                        many = many' ∙ f.before.many;
                        as_many = b.on.goes.bound.as_many;
                        landed = all_land core leads (owners_after s.tree new whole.did);
                        due = subst (λ x. AllDue core x spaces 0 b.stages' (runners_of ps')) (sym e) b.due;
                      } in (
                        b.stages',
                        b.on.goes.near,
                        b.soon,
                        record {
                          ps = ps';
                          shared = whole.store;
                          before = before;
                          order = in_order_back core 0 next_state.runners (subst (AreInOrder 0) after.beside.runners (many_runners core 0 new spaces b.stages' (runners_of ps') b.due));
                          beside = after.beside;
                          homes = subst (λ x. AllHome x spaces 0 ps') (sym e) (landed_homes core new spaces 0 (owners_after s.tree new whole.did) homes');
                          shows = shows';
                          bound =
                              subst
                              (λ x.
                              IsBound source image (plan_of x spaces nodes') (blocks_of core image places nestings setting (plan_of x spaces nodes') (plans.first_of spaces)) (later t) b.stages' done.harts ps'
                              (λ g. done.shared.control)) (sym e) b.on.goes.bound;
                        },
                      ),
                ))
                r.goes;
          }))
          (λ c. inr (cut_follows core image places nestings setting spaces s nodes t printed stages hs sh (plan_of s.tree spaces nodes).words f.ps f.shared leads f.order f.beside ones is_may cycle.0 c))
          cycle.1,
    )
