-- Those who have met at the beginning of `start` come nearer to their commit.
use Rattle.std.proofs.Common.{◌≡◌, ℕ, suc, ◌+◌, ◌^◌, ◌≤◌, ◌<◌, List, [], ◌∷◌, length, Option, Some, true, sym, ap, subst, ◌∙◌, refl, arith, ◌⊎◌, inl, inr, ⊎_elim, eq-eqb}
use Rattle.std.specs.Prelude.{◌||◌, map}
use Rattle.std.proofs.lemmas.Bool.{cases_eq, ne_eqb, false≢true}
use Rattle.fk_num.specs.Word.{Memory}
use Rattle.fk_space.specs.Space.{Space}
use Rattle.fk_tree.specs.Tree as trees
use Rattle.fk_tree.specs.Tree.{Tree}
use Rattle.fk_meaning.specs.Processor.{Setting}
use Rattle.fk_core.specs.declared.op.CoreOp.{CoreOp}
use Rattle.fk_image.specs.declared.Image.{Image}
use Rattle.fk_machine.specs.Hart.{Hart, Setting as MachineSetting}
use Rattle.fk_machine.specs.Cycle.{turns}
use Rattle.fk_sim_nodes.specs.Node.{Member, numbered, of_node, AreAsMany, Has}
use Rattle.fk_sim_nodes.specs.Alone.{later}
use Rattle.fk_sim_match.specs.Stage.{Stage, Acts, AllNear, kept}
use Rattle.fk_sim_match.specs.Plan.{Plan, Blocks, AllAct, InLockstep, IsBound}
use Rattle.fk_sim_match.specs.Cycle.{AllHaveCommitted, AllKeep, IsLeft}
use Rattle.fk_sim_match.specs.Change.{Changes, AllChange, TreeChanges}
use Rattle.fk_sim_match.proofs.Changes.{plan_goes_on}
use Rattle.fk_sim_match.proofs.Cycles.{cycle_is_planned}
use Rattle.fk_sim_match.proofs.Left.{first_alike, second_alike, both_alike, what_is_left}
use Rattle.fk_sim_block.specs.Owner.{Owner, Doing, idle, core_source}
use Rattle.fk_sim_block.specs.Stands.{Places}
use Rattle.fk_sim_block.specs.Node.{Nestings}
use Rattle.fk_sim_match.specs.Nodes.{first_of, is_lockstep, plan_of, united}
use Rattle.fk_sim_match.specs.Behind.{blocks_of, joining_blocks_of}
use Rattle.fk_sim_match.specs.Uniting.{unites_now, NobodyUnites}
use Rattle.fk_sim_match.proofs.Joining.{joins_bound, cycles_leave_apart}
use Rattle.fk_sim_match.proofs.Nodes.{own_apart}
use Rattle.fk_sim_match.proofs.Rounds.{lockstep_kind}
use Rattle.fk_sim_match.proofs.Meeters.{is_idle, meeters_turn}
use Rattle.fk_sim_rounds.specs.After.{ArePlaces}
use Rattle.fk_sim_rounds.specs.Start.{IsBeforeStart, CyclesComeToStart}
use Rattle.fk_sim_rounds.proofs.Groups.{same_all, many_length}
use Rattle.fk_sim_rounds.proofs.Starts.{of_all, no_groups}

-- all keep one stage
abbrev all_at : Stage → List (Option Stage) → List Stage
all_at s afters = map (λ a. s) afters

keep_many : {A : Type 0} (s : Stage) (ns : List ℕ) (hs : List A) (afters : List (Option Stage)) → AreAsMany ns hs afters → AreAsMany ns hs (all_at s afters)
keep_many s [] [] [] many = tt
keep_many s (n ∷ ns) (h ∷ hs) (a ∷ afters) many = keep_many s ns hs afters many
keep_many s ns hs afters many = absurd (assumption many)

kept_at : (s : Stage) (afters : List (Option Stage)) → AllKeep s afters → afters ≡ kept (all_at s afters)
kept_at s [] keep = refl
kept_at s (a ∷ afters) keep = ap (λ b. b ∷ afters) keep.0 ∙ ap (λ l. Some s ∷ l) (kept_at s afters keep.1)

keep_none : (s : Stage) (afters : List (Option Stage)) → AllKeep s afters → AllHaveCommitted afters → length afters ≡ 0
keep_none s [] keep gone = refl
keep_none s (a ∷ afters) keep gone = absurd (let e = sym keep.0 ∙ gone.0 in cc)

module _ (core : List CoreOp) (image : Image) (places : Places) (nestings : Nestings) (setting : Setting) (old : Tree) (spaces : ℕ → Space) (nodes : List ℕ)
    (t : MachineSetting) (stages : List Stage) (hs : List Hart) (ps : List Owner) (before : IsBeforeStart image setting old spaces nodes t hs ps) where
  abbrev plan : Plan
  plan = united (plan_of old spaces nodes)

  abbrev blocks : Blocks Owner Doing
  blocks = blocks_of core image places nestings setting (united (plan_of old spaces nodes)) (first_of spaces)

  only_root : (g : ℕ) → plan.in_lockstep g ≡ true → g ≡ 0
  only_root g lock =
      ⊎_elim (λ e. e)
      (λ ne.
      let is : is_lockstep (trees.kind old g) ≡ true = sym (ap (λ b. b || is_lockstep (trees.kind old g)) (ne_eqb g 0 ne)) ∙ lock in
      absurd (no_groups setting.processors old before.sound before.in_root g ne (lockstep_kind (trees.kind old g) is) (trees.members old g) refl))
      (cases_eq g 0)

  all_stay : (d inner number : ℕ) (gs : List Hart) (ns : List ℕ) (afters : List (Option Stage)) (qs : List Owner) → ((h : ℕ) → number ≤ h → h < number + length ns → old.places h ≡ 0)
      → ArePlaces old number ns → AreAsMany ns gs afters → AreAsMany ns gs qs → AllKeep (Acts d inner) afters
      → AllChange (core_source core setting) image plan blocks plan blocks (later t) (numbered number gs) ns ns afters (all_at (Acts d inner) afters) qs qs
  all_stay d inner number [] [] [] [] root here as_a as_p keep = tt
  all_stay d inner number (h ∷ gs) (n ∷ ns) (a ∷ afters) (q ∷ qs) root here as_a as_p keep =
      let e : n ≡ 0 = here.0 ∙ root number (omega arith) (omega arith) in
      let lock : plan.in_lockstep n ≡ true = ap (λ b. b || is_lockstep (trees.kind old n)) (eq-eqb n 0 e) in
      let m : Member = record { number = number; hart = h } in (
        subst (λ c. Changes (core_source core setting) image plan blocks plan blocks (later t) m n n c (Acts d inner) q q) (sym keep.0) (refl, refl, refl, tt, λ free. absurd (false≢true (sym free ∙ lock))),
        all_stay d inner (suc number) gs ns afters qs (λ k le lt. root k (omega (arith, le)) (omega (arith, lt))) here.1 as_a as_p keep.1,
      )
  all_stay d inner number gs ns afters qs root here as_a as_p keep = absurd (assumption (as_a, as_p))

  -- behind a cycle: they are one cycle nearer to their commit, or all have committed
  pub record Nearer (ds : List Doing) (afters : List (Option Stage)) (control : Memory) : Type 0 where
    pub stages' : List Stage
    pub are : afters ≡ kept stages'
    pub idle_all : ds ≡ map idle ps
    pub bound : IsBound (core_source core setting) image plan blocks (later t) stages' hs ps (λ g. control)
    pub near : AllNear stages stages'

  module _ (earlier : List Hart) (ds : List Doing) (own own' : ℕ → Memory) (control : Memory) (few : length earlier < 2 ^ 31)
      (binds : IsBound (core_source core setting) image (united (plan_of old spaces nodes)) (blocks_of core image places nestings setting (united (plan_of old spaces nodes)) (first_of spaces)) t stages earlier ps own)
      (left : IsLeft (core_source core setting) image (united (plan_of old spaces nodes)) (blocks_of core image places nestings setting (united (plan_of old spaces nodes)) (first_of spaces)) t stages hs ps ds own own')
      (has : (g : ℕ) → Has ((plan_of old spaces nodes).words g) control (own' g)) where
    in_root : (h : ℕ) → 0 ≤ h → h < 0 + length nodes → old.places h ≡ 0
    in_root h le lt = let many = before.many in before.in_root h (omega (arith, lt, many))

    all_afters : of_node 0 nodes left.afters ≡ left.afters
    all_afters = of_all old 0 nodes hs left.afters in_root before.stand left.as_many

    all_doings : of_node 0 nodes ds ≡ ds
    all_doings = of_all old 0 nodes hs ds in_root before.stand left.done_as_many

    all_owners : of_node 0 nodes ps ≡ ps
    all_owners = of_all old 0 nodes hs ps in_root before.stand before.as_many

    nearer_by : (d inner : ℕ) → AllKeep (Acts d inner) left.afters → ds ≡ map idle ps → Nearer ds left.afters control
    nearer_by d inner keep e =
        let change : TreeChanges (core_source core setting) image plan blocks plan blocks t hs left.afters (all_at (Acts d inner) left.afters) ps ps control
        = record {
          as_many = before.as_many;
          stages_as_many = keep_many (Acts d inner) nodes hs left.afters left.as_many;
          harts = all_stay d inner 0 hs nodes left.afters ps in_root before.stand left.as_many before.as_many keep;
          groups = λ g lock.
              inl
              (record {
                grouped = lock;
                busy = λ gone.
                    let here = subst AllHaveCommitted all_afters (subst (λ k. AllHaveCommitted (of_node k nodes left.afters)) (only_root g lock) gone) in
                    let none = keep_none (Acts d inner) left.afters keep here in
                    let long = (many_length nodes hs left.afters left.as_many).1 in
                    let many = before.many in
                    let some = before.sound.some in
                    absurd (omega (arith, none, long, many, some));
                same = same_all g nodes;
                words = refl;
                after = λ u ms xs o y. y;
              });
          meetings = λ g w free is_open. inl (record { alone = free; was = is_open; size = refl; same = λ number. refl });
        } in
        let on = plan_goes_on (core_source core setting) image plan blocks plan blocks t stages (all_at (Acts d inner) left.afters) earlier hs ps ps ds own own' control few binds left has change in
        record { stages' = all_at (Acts d inner) left.afters; are = kept_at (Acts d inner) left.afters keep; idle_all = e; bound = on.bound; near = on.near }

    pub nearer : Nearer ds left.afters control ⊎ AllHaveCommitted left.afters
    nearer =
        ⊎_elim (λ x. inr (subst AllHaveCommitted all_afters x.0))
        (λ x. inl (nearer_by x.0 x.1 (subst (AllKeep (Acts x.0 x.1)) all_afters x.2) (sym all_doings ∙ x.3 ∙ ap (map idle) all_owners))) (left.nodes 0)

-- none of them unites with others
nobody_acts : (core : List CoreOp) (image : Image) (setting : Setting) (plan : Plan) (blocks : Blocks Owner Doing) (d inner : ℕ) (stages : List Stage) (ms : List Member) (ps : List Owner)
    → AllAct (core_source core setting) image plan blocks d inner stages ms ps → NobodyUnites stages
nobody_acts core image setting plan blocks d inner [] [] [] all = tt
nobody_acts core image setting plan blocks d inner (s ∷ stages) (m ∷ ms) (p ∷ ps) all = (ap unites_now all.0, nobody_acts core image setting plan blocks d inner stages ms ps all.1)
nobody_acts core image setting plan blocks d inner stages ms ps all = absurd (assumption all)

all_act_apart : (core : List CoreOp) (image : Image) (places : Places) (nestings : Nestings) (setting : Setting) (old : Tree) (spaces : ℕ → Space) (nodes : List ℕ) (t : MachineSetting) (stages : List Stage)
    (hs : List Hart) (ps : List Owner) (before : IsBeforeStart image setting old spaces nodes t hs ps) (own : ℕ → Memory)
    → IsBound (core_source core setting) image (united (plan_of old spaces nodes)) (blocks_of core image places nestings setting (united (plan_of old spaces nodes)) (first_of spaces)) t stages hs ps own
    → NobodyUnites stages
all_act_apart core image places nestings setting old spaces nodes t stages hs ps before own binds =
    let plan = united (plan_of old spaces nodes) in
    let all : of_node 0 nodes stages ≡ stages
    = of_all old 0 nodes hs stages (λ h le lt. let many = before.many in before.in_root h (omega (arith, lt, many))) before.stand binds.stages_as_many in
    let group : InLockstep (core_source core setting) image plan (blocks_of core image places nestings setting plan (first_of spaces)) t 0 (of_node 0 nodes stages) (of_node 0 nodes (numbered 0 hs))
    (of_node 0 nodes ps) (own 0) = binds.binds 0 in
    subst NobodyUnites all
    (nobody_acts core image setting plan (blocks_of core image places nestings setting plan (first_of spaces)) group.distance group.inner (of_node 0 nodes stages) (of_node 0 nodes (numbered 0 hs)) (of_node 0 nodes ps)
    group.alike)

pub cycles_come_to_start : CyclesComeToStart
cycles_come_to_start core image places nestings setting tree spaces nodes t earlier stages hs ps own sh s before few shows has binds =
    let plan = united (plan_of tree spaces nodes) in
    let blocks = blocks_of core image places nestings setting plan (first_of spaces) in
    let source = core_source core setting in
    let done = turns t 0 hs sh in
    let joining = joining_blocks_of core image places nestings setting plan (first_of spaces) in
    let joined = joins_bound core image places nestings setting plan (first_of spaces) t stages hs ps own binds in
    let planned = cycle_is_planned source image plan joining t earlier stages hs ps own sh s (is_idle core setting) (meeters_turn core image places nestings setting plan (first_of spaces))
    (own_apart tree spaces before.spaced) shows has joined in (
      planned.counts,
      ⊎_elim
          (λ whole.
          let left = cycles_leave_apart core image places nestings setting plan (first_of spaces) t stages done.harts ps whole.did own whole.own
          (all_act_apart core image places nestings setting tree spaces nodes t stages hs ps before own binds)
          (what_is_left source image plan joining t stages hs done.harts ps whole.did own whole.own joined whole.as_many whole.after) in
          let many : AreAsMany nodes done.harts ps
          = both_alike nodes done.harts ps (first_alike nodes done.harts whole.did whole.as_many) (second_alike nodes hs ps before.as_many) in
          let behind : IsBeforeStart image setting tree spaces nodes t done.harts ps
          = record {
            running = before.running;
            sound = before.sound;
            spaced = before.spaced;
            stand = before.stand;
            many = before.many;
            as_many = many;
            alone = before.alone;
            kind = before.kind;
            in_root = before.in_root;
          } in
          inl (record {
            whole = whole;
            left = left;
            goes = ⊎_elim (λ x. inl (record { stages' = x.stages'; are = x.are; idle = x.idle_all; bound = x.bound; near = x.near })) (λ gone. inr gone)
                (nearer core image places nestings setting tree spaces nodes t stages done.harts ps behind hs whole.did own whole.own done.shared.control few binds left whole.has);
          }))
          (λ cut. inr cut) planned.round,
    )
