-- Behind the cycle in which all have met at the beginning of `start` they are in lockstep.
use Rattle.std.proofs.Common.{◌≡◌, ◌≢◌, ℕ, zero, suc, ◌+◌, ◌^◌, ◌≤◌, ◌<◌, List, [], ◌∷◌, length, Option, Some, None, Bool, true, false, sym, ap, subst, ◌∙◌, refl, arith, ◌⊎◌, inl, inr, ⊎_elim, eq-eqb}
use Rattle.std.specs.Prelude.{◌==◌, ◌||◌, map, cond}
use Rattle.std.proofs.lemmas.Bool.{cases_eq, ne_eqb, eqb-true, or_parts, false≢true}
use Rattle.fk_num.specs.Word.{Memory}
use Rattle.fk_space.specs.Space.{Space}
use Rattle.fk_tree.specs.declared.node.Kind.{Kind}
use Rattle.fk_tree.specs.declared.node.Kind.TheVariants as kinds
use Rattle.fk_tree.specs.Tree as trees
use Rattle.fk_tree.specs.Tree.{Tree, is_member}
use Rattle.fk_tree.proofs.Lists.{below-has}
use Rattle.fk_tree.proofs.Begins.{root_some}
use Rattle.fk_tree.proofs.Shapes.{some-given}
use Rattle.fk_meaning_operation.specs.declared.operation.Operation.TheVariants.{Begin}
use Rattle.fk_meaning.specs.Processor.{Setting}
use Rattle.fk_meaning.specs.Round.{Runner}
use Rattle.fk_core.specs.declared.op.CoreOp.{CoreOp}
use Rattle.fk_core.specs.Next.{Position}
use Rattle.fk_image.specs.declared.Image.{Image}
use Rattle.fk_machine.specs.Hart.{Hart, Setting as MachineSetting}
use Rattle.fk_machine.specs.Cycle.{turns}
use Rattle.fk_sim_nodes.specs.Node.{Member, numbered, of_node, AreAsMany, Has}
use Rattle.fk_sim_nodes.specs.Source.{Passes, Breaks, FaultsAfter}
use Rattle.fk_sim_nodes.specs.Alone.{later}
use Rattle.fk_sim_nodes.specs.Phase.{Phase, Outside, Away, Coming, Waiting, Leaving, Each, Stays, Leaves}
use Rattle.fk_sim_match.specs.Stage.{Ending, Unites, Stage, Ended, Acts, Meets, Pairwise, Remains, is_over, count_of_stage, counts_for, kept, absent, phase_of}
use Rattle.fk_sim_match.specs.Plan.{Plan, Blocks, IsOpen, phase_at, phases_from, InLockstep, IsBound}
use Rattle.fk_sim_match.specs.Cycle.{AllHaveCommitted, AllLeave, IsLeft}
use Rattle.fk_sim_match.specs.Cycle as left_by
use Rattle.fk_sim_match.specs.Change.{AllChange, TreeChanges, GoesOn}
use Rattle.fk_sim_match.proofs.Changes.{plan_goes_on}
use Rattle.fk_sim_match.proofs.Left.{first_alike, second_alike, both_alike, what_is_left, meeting_is_kept}
use Rattle.fk_sim_block.specs.Owner.{Commons, Owner, Doing, idle, core_source}
use Rattle.fk_sim_block.specs.Stands.{Places}
use Rattle.fk_sim_block.specs.Next.{OpAt}
use Rattle.fk_sim_block.specs.Ready.{IsReady}
use Rattle.fk_sim_block.specs.Node.{Nestings, IsAtRest, root_words, closing_word}
use Rattle.fk_sim_block.specs.Start as law
use Rattle.fk_sim_block.specs.Start.{AllHaveMet}
use Rattle.fk_sim_block.specs.Law.{Cycles, GroupLaw}
use Rattle.fk_sim_match.specs.Nodes.{first_of, is_arrival, is_lockstep, plan_of, united}
use Rattle.fk_sim_match.specs.Behind.{HasJoined, blocks_of, joining_blocks_of}
use Rattle.fk_sim_match.specs.Uniting.{unites_now, SomebodyUnites}
use Rattle.fk_sim_match.specs.Rounds.{closing_joint, joint_at_word, ending_of, IsDueAt, AllDue}
use Rattle.fk_sim_match.specs.Standing.{all_act}
use Rattle.fk_sim_match.proofs.Nodes.{tells}
use Rattle.fk_sim_match.proofs.Rounds.{lockstep_kind}
use Rattle.fk_sim_match.proofs.Joining.{joins_bound}
use Rattle.fk_sim_match.proofs.Meeters.{cycles_are_rounds}
use Rattle.fk_sim_match.proofs.Standing.{groups_start_together}
use Rattle.fk_sim_rounds.specs.Next.{AllAt, AllAbout}
use Rattle.fk_sim_rounds.specs.Comes.{IsNode}
use Rattle.fk_sim_rounds.specs.After.{runners_of, ArePlaces}
use Rattle.fk_sim_rounds.specs.Rounds.{IsBefore}
use Rattle.fk_sim_rounds.specs.Start.{IsBeforeStart}
use Rattle.fk_sim_rounds.specs.Unite.{AllUnite, AreInRoot, CyclesUnite}
use Rattle.fk_sim_rounds.proofs.Cycles.{runs_later}
use Rattle.fk_sim_rounds.proofs.Comes.{owns_header}
use Rattle.fk_sim_rounds.proofs.Groups.{many_length}
use Rattle.fk_sim_rounds.proofs.Trees.{some_there}
use Rattle.fk_sim_rounds.proofs.Close.{none_arrived}
use Rattle.fk_sim_rounds.proofs.Starts.{of_all, many_numbered, node_committed, no_groups}

-- ---- they do so in the root

record IsStart (g offset : ℕ) (kind : Option Kind) : Type 0 where
  root : g ≡ 0
  word : offset ≡ closing_word
  alone : Bool
  is : kind ≡ Some (kinds.Asynchronous alone)

start_at : (g offset : ℕ) (kind : Option Kind) → Unites ≡ ending_of (joint_at_word g kind offset) → IsStart g offset kind
start_at g zero kind e = absurd (cc)
start_at zero (suc zero) (Some (kinds.Asynchronous alone)) e = record { root = refl; word = refl; alone = alone; is = refl }
start_at (suc g) (suc zero) (Some (kinds.Asynchronous alone)) e = absurd (cc)
start_at zero (suc zero) None e = absurd (cc)
start_at (suc g) (suc zero) None e = absurd (cc)
start_at zero (suc zero) (Some kinds.Lockstep) e = absurd (cc)
start_at (suc g) (suc zero) (Some kinds.Lockstep) e = absurd (cc)
start_at zero (suc zero) (Some (kinds.Waiting first parts)) e = absurd (cc)
start_at (suc g) (suc zero) (Some (kinds.Waiting first parts)) e = absurd (cc)
start_at g (suc (suc o)) kind e = absurd (cc)

record InRoot (tree : Tree) (spaces : ℕ → Space) (g w : ℕ) : Type 0 where
  root : g ≡ 0
  word : w ≡ first_of spaces 0 + closing_word
  alone : Bool
  kind : trees.kind tree 0 ≡ Some (kinds.Asynchronous alone)

due_unites : (core : List CoreOp) (tree : Tree) (spaces : ℕ → Space) (g w : ℕ) (f : Phase) (r : Runner Position) → IsDueAt core tree spaces g (Meets Unites w f) r → InRoot tree spaces g w
due_unites core tree spaces g w f r due =
    let x = due.1 in
    let s = start_at g x.offset (trees.kind tree g) x.ends in
    record {
      root = s.root;
      word = x.word_is ∙ ap (λ k. first_of spaces k + x.offset) s.root ∙ ap (λ o. first_of spaces 0 + o) s.word;
      alone = s.alone;
      kind = ap (λ k. trees.kind tree k) (sym s.root) ∙ s.is;
    }

pub unites_is : (s : Stage) → unites_now s ≡ true → (w : ℕ) × (s ≡ Meets Unites w (Leaving 0))
unites_is (Meets Unites w (Leaving zero)) is = (w, refl)
unites_is s is = absurd (cc)

-- ---- phases at the word

-- somebody leaves in this cycle
abbrev OneLeaves : List Phase → Type 0
OneLeaves [] = ⊥
OneLeaves (f ∷ fs) = (f ≡ Leaving 0) ⊎ OneLeaves fs

not_all_stay : (fs : List Phase) → OneLeaves fs → Each Stays fs → ⊥
not_all_stay [] one all = one
not_all_stay (f ∷ fs) (inl e) all = subst Stays e all.0
not_all_stay (f ∷ fs) (inr more) all = not_all_stay fs more all.1

leaves_now : (d : ℕ) (fs : List Phase) → OneLeaves fs → Each (Leaves d) fs → 0 ≡ d
leaves_now d [] one all = absurd one
leaves_now d (f ∷ fs) (inl e) all = subst (Leaves d) e all.0
leaves_now d (f ∷ fs) (inr more) all = leaves_now d fs more all.1

-- ---- nobody is in the round

abbrev AllZero : List ℕ → Type 0
AllZero [] = Unit {0}
AllZero (c ∷ counts) = (c ≡ 0) × AllZero counts

no_fault : (core : List CoreOp) (setting : Setting) (place site : ℕ) (counts : List ℕ) (ps : List Owner) (s s' : Commons) → AllZero counts
    → FaultsAfter (core_source core setting) place site counts ps s s' → ⊥
no_fault core setting zero site (c ∷ counts) (p ∷ ps) s s' zeros fault =
    let x = subst (λ k. FaultsAfter (core_source core setting) zero site (k ∷ counts) (p ∷ ps) s s') zeros.0 fault in
    absurd (let e : Passes s (idle p) ≡ Breaks site = x.0 in cc)
no_fault core setting (suc place) site (c ∷ counts) (p ∷ ps) s s' zeros fault = no_fault core setting place site counts ps fault.0 s' zeros.1 fault.3
no_fault core setting place site counts ps s s' zeros fault = absurd (assumption fault)

module _ (core : List CoreOp) (image : Image) (places : Places) (nestings : Nestings) (setting : Setting) (tree : Tree) (spaces : ℕ → Space) (nodes : List ℕ)
    (t : MachineSetting) (stages : List Stage) (earlier : List Hart) (ps : List Owner) (own : ℕ → Memory)
    (before : IsBefore core image setting tree spaces nodes t stages earlier ps)
    (binds : IsBound (core_source core setting) image (plan_of tree spaces nodes) (blocks_of core image places nestings setting (plan_of tree spaces nodes) (first_of spaces)) t stages earlier ps own)
    (some : SomebodyUnites stages) where
  abbrev plan : Plan
  plan = plan_of tree spaces nodes

  abbrev word : ℕ
  word = first_of spaces 0 + closing_word

  -- ---- the root

  record Root : Type 0 where
    alone : Bool
    kind : trees.kind tree 0 ≡ Some (kinds.Asynchronous alone)

  root_of : (number : ℕ) (ss : List Stage) (rs : List (Runner Position)) → AllDue core tree spaces number ss rs → SomebodyUnites ss → Root
  root_of number [] rs due one = absurd one
  root_of number (s ∷ ss) [] due one = absurd (assumption due)
  root_of number (s ∷ ss) (r ∷ rs) due (inl is) =
      let u = unites_is s is in
      let x = due_unites core tree spaces (tree.places number) u.0 (Leaving 0) r (subst (λ y. IsDueAt core tree spaces (tree.places number) y r) u.1 due.1) in
      record { alone = x.alone; kind = x.kind }
  root_of number (s ∷ ss) (r ∷ rs) due (inr more) = root_of (suc number) ss rs due.2 more

  root : Root
  root = root_of 0 stages (runners_of ps) before.due some

  free : plan.in_lockstep 0 ≡ false
  free = ap is_lockstep root.kind

  some_root : tree.nodes 0 ≢ None
  some_root = root_some setting.processors tree before.sound

  node : IsNode tree spaces 0
  node = record { spaced = before.spaced; there = some_there (tree.nodes 0) some_root; given = some-given setting.processors tree before.sound 0 some_root }

  is_open : IsOpen plan 0 word
  is_open = let tell = tells tree spaces before.spaced nodes 0 closing_word node.there node.given (omega arith) in (tell.own, tell.arrival)

  member_is : (h : ℕ) → h < setting.processors → plan.member word h ≡ true
  member_is h lt =
      (tells tree spaces before.spaced nodes 0 closing_word node.there node.given (omega arith)).member h
      ∙ ap (λ l. is_member h l) before.sound.root ∙ below-has setting.processors h [] lt

  -- ---- all of them leave

  one_leaves : (number : ℕ) (ns : List ℕ) (hs : List Hart) (ss : List Stage) (rs : List (Runner Position)) → ArePlaces tree number ns → AreAsMany ns hs ss → AllDue core tree spaces number ss rs
      → SomebodyUnites ss → OneLeaves (phases_from plan 0 word number ns (kept ss))
  one_leaves number [] [] [] rs here many due one = absurd one
  one_leaves number (n ∷ ns) (h ∷ hs) (s ∷ ss) [] here many due one = absurd (assumption due)
  one_leaves number (n ∷ ns) (h ∷ hs) (s ∷ ss) (r ∷ rs) here many due (inl is) =
      let u = unites_is s is in
      let x = due_unites core tree spaces (tree.places number) u.0 (Leaving 0) r (subst (λ y. IsDueAt core tree spaces (tree.places number) y r) u.1 due.1) in
      let m = plan.member word number in
      inl
      (ap (λ b. phase_at b m (phase_of word m (Some s))) (eq-eqb n 0 (here.0 ∙ x.root))
      ∙ ap (λ y. phase_of word m (Some y)) u.1
      ∙ ap (λ b. cond b (Leaving 0) (absent m)) (eq-eqb u.0 word x.word))
  one_leaves number (n ∷ ns) (h ∷ hs) (s ∷ ss) (r ∷ rs) here many due (inr more) = inr (one_leaves (suc number) ns hs ss rs here.1 many due.2 more)
  one_leaves number ns hs ss rs here many due one = absurd (assumption many)

  somebody : OneLeaves (phases_from plan 0 word 0 nodes (kept stages))
  somebody = one_leaves 0 nodes earlier stages (runners_of ps) before.stand binds.stages_as_many before.due some

  all_leave : Each (Leaves 0) (phases_from plan 0 word 0 nodes (kept stages))
  all_leave =
      let fs = phases_from plan 0 word 0 nodes (kept stages) in
      ⊎_elim (λ stay. absurd (not_all_stay fs somebody stay)) (λ x. subst (λ d. Each (Leaves d) fs) (sym (leaves_now x.0 fs somebody x.1)) x.1)
      (binds.counts 0 word free is_open).together

  abbrev One : (number : ℕ) → Stage → Type 0
  One number s = (tree.places number ≡ 0) × (s ≡ Meets Unites word (Leaving 0))

  module _ (number n : ℕ) (r : Runner Position) (here : n ≡ tree.places number) where
    by_phase : (e : Ending) (v : ℕ) (f : Phase) → tree.places number ≡ 0 → v ≡ word → IsDueAt core tree spaces (tree.places number) (Meets e v f) r → Leaves 0 f → One number (Meets e v f)
    by_phase e v Outside at is due leaves = absurd due.0
    by_phase e v Away at is due leaves = absurd leaves
    by_phase e v (Coming d) at is due leaves = absurd leaves
    by_phase e v Waiting at is due leaves = absurd leaves
    by_phase e v (Leaving d) at is due leaves =
        let x = due.1 in
        let along : v ≡ first_of spaces 0 + x.offset = x.word_is ∙ ap (λ k. first_of spaces k + x.offset) at in
        let offset : x.offset ≡ closing_word = omega (arith, along, is) in
        let ending : e ≡ Unites
        = x.ends ∙ ap (λ k. ending_of (joint_at_word k (trees.kind tree k) x.offset)) at ∙ ap (λ o. ending_of (joint_at_word 0 (trees.kind tree 0) o)) offset
        ∙ ap (λ k. ending_of (closing_joint 0 k)) root.kind in
        (at, ap (λ y. Meets y v (Leaving d)) ending ∙ ap (λ y. Meets Unites y (Leaving d)) is ∙ ap (λ y. Meets Unites word (Leaving y)) leaves)

    by_word : (e : Ending) (v : ℕ) (f : Phase) (b : Bool) → (v == word) ≡ b → tree.places number ≡ 0 → IsDueAt core tree spaces (tree.places number) (Meets e v f) r → Leaves 0 (cond b f Away) → One number (Meets e v f)
    by_word e v f false is at due leaves = absurd leaves
    by_word e v f true is at due leaves = by_phase e v f at (eqb-true v word is) due leaves

    by_stage : (s : Stage) → tree.places number ≡ 0 → IsDueAt core tree spaces (tree.places number) s r → Leaves 0 (phase_of word true (Some s)) → One number s
    by_stage Ended at due leaves = absurd leaves
    by_stage (Acts d inner) at due leaves = absurd leaves
    by_stage (Meets e v f) at due leaves = by_word e v f (v == word) refl at due leaves

    by_place : (s : Stage) (b : Bool) → (n == 0) ≡ b → IsDueAt core tree spaces (tree.places number) s r → Leaves 0 (phase_at b true (phase_of word true (Some s))) → One number s
    by_place s false is due leaves = absurd leaves
    by_place s true is due leaves = by_stage s (sym here ∙ eqb-true n 0 is) due leaves

  -- they do so in the root
  abbrev All : (number : ℕ) → List Stage → Type 0
  All number [] = Unit {0}
  All number (s ∷ ss) = One number s × All (suc number) ss

  all_of : (number : ℕ) (ns : List ℕ) (hs : List Hart) (ss : List Stage) (rs : List (Runner Position)) → number + length ns ≡ setting.processors → ArePlaces tree number ns → AreAsMany ns hs ss
      → AllDue core tree spaces number ss rs → Each (Leaves 0) (phases_from plan 0 word number ns (kept ss)) → All number ss
  all_of number [] [] [] rs size here many due leave = tt
  all_of number (n ∷ ns) (h ∷ hs) (s ∷ ss) [] size here many due leave = absurd (assumption due)
  all_of number (n ∷ ns) (h ∷ hs) (s ∷ ss) (r ∷ rs) size here many due leave = (
    by_place number n r here.0 s (n == 0) refl due.1
        (subst (λ m. Leaves 0 (phase_at (n == 0) m (phase_of word m (Some s)))) (member_is number (omega (arith, size))) leave.0),
    all_of (suc number) ns hs ss rs (omega (arith, size)) here.1 many due.2 leave.1,
  )
  all_of number ns hs ss rs size here many due leave = absurd (assumption many)

  all : All 0 stages
  all = let many = before.many in all_of 0 nodes earlier stages (runners_of ps) (omega (arith, many)) before.stand binds.stages_as_many before.due all_leave

  place_of : (number : ℕ) (ss : List Stage) (h : ℕ) → number ≤ h → h < number + length ss → All number ss → tree.places h ≡ 0
  place_of number [] h le lt xs = absurd (omega (arith, le, lt))
  place_of number (s ∷ ss) h le lt xs =
      ⊎_elim (λ e. ap (λ k. tree.places k) (sym e) ∙ xs.0.0) (λ ne. place_of (suc number) ss h (omega (arith, le, ne)) (omega (arith, lt)) xs.1) (cases_eq number h)

  in_root : (h : ℕ) → h < setting.processors → tree.places h ≡ 0
  in_root h lt =
      let many = before.many in
      let long = (many_length nodes earlier stages binds.stages_as_many).1 in
      place_of 0 stages h (omega arith) (omega (arith, lt, many, long)) all

  zero_counts : (number : ℕ) (ss : List Stage) → All number ss → AllZero (counts_for ss)
  zero_counts number [] xs = tt
  zero_counts number (s ∷ ss) xs = (ap count_of_stage xs.0.1, zero_counts (suc number) ss xs.1)

  nobody_acts : AllZero (counts_for stages)
  nobody_acts = zero_counts 0 stages all

  all_now : (number : ℕ) (ss : List Stage) → All number ss → AllUnite ss
  all_now number [] xs = tt
  all_now number (s ∷ ss) xs = (ap unites_now xs.0.1, all_now (suc number) ss xs.1)

  all_unite : AllUnite stages
  all_unite = all_now 0 stages all

  -- ---- what the cycle has left

  module _ (hs : List Hart) (ds : List Doing) (own' : ℕ → Memory) (many : AreAsMany nodes hs ps)
      (left : IsLeft (core_source core setting) image (plan_of tree spaces nodes) (joining_blocks_of core image places nestings setting (plan_of tree spaces nodes) (first_of spaces)) t stages hs ps ds own own') where
    abbrev joining : Blocks Owner Doing
    joining = joining_blocks_of core image places nestings setting (plan_of tree spaces nodes) (first_of spaces)

    abbrev plan' : Plan
    plan' = united (plan_of tree spaces nodes)

    abbrev blocks' : Blocks Owner Doing
    blocks' = blocks_of core image places nestings setting (united (plan_of tree spaces nodes)) (first_of spaces)

    abbrev ms : List Member
    ms = numbered 0 hs

    here : (h : ℕ) → 0 ≤ h → h < 0 + length nodes → tree.places h ≡ 0
    here h le lt = let size = before.many in in_root h (omega (arith, lt, size))

    over : (number : ℕ) (ss : List Stage) (afters : List (Option Stage)) → All number ss → Pairwise Remains ss afters → AllHaveCommitted afters
    over number [] [] xs remains = tt
    over number (s ∷ ss) (None ∷ afters) xs remains = (refl, over (suc number) ss afters xs.1 remains.1)
    over number (s ∷ ss) (Some s' ∷ afters) xs remains = absurd (false≢true (sym remains.0.3 ∙ ap is_over xs.0.1))
    over number ss afters xs remains = absurd (assumption remains)

    committed : AllHaveCommitted left.afters
    committed = over 0 stages left.afters all left.stay

    -- each has done nothing, and has met all others
    abbrev AllJoined : List Member → List Owner → Type 0
    AllJoined [] [] = Unit {0}
    AllJoined (m ∷ ns) (p ∷ qs) = HasJoined core image places nestings setting m p × AllJoined ns qs
    AllJoined ns qs = ⊥

    joined_of : (number : ℕ) (ss : List Stage) (ns : List Member) (qs : List Owner) (xs : List Doing) → All number ss
        → AllLeave (core_source core setting) image plan joining (later t) 0 ss ns qs xs → (xs ≡ map idle qs) × AllJoined ns qs
    joined_of number [] [] [] [] us leave = (refl, tt)
    joined_of number (s ∷ ss) (m ∷ ns) (q ∷ qs) (x ∷ xs) us leave =
        let one = subst (λ y. left_by.Leaves (core_source core setting) image plan joining (later t) 0 y m q x) us.0.1 leave.0 in
        let more = joined_of (suc number) ss ns qs xs us.1 leave.1 in
        (ap (λ y. y ∷ xs) one.0 ∙ ap (λ l. idle q ∷ l) more.0, (one.1, more.1))
    joined_of number ss ns qs xs us leave = absurd (assumption leave)

    pub all_joined : (ds ≡ map idle ps) × AllJoined ms ps
    all_joined =
        let leave = left.leave 0 free in
        let a = subst (λ l. AllLeave (core_source core setting) image plan joining (later t) 0 l (of_node 0 nodes ms) (of_node 0 nodes ps) (of_node 0 nodes ds))
        (of_all tree 0 nodes earlier stages here before.stand binds.stages_as_many) leave in
        let b = subst (λ l. AllLeave (core_source core setting) image plan joining (later t) 0 stages l (of_node 0 nodes ps) (of_node 0 nodes ds))
        (of_all tree 0 nodes hs ms here before.stand (many_numbered 0 nodes hs ps many)) a in
        let c = subst (λ l. AllLeave (core_source core setting) image plan joining (later t) 0 stages ms l (of_node 0 nodes ds)) (of_all tree 0 nodes hs ps here before.stand many) b in
        joined_of 0 stages ms ps ds all
        (subst (λ l. AllLeave (core_source core setting) image plan joining (later t) 0 stages ms ps l) (of_all tree 0 nodes hs ds here before.stand left.done_as_many) c)

    roots_of : (ns : List Member) (qs : List Owner) → AllJoined ns qs → AreInRoot nestings setting qs
    roots_of [] [] joined = tt
    roots_of (m ∷ ns) (q ∷ qs) joined = let j = joined.0 in (j.met.root, roots_of ns qs joined.1)
    roots_of ns qs joined = absurd (assumption joined)

    pub roots : AreInRoot nestings setting ps
    roots = roots_of ms ps all_joined.1

    pub before_start : IsBeforeStart image setting tree spaces nodes (later t) hs ps
    before_start = record {
      running = runs_later image setting 1 t before.running;
      sound = before.sound;
      spaced = before.spaced;
      stand = before.stand;
      many = before.many;
      as_many = many;
      alone = root.alone;
      kind = root.kind;
      in_root = in_root;
    }

    -- ---- if all are at one index

    module _ (cycles : Cycles) (firsts : List ℕ) (main : ℕ) (control : Memory) (i : ℕ) (the_law : GroupLaw core image places nestings cycles firsts main) (few : length earlier < 2 ^ 31)
        (has : (g : ℕ) → Has ((plan_of tree spaces nodes).words g) control (own' g)) (at : AllAt i ps) where
      abbrev distance : ℕ
      distance = cycles.before i

      pub record Starts : Type 0 where
        pub op : CoreOp
        pub stands : OpAt core i op Begin

      starts_of : (ns : List Member) (qs : List Owner) → (length qs ≡ 0 → ⊥) → AllJoined ns qs → AllAt i qs → Starts
      starts_of [] [] ne joined at' = absurd (ne refl)
      starts_of (m ∷ ns) (q ∷ qs) ne joined at' =
          let j = joined.0 in
          let e : j.i ≡ i = sym j.met.enters.index ∙ at'.0 in
          record { op = j.op; stands = subst (λ k. OpAt core k j.op Begin) e j.stands }
      starts_of ns qs ne joined at' = absurd (assumption joined)

      some_owners : length ps ≡ 0 → ⊥
      some_owners none =
          let size = before.many in
          let long = (many_length nodes hs ps many).1 in
          let positive = before.sound.some in
          omega (arith, none, size, long, positive)

      pub start : Starts
      start = starts_of ms ps some_owners all_joined.1 at

      same_op : (a b : CoreOp) (j : ℕ) → j ≡ i → OpAt core j a Begin → OpAt core i b Begin → a ≡ b
      same_op a b j e x y = let p = x.stands in let q = y.stands in cc

      all_met : (ns : List Member) (qs : List Owner) → AllJoined ns qs → AllAt i qs
          → AllHaveMet core image places nestings i start.op (nestings.start.there i) (nestings.start.coming i) setting ns qs
      all_met [] [] joined at' = tt
      all_met (m ∷ ns) (q ∷ qs) joined at' =
          let j = joined.0 in
          let e : j.i ≡ i = sym j.met.enters.index ∙ at'.0 in
          let o : j.op ≡ start.op = same_op j.op start.op j.i e j.stands start.stands in (
            subst (λ c. law.HasMet core image places nestings i c (nestings.start.there i) (nestings.start.coming i) setting m q) o
                (subst (λ k. law.HasMet core image places nestings k j.op (nestings.start.there k) (nestings.start.coming k) setting m q) e j.met),
            all_met ns qs joined.1 at'.1,
          )
      all_met ns qs joined at' = absurd (assumption joined)

      about_of : (ns : List Member) (qs : List Owner) → AllJoined ns qs → AllAt i qs → AllAbout i start.op Begin qs
      about_of [] [] joined at' = tt
      about_of (m ∷ ns) (q ∷ qs) joined at' =
          let j = joined.0 in
          let e : j.i ≡ i = sym j.met.enters.index ∙ at'.0 in
          (at'.0, subst (λ c. IsReady c Begin q.runner) (same_op j.op start.op j.i e j.stands start.stands) j.met.enters.ready, about_of ns qs joined.1 at'.1)
      about_of ns qs joined at' = absurd (assumption joined)

      pub about : AllAbout i start.op Begin ps
      about = about_of ms ps all_joined.1 at

      -- ---- the words of the root

      word_is_zero : (offset : ℕ) → offset < 8 → is_arrival offset ≡ true → control (first_of spaces 0 + offset) ≡ 0
      word_is_zero offset lt arrival =
          let w = first_of spaces 0 + offset in
          let tell = tells tree spaces before.spaced nodes 0 offset node.there node.given lt in
          let kept' = meeting_is_kept (core_source core setting) image plan joining t stages earlier hs ps ds own own' few
          (joins_bound core image places nestings setting plan (first_of spaces) t stages earlier ps own binds) left 0 w free (tell.own, tell.arrival ∙ arrival) in
          has 0 w tell.own ∙ sym kept'.settled.count ∙ none_arrived plan 0 w 0 nodes left.afters (node_committed 0 nodes left.afters committed)

      rest : IsAtRest root_words control
      rest = record { barrier = word_is_zero 0 (omega arith) refl; closing = word_is_zero 1 (omega arith) refl }

      lockstep : InLockstep (core_source core setting) image plan' blocks' (later t) 0 (all_act distance ms) ms ps control
      lockstep =
          groups_start_together core image places nestings cycles firsts main setting plan' (first_of spaces) (later t) i start.op ms ps control the_law start.stands
          (owns_header tree spaces nodes 0 node) (runs_later image setting 1 t before.running) (all_met ms ps all_joined.1 at) rest

      -- ---- all harts

      many_act : (number : ℕ) (ns : List ℕ) (gs : List Hart) (qs : List Owner) → AreAsMany ns gs qs → AreAsMany ns gs (all_act distance (numbered number gs))
      many_act number [] [] [] alike = tt
      many_act number (n ∷ ns) (h ∷ gs) (q ∷ qs) alike = many_act (suc number) ns gs qs alike
      many_act number ns gs qs alike = absurd (assumption alike)

      lock_here : (n number : ℕ) → n ≡ tree.places number → tree.places number ≡ 0 → plan'.in_lockstep n ≡ true
      lock_here n number e root' = ap (λ b. b || is_lockstep (trees.kind tree n)) (eq-eqb n 0 (e ∙ root'))

      all_change : (number : ℕ) (gs : List Hart) (ns : List ℕ) (afters : List (Option Stage)) (qs : List Owner) → ((h : ℕ) → number ≤ h → h < number + length ns → tree.places h ≡ 0)
          → ArePlaces tree number ns → AreAsMany ns gs afters → AreAsMany ns gs qs → AllHaveCommitted afters
          → AllChange (core_source core setting) image plan joining plan' blocks' (later t) (numbered number gs) ns ns afters (all_act distance (numbered number gs)) qs qs
      all_change number [] [] [] [] stand places' as_a as_p gone = tt
      all_change number (h ∷ gs) (n ∷ ns) (None ∷ afters) (q ∷ qs) stand places' as_a as_p gone =
          let lock = lock_here n number places'.0 (stand number (omega arith) (omega arith)) in (
            (tt, λ off. absurd (false≢true (sym off ∙ lock))),
            all_change (suc number) gs ns afters qs (λ k le lt. stand k (omega (arith, le)) (omega (arith, lt))) places'.1 as_a as_p gone.1,
          )
      all_change number (h ∷ gs) (n ∷ ns) (Some a ∷ afters) (q ∷ qs) stand places' as_a as_p gone = absurd (let e = gone.0 in cc)
      all_change number gs ns afters qs stand places' as_a as_p gone = absurd (assumption (as_a, as_p))

      only_root : (g : ℕ) → plan'.in_lockstep g ≡ true → g ≡ 0
      only_root g lock =
          ⊎_elim (λ e. e)
          (λ ne.
          let is : is_lockstep (trees.kind tree g) ≡ true = sym (ap (λ b. b || is_lockstep (trees.kind tree g)) (ne_eqb g 0 ne)) ∙ lock in
          absurd (no_groups setting.processors tree before.sound in_root g ne (lockstep_kind (trees.kind tree g) is) (trees.members tree g) refl))
          (cases_eq g 0)

      abbrev Group : ℕ → Type 0
      Group g =
          InLockstep (core_source core setting) image plan' blocks' (later t) g (of_node g nodes (all_act distance ms)) (of_node g nodes ms) (of_node g nodes ps) control

      group : Group 0
      group =
          subst (λ l. InLockstep (core_source core setting) image plan' blocks' (later t) 0 l (of_node 0 nodes ms) (of_node 0 nodes ps) control)
          (sym (of_all tree 0 nodes hs (all_act distance ms) here before.stand (many_act 0 nodes hs ps many)))
          (subst (λ l. InLockstep (core_source core setting) image plan' blocks' (later t) 0 (all_act distance ms) l (of_node 0 nodes ps) control)
          (sym (of_all tree 0 nodes hs ms here before.stand (many_numbered 0 nodes hs ps many)))
          (subst (λ l. InLockstep (core_source core setting) image plan' blocks' (later t) 0 (all_act distance ms) ms l control) (sym (of_all tree 0 nodes hs ps here before.stand many)) lockstep))

      changed : TreeChanges (core_source core setting) image plan joining plan' blocks' t hs left.afters (all_act distance ms) ps ps control
      changed = record {
        as_many = many;
        stages_as_many = many_act 0 nodes hs ps many;
        harts = all_change 0 hs nodes left.afters ps here before.stand left.as_many many committed;
        groups = λ g lock. inr (subst Group (sym (only_root g lock)) group);
        meetings = λ g w off is_open'. inl (record { alone = (or_parts (g == 0) (plan.in_lockstep g) off).1; was = is_open'; size = refl; same = λ number. refl });
      }

      pub goes_on : GoesOn (core_source core setting) image plan joining plan' blocks' t stages (all_act distance ms) hs ps own control
      goes_on =
          plan_goes_on (core_source core setting) image plan joining plan' blocks' t stages (all_act distance ms) earlier hs ps ps ds own own' control few
          (joins_bound core image places nestings setting plan (first_of spaces) t stages earlier ps own binds) left has changed

pub cycles_unite : CyclesUnite
cycles_unite core image places nestings cycles firsts main setting tree spaces nodes t earlier stages hs ps own sh s the_law before few shows has binds some =
    let plan = plan_of tree spaces nodes in
    let joining = joining_blocks_of core image places nestings setting plan (first_of spaces) in
    let joined = joins_bound core image places nestings setting plan (first_of spaces) t stages hs ps own binds in
    let source = core_source core setting in
    let done = turns t 0 hs sh in
    let planned = cycles_are_rounds core image places nestings setting tree spaces nodes t earlier stages hs ps own sh s before.spaced shows has binds in (
      planned.counts,
      ⊎_elim
          (λ whole.
          let left = what_is_left source image plan joining t stages hs done.harts ps whole.did own whole.own joined whole.as_many whole.after in
          let many : AreAsMany nodes done.harts ps
          = both_alike nodes done.harts ps (first_alike nodes done.harts whole.did whole.as_many) (second_alike nodes hs ps before.as_many) in
          record {
            whole = whole;
            idle = (all_joined core image places nestings setting tree spaces nodes t stages hs ps own before binds some done.harts whole.did whole.own many left).0;
            all = all_unite core image places nestings setting tree spaces nodes t stages hs ps own before binds some;
            before = before_start core image places nestings setting tree spaces nodes t stages hs ps own before binds some done.harts whole.did whole.own many left;
            roots = roots core image places nestings setting tree spaces nodes t stages hs ps own before binds some done.harts whole.did whole.own many left;
            together = λ i at.
                let on = goes_on core image places nestings setting tree spaces nodes t stages hs ps own before binds some done.harts whole.did whole.own many left cycles firsts main done.shared.control i the_law
                few whole.has at in
                let begins = start core image places nestings setting tree spaces nodes t stages hs ps own before binds some done.harts whole.did whole.own many left cycles firsts main done.shared.control i
                the_law few whole.has at in
                record {
                  op = begins.op;
                  stands = begins.stands;
                  about = about core image places nestings setting tree spaces nodes t stages hs ps own before binds some done.harts whole.did whole.own many left cycles firsts main done.shared.control i the_law
                      few whole.has at;
                  distance = cycles.before i;
                  few = the_law.few_to_begin i begins.op begins.stands;
                  bound = on.bound;
                  near = on.near;
                };
          })
          (λ cut.
          absurd
          (no_fault core setting cut.place cut.site (counts_for stages) ps s cut.store (nobody_acts core image places nestings setting tree spaces nodes t stages hs ps own before binds some)
          (subst (λ l. FaultsAfter source cut.place cut.site l ps s cut.store) planned.counts cut.faults)))
          planned.round,
    )
